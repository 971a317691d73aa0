use Rattle.std.proofs.Common.{◌≡◌, drop, take}
use Rattle.sqlite.specs.State.{HasCleanDisk}
use Rattle.sqlite.specs.Held.{state}
use Rattle.table_load.proofs.lemmas.Moving.{HasAdded}
use Rattle.table_load.specs.Moving.{AddsPlansRows}
use Rattle.table_load.specs.Opening.{AreWritable}
use Rattle.table_load.proofs.moving.write_plans.Given as goal

-- the rows of the plans so far were added, and those of the others can be, if all could
abbrev pub invariant-plans : goal.invariant-plans
invariant-plans g l = (l.tx.conn.ghost_name ≡ l.fn.tx.conn.ghost_name)
    × HasAdded g.S.Store l.fn.tx.conn.now l.tx.conn.now (AddsPlansRows (take l.plan-index l.plans))
    × (AreWritable l.plans (state g.S.Store l.fn.tx.conn.now).now
    → HasCleanDisk (state g.S.Store l.tx.conn.now)
    → AreWritable (drop l.plan-index l.plans) (state g.S.Store l.tx.conn.now).now)
