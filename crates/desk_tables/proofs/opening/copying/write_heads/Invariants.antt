use Rattle.std.proofs.Common.{◌≡◌, drop, take}
use Rattle.sqlite.specs.State.{HasCleanDisk}
use Rattle.sqlite.specs.Held.{state}
use Rattle.table_load.proofs.lemmas.Moving.{HasAdded}
use Rattle.desk_tables.specs.Copying.{AddsHeadRows}
use Rattle.table_load.specs.Opening.{AreNewHeads}
use Rattle.desk_tables.proofs.opening.copying.write_heads.Given as goal

-- the rows of the plans so far were added, and those of the others can be, if all could
abbrev pub invariant-plans : goal.invariant-plans
invariant-plans g l = (l.tx.conn.ghost_name ≡ l.fn.tx.conn.ghost_name)
    × HasAdded g.S.Store l.fn.tx.conn.now l.tx.conn.now (AddsHeadRows (take l.plan-index l.plans))
    × (AreNewHeads l.plans (state g.S.Store l.fn.tx.conn.now).now
    → HasCleanDisk (state g.S.Store l.tx.conn.now)
    → AreNewHeads (drop l.plan-index l.plans) (state g.S.Store l.tx.conn.now).now)
