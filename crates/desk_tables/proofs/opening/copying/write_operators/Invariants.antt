use Rattle.std.proofs.Common.{◌≡◌, drop, take}
use Rattle.sqlite.specs.State.{HasCleanDisk}
use Rattle.sqlite.specs.Held.{state}
use Rattle.table_load.proofs.lemmas.Moving.{HasAdded}
use Rattle.desk_tables.specs.Copying.{AddsOperatorRows}
use Rattle.table_load.specs.Opening.{AreNewOperators}
use Rattle.desk_tables.proofs.opening.copying.write_operators.Given as goal

-- the rows of the operators so far were added, and those of the others can be, if all could
abbrev pub invariant-operators : goal.invariant-operators
invariant-operators g l = (l.tx.conn.ghost_name ≡ l.fn.tx.conn.ghost_name)
    × HasAdded g.S.Store l.fn.tx.conn.now l.tx.conn.now (AddsOperatorRows (take l.listed-index l.operators))
    × (AreNewOperators l.operators (state g.S.Store l.fn.tx.conn.now).now
    → HasCleanDisk (state g.S.Store l.tx.conn.now)
    → AreNewOperators (drop l.listed-index l.operators) (state g.S.Store l.tx.conn.now).now)
