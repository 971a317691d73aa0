use Rattle.std.proofs.Common.{◌≡◌, ◌++◌}
use Rattle.desk_store.specs.World.{rows_by, filed_all}
use Rattle.desk_store.proofs.list.rows_of.Given as goal

-- the rows so far and those of the plans that are left are the rows of all
abbrev pub invariant-loop-key : goal.invariant-loop-key
invariant-loop-key l = l.rows.items ++ rows_by l.operator (filed_all l.key-iterator)
    ≡ rows_by l.operator (filed_all l.plans.entries)
