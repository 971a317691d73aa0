use Rattle.std.proofs.Common.{◌≡◌, ◌+◌, length}
use Rattle.desk_store.specs.World.{rows_by, filed_all}
use Rattle.desk_store.proofs.list.count_of.Given as goal

-- those counted and those that are left are all
abbrev pub invariant-loop-key : goal.invariant-loop-key
invariant-loop-key l = l.count + length (rows_by l.operator (filed_all l.key-iterator))
    ≡ length (rows_by l.operator (filed_all l.plans.entries))
