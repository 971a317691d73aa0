use Rattle.std.proofs.Common.{◌≡◌, ◌+◌}
use Rattle.desk_store.specs.World.{cells_beside, rows_by, spans_beside, filed_all}
use Rattle.desk_store.proofs.list.sizes_of.Given as goal

-- those counted and those that are left are all
abbrev pub invariant-loop-key : goal.invariant-loop-key
invariant-loop-key l =
    record {
      spans : l.sizes.spans + spans_beside l.id (rows_by l.operator (filed_all l.key-iterator))
          ≡ spans_beside l.id (rows_by l.operator (filed_all l.plans.entries));
      cells : l.sizes.cells + cells_beside l.id (rows_by l.operator (filed_all l.key-iterator))
          ≡ cells_beside l.id (rows_by l.operator (filed_all l.plans.entries));
    }
