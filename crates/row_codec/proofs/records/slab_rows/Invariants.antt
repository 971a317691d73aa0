use Rattle.std.proofs.Common.{◌≡◌, map, take}
use Rattle.desk_changes.specs.RowChanges.{span_row_in}
use Rattle.row_codec.specs.Tables.{slab_record}
use Rattle.row_codec.proofs.records.slab_rows.Given as goal

-- the rows of the slabs so far
abbrev pub invariant-loop-slab : goal.invariant-loop-slab
invariant-loop-slab l = map span_row_in l.rows.items ≡ map (slab_record l.operator l.id l.place l.priority)
    (take l.slab-index l.slabs)
