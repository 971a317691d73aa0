use Rattle.std.proofs.Common.{◌≡◌, map, take}
use Rattle.desk_changes.specs.RowChanges.{span_row_in}
use Rattle.desk_store.specs.Changes.{filed_by}
use Rattle.row_codec.specs.Tables.{AreSpanRowsFrom}
use Rattle.row_codec.proofs.records.area_spans.Given as goal

-- the rows of the volumes so far
abbrev pub invariant-loop-volume : goal.invariant-loop-volume
invariant-loop-volume l =
    (l.place ≡ l.volume-index) × AreSpanRowsFrom (filed_by l.operator l.plan) 0
    (take l.volume-index l.volumes) (map span_row_in l.rows.items)
