use Rattle.std.proofs.Common.{◌≡◌, map, take}
use Rattle.desk_changes.specs.RowChanges.{volume_row_in, cover_of}
use Rattle.desk_store.specs.Changes.{filed_by}
use Rattle.row_codec.specs.Tables.{rows_from, row_of_cover, volume_rows_from}
use Rattle.row_codec.proofs.records.volume_rows.Given as goal

-- the rows of the volumes so far
abbrev pub invariant-loop-volume : goal.invariant-loop-volume
invariant-loop-volume l =
    (l.place ≡ l.volume-index)
    × (map volume_row_in l.rows.items
    ≡ volume_rows_from (filed_by l.operator l.plan) 0 (take l.volume-index l.volumes))
    × (map cover_of l.rows.items
    ≡ rows_from row_of_cover (filed_by l.operator l.plan) 0 (take l.volume-index l.volumes))
