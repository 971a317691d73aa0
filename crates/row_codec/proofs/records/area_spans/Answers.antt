use Rattle.std.proofs.Common.{◌++◌, map, ap, ◌∙◌, ◌+◌}
use Rattle.desk_changes.specs.RowChanges.{span_row_in}
use Rattle.desk_store.specs.Changes.{filed_by}
use Rattle.row_codec.specs.Tables.{slab_record}
use Rattle.row_codec.proofs.RecordLemmas.{map_append, spans_put}
use Rattle.row_codec.proofs.records.area_spans.Goals as goal

pub loop-volume-preserved : goal.loop-volume-preserved
loop-volume-preserved c =
    let rows = c.loop-volume.rows.items in
    let more = c.in_ok-slab_rows.field-0.items in (
      ap (λ n. n + 1) c.loop-volume.invariant.0,
      spans_put (filed_by c.args.operator.now c.args.plan.now) c.volumes-volumes.result.now
          c.loop-volume.volume-index c.loop-volume.place c.volume-item.result c.volume-item.result
          (map span_row_in rows) (map span_row_in more) (map span_row_in c.extend_from_slice.new.self.items)
          c.args.id.now
          c.in_ok-slabs.slabs.items
          c.loop-volume-test.true c.volume-item.is c.loop-volume.invariant.0 c.requires
          c.in_ok-slabs.ensures.ranges c.loop-volume.invariant.1
          (c.in_ok-slab_rows.ensures
          ∙ ap (map (slab_record c.args.operator.now c.args.id.now c.loop-volume.place
          c.args.plan.now.priority)) c.deref.ensures.value)
          (ap (map span_row_in) (c.in_ok-extend_from_slice.ensures.items
          ∙ ap (λ xs. rows ++ xs) c.deref-in-loop-volume.ensures.value) ∙ map_append span_row_in rows more),
    )
