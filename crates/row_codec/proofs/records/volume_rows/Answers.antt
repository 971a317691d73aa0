use Rattle.std.proofs.Common.{get_or, [], ◌∷◌, map, ap, sym, ◌∙◌, ◌+◌}
use Rattle.volume4d.specs.Footprint.{footprint_bytes}
use Rattle.desk_changes.specs.RowChanges.{volume_row_in, cover_of}
use Rattle.desk_store.specs.Changes.{filed_by}
use Rattle.row_codec.specs.Tables.{canon_bytes}
use Rattle.row_codec.proofs.RecordLemmas.{map_append, at_both, volume_put, cover_put}
use Rattle.row_codec.proofs.records.volume_rows.Goals as goal

pub loop-volume-preserved : goal.loop-volume-preserved
loop-volume-preserved c =
    let place = c.loop-volume.place in
    let i = c.loop-volume.volume-index in
    let volumes = c.volumes-volumes.result.now in
    let p = filed_by c.args.operator.now c.args.plan.now in
    let volume = c.volume-item.result in
    let asked = c.index-asked-at.result in
    let canon = c.index-canon-at.result in
    let same = c.requires.asked ∙ ap (map (λ v. footprint_bytes v.footprint))
    (sym c.volumes-volumes.ensures.value) in
    let covered = c.requires.canon ∙ ap (map (λ v. canon_bytes v.footprint))
    (sym c.volumes-volumes.ensures.value) in
    let bytes = c.deref.ensures.value ∙ ap (λ b. b.items) c.index-asked-at.is
    ∙ ap (λ n. (get_or c.args.asked.now n asked).items) c.loop-volume.invariant.0
    ∙ at_both (λ b. b.items) (λ v. footprint_bytes v.footprint) c.args.asked.now volumes i asked volume same
    c.loop-volume-test.true ∙ ap (λ v. footprint_bytes v.footprint) (sym c.volume-item.is) in
    let cover = c.deref-in-loop-volume.ensures.value ∙ ap (λ b. b.items) c.index-canon-at.is
    ∙ ap (λ n. (get_or c.args.canon.now n canon).items) c.loop-volume.invariant.0
    ∙ at_both (λ b. b.items) (λ v. canon_bytes v.footprint) c.args.canon.now volumes i canon volume covered
    c.loop-volume-test.true ∙ ap (λ v. canon_bytes v.footprint) (sym c.volume-item.is) in (
      ap (λ n. n + 1) c.loop-volume.invariant.0,
      ap (map volume_row_in) c.in_ok-push.ensures.items
          ∙ map_append volume_row_in c.loop-volume.rows.items (c.volume_row.result ∷ [])
          ∙ volume_put p volumes i place c.volume-item.result c.volume-item.result
          (map volume_row_in c.loop-volume.rows.items) (volume_row_in c.volume_row.result) c.args.id.now
          c.deref.result.now
          c.loop-volume-test.true c.volume-item.is c.loop-volume.invariant.0 c.requires.id bytes
          c.loop-volume.invariant.1 c.volume_row.ensures.volume,
      ap (map cover_of) c.in_ok-push.ensures.items
          ∙ map_append cover_of c.loop-volume.rows.items (c.volume_row.result ∷ [])
          ∙ cover_put p volumes i place c.volume-item.result c.volume-item.result
          (map cover_of c.loop-volume.rows.items) (cover_of c.volume_row.result) c.args.id.now
          c.deref-in-loop-volume.result.now
          c.loop-volume-test.true c.volume-item.is c.loop-volume.invariant.0 c.requires.id cover
          c.loop-volume.invariant.2 c.volume_row.ensures.cover,
    )
