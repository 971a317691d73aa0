use Rattle.std.proofs.Common.{◌∙◌, ap, refl, rules, subst, sym}
use Rattle.std.specs.List.{AllByRecursion, filter}
use Rattle.desk_store.proofs.lemmas.Order.{all_filter}
use Rattle.live_index.specs.declared.chunk.Chunk.{Chunk}
use Rattle.live_index.specs.Live.{IsInBox, IsBoundedChunk, is_of_other_plan}
use Rattle.live_index.proofs.GatherLemmas.{leave_begins, leave_goes_on}
use Rattle.live_index.proofs.chunk.remove_from_all.Goals as goal

pub loop-at-init : goal.loop-at-init
loop-at-init c = leave_begins (λ k. k.volumes.items) IsBoundedChunk (is_of_other_plan c.args.operator.now c.args.id.now)
    c.args.chunks.now.items

pub loop-at-preserved : goal.loop-at-preserved
loop-at-preserved c =
    let stays = is_of_other_plan c.args.operator.now c.args.id.now in
    let chunk = c.index_mut.result.now in
    let left : Chunk = record chunk { volumes = c.remove_plan_volumes.new.volumes } in
    leave_goes_on (λ k. k.volumes.items) IsBoundedChunk stays c.args.chunks.now.items c.loop-at.at
    c.loop-at.chunks.items _ chunk left
    c.loop-at.invariant (search rules) refl
    (c.remove_plan_volumes.ensures.items
    ∙ ap (λ (k : Chunk). filter stays k.volumes.items) c.index_mut.ensures.value)
    (λ h. subst (AllByRecursion (IsInBox chunk.bbox)) (sym c.remove_plan_volumes.ensures.items)
    (all_filter (IsInBox chunk.bbox) stays chunk.volumes.items
    (subst IsBoundedChunk (sym c.index_mut.ensures.value) h)))
