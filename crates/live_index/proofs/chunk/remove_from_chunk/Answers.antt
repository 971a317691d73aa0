use Rattle.std.proofs.Common.{◌∙◌, set, subst}
use Rattle.live_index.specs.declared.chunk.Chunk.{Chunk}
use Rattle.live_index.specs.Live.{RemovesPlanVolumes, volumes_in}
use Rattle.live_index.proofs.GatherLemmas.{set_one}
use Rattle.live_index.proofs.LeftLemmas.{left_as, left_before, left_behind}
use Rattle.live_index.proofs.chunk.remove_from_chunk.Goals as goal

pub returns-clause-removed : goal.returns-clause-removed
returns-clause-removed c =
    let o = c.args.operator.now in
    let id = c.args.id.now in
    let old = c.args.chunks.now.items in
    let gone = c.remove_plan-gone.result in
    left_as o id (volumes_in old) (volumes_in (set old c.args.at c.remove_plan-gone.new.self)) _ gone
    (set_one (λ k. k.volumes.items) (λ xs ys. RemovesPlanVolumes o id xs ys gone) (left_behind o id gone)
    (left_before o id gone) old c.args.at c.index_mut.result.now c.remove_plan-gone.new.self c.requires
    (subst (λ (k : Chunk). RemovesPlanVolumes o id k.volumes.items c.remove_plan-gone.new.self.volumes.items gone)
    c.index_mut.ensures.value c.remove_plan-gone.ensures.removed))
    (c.merge-2.ensures.same ∙ c.merge.ensures.same ∙ c.drop_if_empty.ensures.same)
