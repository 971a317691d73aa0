use Rattle.std.proofs.Common.{◌∙◌, set, subst}
use Rattle.live_index.specs.declared.group.Group.{Group}
use Rattle.live_index.specs.Live.{RemovesPlanVolumes, volumes_in, volumes_under}
use Rattle.live_index.proofs.GatherLemmas.{set_one}
use Rattle.live_index.proofs.LeftLemmas.{left_as, left_before, left_behind}
use Rattle.live_index.proofs.group.remove_from_group.Goals as goal

pub returns-clause-removed : goal.returns-clause-removed
returns-clause-removed c =
    let o = c.args.rank.now.plan.operator in
    let id = c.args.rank.now.plan.id in
    let old = c.args.groups.now.items in
    let gone = c.remove_plan-gone.result in
    left_as o id (volumes_under old) (volumes_under (set old c.args.at c.remove_plan-gone.new.self)) _ gone
    (set_one (λ g. volumes_in g.chunks.items) (λ xs ys. RemovesPlanVolumes o id xs ys gone) (left_behind o id gone)
    (left_before o id gone) old c.args.at c.index_mut.result.now c.remove_plan-gone.new.self c.requires
    (subst (λ (g : Group). RemovesPlanVolumes o id (volumes_in g.chunks.items)
    (volumes_in c.remove_plan-gone.new.self.chunks.items) gone)
    c.index_mut.ensures.value c.remove_plan-gone.ensures.removed))
    (c.merge-2.ensures.same ∙ c.merge.ensures.same ∙ c.drop_if_empty.ensures.same)
