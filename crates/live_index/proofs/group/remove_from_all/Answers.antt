use Rattle.std.proofs.Common.{◌∙◌, ap, refl, rules, subst, sym}
use Rattle.std.specs.List.{AllByRecursion, filter}
use Rattle.desk_store.proofs.lemmas.Order.{all_filter}
use Rattle.live_index.specs.declared.group.Group.{Group}
use Rattle.live_index.specs.Live.{IsInBox, IsBoundedGroup, is_of_other_plan, volumes_in}
use Rattle.live_index.proofs.GatherLemmas.{leave_begins, leave_goes_on}
use Rattle.live_index.proofs.group.remove_from_all.Goals as goal

pub loop-at-init : goal.loop-at-init
loop-at-init c = leave_begins (λ g. volumes_in g.chunks.items) IsBoundedGroup
    (is_of_other_plan c.args.operator.now c.args.id.now) c.args.groups.now.items

pub loop-at-preserved : goal.loop-at-preserved
loop-at-preserved c =
    let stays = is_of_other_plan c.args.operator.now c.args.id.now in
    let group = c.index_mut.result.now in
    let left : Group = record group { chunks = c.remove_from_all.new.chunks } in
    leave_goes_on (λ g. volumes_in g.chunks.items) IsBoundedGroup stays c.args.groups.now.items c.loop-at.at
    c.loop-at.groups.items _ group left
    c.loop-at.invariant (search rules) refl
    (c.remove_from_all.ensures.same
    ∙ ap (λ (g : Group). filter stays (volumes_in g.chunks.items)) c.index_mut.ensures.value)
    (λ h. let was = subst IsBoundedGroup (sym c.index_mut.ensures.value) h in record {
      each = c.remove_from_all.ensures.bounded was.each;
      all = subst (AllByRecursion (IsInBox group.bbox)) (sym c.remove_from_all.ensures.same)
          (all_filter (IsInBox group.bbox) stays (volumes_in group.chunks.items) was.all);
    })
