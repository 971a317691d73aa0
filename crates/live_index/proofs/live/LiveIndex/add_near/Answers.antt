use Rattle.std.proofs.Common.{subst}
use Rattle.std.proofs.lemmas.Result.{on_ok_weaker}
use Rattle.slab_regions.specs.Regions.{sought_has}
use Rattle.live_index.specs.Live.{AreBoundedGroups, volumes_under, AddsPlans}
use Rattle.live_index.proofs.NearLemmas.{adds_both}
use Rattle.live_index.proofs.live.LiveIndex.add_near.Goals as goal

pub returns : goal.returns
returns c =
    let s = c.args.wanted.now in
    let inside = sought_has c.args.sought.now in
    let kept = c.args.self.now in
    let mid = c.add_near_in.new.near in
    on_ok_weaker c.add_unindexed.result (λ added group_bounded.
    adds_both s inside (volumes_under kept.groups.items) kept.unindexed.items c.args.near.now mid
    c.add_unindexed.new.near
    (subst (λ gs. AreBoundedGroups gs → AddsPlans s inside (volumes_under gs) c.args.near.now mid)
    c.deref.ensures.value c.in_ok-add_near_in.ensures group_bounded) added) c.add_unindexed.ensures
