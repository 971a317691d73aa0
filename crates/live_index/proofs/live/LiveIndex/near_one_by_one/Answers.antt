use Rattle.std.proofs.Common.{◌≡◌, take, subst, arith}
use Rattle.std.proofs.lemmas.List.{take_all}
use Rattle.volume4d.specs.Slab.{slab_has, slabs_have}
use Rattle.live_index.specs.Live.{volumes_of, AreNearPlans}
use Rattle.slab_regions.specs.Regions.{sought_has}
use Rattle.live_index.proofs.NearLemmas.{adds_extent, adds_nothing, adds_within, found_weaker, near_plans}
use Rattle.live_index.proofs.live.LiveIndex.near_one_by_one.Goals as goal

pub loop-extent-init : goal.loop-extent-init
loop-extent-init c = (
  c.new-near.result,
  c.new-near.ensures.keys,
  λ bounded. adds_nothing c.args.wanted.now _ (volumes_of c.args.self.now) c.new-near.result
      (λ e x here. cc),
)

pub loop-extent-preserved : goal.loop-extent-preserved
loop-extent-preserved c =
    let (start, none, before) = c.loop-extent.invariant in (
      start,
      none,
      λ bounded. adds_extent c.args.wanted.now c.args.extents.now c.loop-extent.extent-index
          c.extent-item.result (volumes_of c.args.self.now) start c.loop-extent.near c.add_near.new.near
          c.loop-extent-test.true c.extent-item.is (before bounded)
          (adds_within c.args.wanted.now (slab_has c.extent-item.result) (sought_has c.one.result)
          (volumes_of c.args.self.now) c.loop-extent.near c.add_near.new.near c.one.ensures
          (c.in_ok-add_near.ensures bounded)),
    )

pub returns : goal.returns
returns c =
    let (start, none, added) = c.loop-extent.invariant in
    let all : take c.loop-extent.extent-index c.args.extents.now ≡ c.args.extents.now =
    take_all c.loop-extent.extent-index c.args.extents.now (omega (arith, c.loop-extent-test.false)) in
    found_weaker c.if_complete.result (λ keys is bounded.
    subst (λ es. AreNearPlans c.args.wanted.now (slabs_have es) (volumes_of c.args.self.now) keys.items) all
    (near_plans c.args.wanted.now (slabs_have (take c.loop-extent.extent-index c.args.extents.now))
    (volumes_of c.args.self.now) start c.loop-extent.near keys.items none (added bounded) is.0 is.1))
    c.if_complete.ensures
