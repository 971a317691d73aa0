use Rattle.std.proofs.Common.{◌∙◌, ◌||◌, ap}
use Rattle.volume4d.specs.Slab.{slab_has, slabs_have}
use Rattle.slab_regions.proofs.RegionLemmas.{gathered_joined, gathered_pushed}
use Rattle.slab_regions.proofs.regions.joined_from.Goals as goal
use Rattle.slab_regions.proofs.regions.joined_from.Goals.{then-extent-region, else-extent-region+in_ok-push}

pub loop-extent-preserved : goal.loop-extent-preserved
loop-extent-preserved c =
    let first = c.args.first.now in
    let others = c.args.others.now in
    let at = c.loop-extent.extent-index in
    let extent = c.extent-item.result in
    let regions = c.loop-extent.regions.items in
    let region = c.if-extent-region.region in
    elim c.if-extent-region.branch [
      | then-extent-region w ↦ λ x h. ap (λ v. slabs_have v.items x || slab_has region x) w.regions-is
          ∙ ap (λ r. slabs_have regions x || slab_has r x) w.region-is
          ∙ gathered_joined first others regions at extent c.loop-extent.region w.join-region.result
          c.loop-extent-test.true c.extent-item.is c.loop-extent.invariant w.join-region.ensures x h
      | else-extent-region+in_ok-push w ↦ λ x h.
          ap (λ v. slabs_have v.items x || slab_has region x) w.regions-is
          ∙ ap (λ r. slabs_have w.push.new.self.items x || slab_has r x) w.region-is
          ∙ gathered_pushed first others regions w.push.new.self.items at extent c.loop-extent.region
          c.loop-extent-test.true c.extent-item.is c.loop-extent.invariant w.in_ok-push.ensures.items x h
    ]
