use Rattle.volume4d.specs.Slab.{slab_has, top_held}
use Rattle.slab_regions.proofs.RegionLemmas.{clipped_more, clipped_none}
use Rattle.slab_regions.proofs.regions.push_clipped.Goals as goal

pub loop-held-init : goal.loop-held-init
loop-held-init c = λ x. clipped_none (top_held c.args.helds.now.items x) (slab_has c.args.region.now x) x

pub loop-held-preserved : goal.loop-held-preserved
loop-held-preserved c = λ x.
    clipped_more c.loop-held.helds.items c.push.new.self.items c.args.more.now c.loop-held.held-index
    c.held-item.result c.args.region.now c.clip.result x (top_held c.args.helds.now.items x)
    c.loop-held-test.true c.held-item.is c.clip.ensures c.in_ok-push.ensures.items (c.loop-held.invariant x)
