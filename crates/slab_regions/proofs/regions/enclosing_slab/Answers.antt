use Rattle.slab_regions.proofs.RegionLemmas.{whole_first, whole_on}
use Rattle.slab_regions.proofs.regions.enclosing_slab.Goals as goal

pub loop-extent-init : goal.loop-extent-init
loop-extent-init c = whole_first c.args.first.now

pub loop-extent-preserved : goal.loop-extent-preserved
loop-extent-preserved c =
    whole_on c.args.first.now c.args.others.now c.loop-extent.extent-index c.extent-item.result
    c.loop-extent.whole c.join-whole.result c.loop-extent-test.true c.extent-item.is c.loop-extent.invariant
    c.join-whole.ensures
