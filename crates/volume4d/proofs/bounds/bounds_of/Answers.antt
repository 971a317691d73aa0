use Rattle.std.proofs.Common.{arith}
use Rattle.volume4d.proofs.BoundLemmas.{one_more, bounds_are}
use Rattle.volume4d.proofs.bounds.bounds_of.Goals as goal

pub loop-slab-preserved : goal.loop-slab-preserved
loop-slab-preserved c =
    one_more c.args.slabs.now c.loop-slab.slab-index c.slab-item.result c.loop-slab.bounds
    c.join-bounds.result c.loop-slab-test.true c.slab-item.is c.loop-slab.invariant
    c.join-bounds.ensures

pub returns : goal.returns
returns c =
    bounds_are c.args.slabs.now c.loop-slab.slab-index c.loop-slab.bounds
    (omega (arith, c.loop-slab-test.false)) c.requires.each c.loop-slab.invariant
