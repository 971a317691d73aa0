use Rattle.volume4d.proofs.ClusterLemmas.{in_turn_at}
use Rattle.volume4d.proofs.clusters.cluster_len.Goals as goal

pub returns-then-slab-reach-clause-in_turn : goal.returns-then-slab-reach-clause-in_turn
returns-then-slab-reach-clause-in_turn c =
    in_turn_at c.args.slabs.now c.loop-place.place c.index-slabs-place.result c.loop-place.reach
    c.loop-place-test.true c.index-slabs-place.is c.requires.order c.loop-place.invariant.reach
    c.if-reach-slab.true
