use Rattle.volume4d.specs.Slab.{top_held}
use Rattle.desk_store.proofs.RivalLemmas.{slab_adds}
use Rattle.desk_store.proofs.plan.push_all.Goals as goal

pub loop-slab-preserved : goal.loop-slab-preserved
loop-slab-preserved c = λ x.
    rw c.in_ok-push.ensures.items
    (slab_adds c.loop-slab.helds.items c.args.slabs.now c.loop-slab.slab-index c.slab-item.result
    c.args.priority x (top_held c.args.helds.now.items x) c.loop-slab-test.true c.slab-item.is
    (c.loop-slab.invariant x))
