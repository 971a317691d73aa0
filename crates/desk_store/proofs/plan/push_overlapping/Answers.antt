use Rattle.std.proofs.Common.{◌∙◌}
use Rattle.volume4d.specs.Slab.{top_held}
use Rattle.desk_store.proofs.PlanLemmas.{overlaps_at}
use Rattle.desk_store.proofs.RivalLemmas.{slab_adds, slab_outside}
use Rattle.desk_store.proofs.plan.push_overlapping.Goals as goal
use Rattle.desk_store.proofs.plan.push_overlapping.Goals.{then-overlaps_one+in_ok-push, else-overlaps_one}

pub loop-slab-preserved : goal.loop-slab-preserved
loop-slab-preserved c = λ x inside.
    let slabs = c.args.slabs.now in
    let before = top_held c.args.helds.now.items x in
    let so_far = c.loop-slab.invariant x inside in
    elim c.if-overlaps_one.branch [
      | then-overlaps_one+in_ok-push w ↦ rw (w.helds-is, w.in_ok-push.ensures.items)
          (slab_adds c.loop-slab.helds.items slabs c.loop-slab.slab-index c.slab-item.result c.args.priority x
          before c.loop-slab-test.true c.slab-item.is so_far)
      | else-overlaps_one w ↦ rw w.helds-is (slab_outside slabs c.loop-slab.slab-index c.slab-item.result
          c.args.priority x c.overlaps_one.result _ before c.loop-slab-test.true c.slab-item.is
          w.if-overlaps_one.false
          (λ e. c.overlaps_one.ensures ∙ overlaps_at c.slab-item.result c.args.extents.now x e inside) so_far)
    ]
