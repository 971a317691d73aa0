use Rattle.std.proofs.Common.{◌∙◌, ap, false}
use Rattle.volume4d.specs.Slab.{slab_has, top_held}
use Rattle.desk_run.proofs.ListingLemmas.{at_mine, slab_adds, slab_passed}
use Rattle.desk_run.proofs.pending.near.push_slabs.Goals as goal
use Rattle.desk_run.proofs.pending.near.push_slabs.Goals.{then-may_share+in_ok-push, else-may_share}

pub loop-slab-preserved : goal.loop-slab-preserved
loop-slab-preserved c =
    let slabs = c.args.slabs.now in
    let slab = c.slab-item.result in
    let so_far = c.loop-slab.invariant in
    record {
      order = c.remaining_at-left.ensures.order;
      left = c.remaining_at-left.ensures.left;
      levels = λ x has.
          (let before = top_held c.args.theirs.now.items x in
          elim c.if-may_share.branch [
            | then-may_share+in_ok-push w ↦ ap (λ v. top_held v.items x) w.theirs-is
                ∙ slab_adds c.loop-slab.theirs.items _ slabs c.loop-slab.slab-index slab c.args.priority x
                before c.loop-slab-test.true c.slab-item.is w.in_ok-push.ensures.items
                (so_far.levels x has)
            | else-may_share w ↦ ap (λ v. top_held v.items x) w.theirs-is
                ∙ slab_passed slabs c.loop-slab.slab-index slab c.args.priority x _ before
                c.loop-slab-test.true c.slab-item.is
                (at_mine (slab_has slab x) false c.args.mine.now c.remaining_at-left.result.now slab x
                c.remaining_at-left.ensures.left has
                (c.may_share.ensures w.if-may_share.false x (c.requires.bounds x has)
                (c.requires.parts x has)) (λ e. e))
                (so_far.levels x has)
          ]);
    }
