use Rattle.std.proofs.Common.{refl}
use Rattle.volume4d.proofs.LaneLemmas.{one_behind, tail_ascends}
use Rattle.volume4d.proofs.sweep.without_skipped.Goals as goal

pub loop-slab-preserved : goal.loop-slab-preserved
loop-slab-preserved c =
    let slab = c.in-Some.slab.now in
    let left = c.loop-slab.left.now in
    let others = c.in-Some.others.now in
    record {
      order = tail_ascends slab left others c.in-Some.ensures.cases.0 c.loop-slab.invariant.order;
      left = one_behind c.args.window.now slab c.args.position c.args.slabs.now left others
          c.in-Some.ensures.cases.0 (c.if-not-is_skipped.ensures.passed refl) c.loop-slab.invariant.left;
    }
