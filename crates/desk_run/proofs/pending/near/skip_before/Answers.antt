use Rattle.std.proofs.Common.{subst}
use Rattle.volume4d.specs.Sweep.{Ascend}
use Rattle.desk_run.proofs.ListingLemmas.{over, tail_ascends}
use Rattle.desk_run.proofs.pending.near.skip_before.Goals as goal

pub loop-first-preserved : goal.loop-first-preserved
loop-first-preserved c =
    record {
      order = tail_ascends c.in-Some.first.now c.in-Some.others.now
          (subst (Ascend (λ s. s)) c.in-Some.ensures.cases.0 c.loop-first.invariant.order);
      left = over c.args.position c.args.slabs.now c.loop-first.left.now c.in-Some.others.now
          c.in-Some.first.now c.loop-first.invariant.left c.in-Some.ensures.cases.0
          c.if-position-first.false;
    }
