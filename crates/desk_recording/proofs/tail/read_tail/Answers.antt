use Rattle.std.proofs.Common.{arith, subst, sym}
use Rattle.desk_recording.specs.Tail.{AreApplied}
use Rattle.desk_recording.proofs.TailLemmas.{counts_more, ends_full, goes_on, none_said, unreported}
use Rattle.desk_recording.proofs.tail.read_tail.Goals as goal

pub loop-tail-init : goal.loop-tail-init
loop-tail-init g c = subst (AreApplied _ _) (sym c.empty-tail.ensures) (none_said
    (g.R.Read.remaining c.args.input.now))

pub loop-tail-preserved : goal.loop-tail-preserved
loop-tail-preserved g c =
    goes_on g.row.R.Denot c.in-Ok-None.field-0 _ _ _ _ _ c.in-Ok-None.field-0-is c.loop-tail.invariant
    c.in-Ok-None.ensures

pub loop-tail-smaller : goal.loop-tail-smaller
loop-tail-smaller g c = omega (
  arith,
  c.loop-tail-test.true,
  counts_more g.row.R.Denot c.in-Ok-None.field-0 _ _ _ _ c.in-Ok-None.field-0-is c.in-Ok-None.ensures
      c.loop-tail-test.true,
)

pub returns-clause-err : goal.returns-clause-err
returns-clause-err g c = ends_full _ _ _ c.loop-tail-test.false c.loop-tail.invariant

pub returns-in-Err-clause-err : goal.returns-in-Err-clause-err
returns-in-Err-clause-err g c = unreported c.in-Err.fault _ _ _ _ _ c.loop-tail.invariant c.in-Err.ensures
