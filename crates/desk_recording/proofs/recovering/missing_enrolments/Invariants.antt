use Rattle.std.proofs.Common.{◌≡◌, ◌++◌, drop}
use Rattle.desk_cli.specs.Lines.{AreEnrolments}
use Rattle.desk_recording.specs.Recovering as spec
use Rattle.desk_recording.proofs.recovering.missing_enrolments.Given as goal

-- those so far, with those among the enrolments that are left, are all
abbrev pub invariant-loop-enrolment : goal.invariant-loop-enrolment
invariant-loop-enrolment l =
    record {
      are : l.missing.items ++ spec.missing_enrolments l.fn.roll (drop l.enrolment-index l.fn.enrolments)
          ≡ spec.missing_enrolments l.fn.roll l.fn.enrolments;
      small : AreEnrolments l.missing.items;
    }
