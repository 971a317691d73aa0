-- How a line ends if an operator isn't enrolled.
use Rattle.std.proofs.Common.{◌≡◌, ◌⊎◌, ◌∙◌, inl, inr, ap, refl, subst, ℕ, List, Option, Some, Result, Ok, Err}
use Rattle.std.specs.Prelude.{⊤}
use Rattle.desk_store.specs.World.{World}
use Rattle.desk_run.specs.Verdicts.{DeskWorld, enrolled}
use Rattle.desk_run.specs.declared.fault.DeskFault.{DeskFault}
use Rattle.desk_run.specs.Calls.{IsBreakdown as IsDeskBreakdown}
use Rattle.desk_wire.specs.Streams.{course, passed}
use Rattle.desk_cli.specs.declared.failure.ErrorCode.{ErrorCode}
use Rattle.desk_cli.specs.declared.failure.ErrorCode.TheVariants as failure
use Rattle.desk_cli.specs.declared.line.Enrolment.{Enrolment}
use Rattle.desk_cli.specs.declared.line.PlayArgs.{PlayArgs}
use Rattle.desk_cli.specs.Exits.{Ending, EndsWith, FailsWith, IsBrokenDown, IsLineBreakdown, enrolment_failure}
use Rattle.desk_program.specs.Enrolling.{AreEnrolledSoFar, on_terms, IsNotPlayed}
use Rattle.desk_program.specs.Keeping.{FindsEnrolled}

-- what it is reported as
pub reported_breakdown : (fault : DeskFault) (f : ErrorCode) → f ≡ enrolment_failure fault → IsDeskBreakdown fault
    → IsLineBreakdown f
reported_breakdown fault f is (inl memory) = inl (is ∙ ap enrolment_failure memory)
reported_breakdown fault f is (inr store) = inr (is ∙ ap enrolment_failure store)

ends_broken : (f : ErrorCode) (end : Ending) → IsLineBreakdown f → EndsWith {A = ⊤} (Err f) end
    → IsBrokenDown end
ends_broken f end (inl memory) ends = inl (subst (λ v. FailsWith v end) memory ends)
ends_broken f end (inr store) ends = inr (subst (λ v. FailsWith v end) store ends)

pub broken_down : (fault : DeskFault) (f : ErrorCode) (end : Ending) → f ≡ enrolment_failure fault
    → IsDeskBreakdown fault → EndsWith {A = ⊤} (Err f) end → IsBrokenDown end
broken_down fault f end is down ends = ends_broken f end (reported_breakdown fault f is down) ends

-- a command ends with the error code of a failed write
pub ends_unwritten : (f : ErrorCode) (end : Ending) → f ≡ failure.Write → EndsWith {A = ⊤} (Err f) end
    → FailsWith failure.Write end
ends_unwritten f end is ends = subst (λ v. FailsWith v end) is ends

-- what is found then of an enrolment
pub found_enrolled : (before : Type 0) (e : Enrolment) (end : Ending) (out : Option (List ℕ)) (w : DeskWorld)
    (found : Option World) → IsBrokenDown end → (before → found ≡ Some w.content)
    → before ⊎ (found ≡ Some (enrolled w e.operator e.ceiling).content)
    → FindsEnrolled e end (course out out) w found
found_enrolled before e end out w found down only (inl was) = inr (down, refl, only was)
found_enrolled before e end out w found down only (inr is) = inl is

-- nothing is played then
pub not_played : (H : Type 0) (play : PlayArgs) (end : Ending) (old out : Option (List ℕ))
    (w after : DeskWorld) (fault : DeskFault) (f : ErrorCode) → f ≡ enrolment_failure fault
    → IsDeskBreakdown fault → EndsWith {A = ⊤} (Err f) end
    → AreEnrolledSoFar H play.desk.enrolments.items (on_terms w play.desk.terms) after
    → IsNotPlayed H play end (passed old old out out) w after
not_played H play end old out w after fault f is down ends listed = record {
  ends = broken_down fault f end is down ends;
  listed = listed;
  unread = refl;
  unwritten = refl;
}
