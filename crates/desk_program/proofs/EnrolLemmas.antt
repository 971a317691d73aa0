-- Operators listed one after the other.
use Rattle.std.proofs.Common.{◌≡◌, ◌≤◌, ◌∙◌, ℕ, List, [], ◌∷◌, ◌++◌, Some, Result, Ok, Err, IfErr, ap, refl, sym}
use Rattle.std.specs.Result.{IsErrAnd}
use Rattle.desk_store.specs.Changes.{HasRisen}
use Rattle.desk_run.specs.Calls.{IsStoreFaultCounted}
use Rattle.desk_run.specs.Verdicts.{DeskWorld, enrolled}
use Rattle.desk_run.specs.declared.fault.DeskFault.{DeskFault}
use Rattle.desk_run.specs.declared.fault.DeskFault.TheVariants.{Store}
use Rattle.desk_run.proofs.lemmas.Crash.{risen_since}
use Rattle.desk_cli.specs.declared.line.Enrolment.{Enrolment}
use Rattle.desk_program.specs.Enrolling.{AreEnrolledSoFar, HasEnrolled, with_operators}

-- some, and then one more
pub one_more : (es : List Enrolment) (w : DeskWorld) (e : Enrolment) → with_operators w (es ++ e ∷ [])
    ≡ enrolled (with_operators w es) e.operator e.ceiling
one_more [] w e = refl
one_more (x ∷ xs) w e = one_more xs _ e

-- the fault of the last enrolment was counted, since the first
pub counted_since : {V S : Type 0} (faults : S → ℕ) (first old new : S) (r : Result V DeskFault)
    (fault : DeskFault) → IsErrAnd r (λ e. e ≡ fault) → faults first ≤ faults old
    → (Some fault ≡ Some Store → HasRisen (faults old) (faults new))
    → IfErr r (IsStoreFaultCounted faults first new)
counted_since faults first old new (Ok v) fault handed below cause = tt
counted_since faults first old new (Err e) fault handed below cause = λ store.
    risen_since _ _ _ below (cause (ap Some (sym handed ∙ store)))

-- an enrolment that failed: those before it are listed
pub listed_err : {A B : Type 0} (done : Result A B) (P : B → Type 0) (H : Type 0) (es : List Enrolment)
    (w after : DeskWorld) → IsErrAnd done P → AreEnrolledSoFar H es w after → HasEnrolled H done es w after
listed_err (Ok d) P H es w after is so_far = absurd is
listed_err (Err e) P H es w after is so_far = so_far
