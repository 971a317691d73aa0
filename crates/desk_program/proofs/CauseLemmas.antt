-- Why a line ends with a store that failed.
use Rattle.std.proofs.Common.{◌≡◌, ◌∙◌, ◌==◌, ◌≤◌, ℕ, List, Bool, true, false, Option, Some, None, if◌then◌else◌, Result, Ok, Err, inl, inr, sym, subst, ap, refl, arith}
use Rattle.std.specs.Prelude.{⊤, IfErr}
use Rattle.desk_store.specs.declared.store.PlanStore.{Ghosts}
use Rattle.desk_store.specs.Changes.{HasRisen}
use Rattle.desk_run.specs.declared.fault.DeskFault.{DeskFault}
use Rattle.desk_run.specs.declared.fault.DeskFault.TheVariants as desk
use Rattle.io_ends.specs.declared.serving.Served.{Served}
use Rattle.io_ends.specs.declared.serving.Served.TheVariants.{Answered, End}
use Rattle.io_ends.specs.declared.serving.ServeFault.{ServeFault}
use Rattle.io_ends.specs.declared.serving.ServeFault.TheVariants.{Read, Write, CutShort, OutOfMemory}
use Rattle.desk_cli.specs.declared.failure.ErrorCode.{ErrorCode}
use Rattle.desk_cli.specs.declared.failure.ErrorCode.TheVariants.{Store, Broken, Memory}
use Rattle.desk_cli.specs.declared.failure.ErrorCode.TheVariants as failure
use Rattle.desk_cli.specs.Exits.{Ending, EndsWith, enrolment_failure, failure_at}
use Rattle.desk_program.specs.Enrolling.{HasCause, IsEndCounted}
use Rattle.desk_run.specs.Verdicts.{Parts}
use Rattle.std.specs.Result.{IsErrAnd}
use Rattle.desk_program.specs.Serving.{IsPortError, Traffic, error_in, first_failure}

-- an enrolment that is reported as a store that failed had that fault
store_reported : (fault : DeskFault) → enrolment_failure fault ≡ Store → fault ≡ desk.Store
store_reported desk.OutOfMemory is = cc
store_reported desk.Store is = refl
store_reported desk.UnknownOperator is = cc
store_reported desk.NoSuchPlan is = cc
store_reported desk.Ceiling is = cc

pub enrolment_counted : {A : Type 0} (fault : DeskFault) (f : ErrorCode) (old new : ℕ)
    → f ≡ enrolment_failure fault → (fault ≡ desk.Store → HasRisen old new)
    → IsEndCounted {A = A} (Err f) old new
enrolment_counted {A} fault f old new is cause store =
    cause (store_reported fault (sym is ∙ same_failure store)) where
      same_failure : ◌≡◌ {A = Result A ErrorCode} (Err f) (Err Store) → f ≡ Store
      same_failure e = cc

module _ {S : Type 0} {g : Ghosts S} {old new : Parts S} where
  -- a line that ends so
  pub ends_counted : (fault : DeskFault) (f : ErrorCode) (end : Ending) → f ≡ enrolment_failure fault
      → (fault ≡ desk.Store → HasRisen (g.faults old.store) (g.faults new.store))
      → EndsWith {A = ⊤} (Err f) end → HasCause g old new end
  ends_counted fault f end is cause ends = record {
    done = Err f;
    ends = ends;
    cause = enrolment_counted fault f (g.faults old.store) (g.faults new.store) is cause;
  }

  -- a line that ends well, for want of memory, or as a write failed
  pub ends_well : (end : Ending) → EndsWith {A = ⊤} (Ok tt) end → HasCause g old new end
  ends_well end ends = record { done = Ok tt; ends = ends; cause = λ store. cc }

  pub ends_memory : (end : Ending) → EndsWith {A = ⊤} (Err Memory) end → HasCause g old new end
  ends_memory end ends = record { done = Err Memory; ends = ends; cause = λ store. cc }

  pub ends_write : (f : ErrorCode) (end : Ending) → f ≡ failure.Write → EndsWith {A = ⊤} (Err f) end
      → HasCause g old new end
  ends_write f end is ends = record { done = Err f; ends = ends; cause = λ store. cc }

-- connections end with no such failure
at_no_store : (served : Result Served ServeFault) → failure_at served ≡ Some Store → ⊥
at_no_store (Ok (Answered status framed)) is = by (status == 500) is where
  by : (b : Bool) → (if b then Some Broken else None) ≡ Some Store → ⊥
  by true e = cc
  by false e = cc
at_no_store (Ok End) is = cc
at_no_store (Err OutOfMemory) is = cc
at_no_store (Err Read) is = cc
at_no_store (Err (Write fault)) is = cc
at_no_store (Err CutShort) is = cc

denied_no_store : IsPortError Store → ⊥
denied_no_store (inl e) = cc
denied_no_store (inr (inl e)) = cc
denied_no_store (inr (inr (inl e))) = cc
denied_no_store (inr (inr (inr (inl e)))) = cc
denied_no_store (inr (inr (inr (inr e)))) = cc

same_failure : {A : Type 0} (f : ErrorCode) → ◌≡◌ {A = Result A ErrorCode} (Err f) (Err Store) → f ≡ Store
same_failure f e = cc

-- nor does the close of one
pub served_counted : {A : Type 0} (done : Result A ErrorCode) (served : Result Served ServeFault)
    (closed : Result ⊤ ErrorCode) (old new : ℕ) → IfErr closed IsPortError
    → error_in done ≡ first_failure (failure_at served) (error_in closed) → IsEndCounted done old new
served_counted (Ok d) served closed old new denied is store = cc
served_counted (Err f) served closed old new denied is store =
    absurd (by (failure_at served) closed refl denied (ap Some (sym (same_failure f store)) ∙ is)) where
      some_same : {g : ErrorCode} → Some Store ≡ Some g → g ≡ Store
      some_same e = cc

      by : (at : Option ErrorCode) (closed : Result ⊤ ErrorCode) → failure_at served ≡ at → IfErr closed IsPortError
          → Some Store ≡ first_failure at (error_in closed) → ⊥
      by None (Ok d) same denied e = cc
      by None (Err g) same denied e = denied_no_store (subst IsPortError (some_same e) denied)
      by (Some g) closed same denied e = at_no_store served (same ∙ sym e)

-- nor does the machine
pub denied_counted : {A : Type 0} (done : Result A ErrorCode) (f : ErrorCode) (old new : ℕ)
    → IsErrAnd done (λ e. e ≡ f) → IsPortError f → IsEndCounted done old new
denied_counted (Ok d) f old new is denied store = cc
denied_counted (Err e) f old new is denied store =
    absurd (denied_no_store (subst IsPortError (sym is ∙ same_failure e store) denied))

-- an operator of news that could not be listed
pub news_counted : {A : Type 0} (done : Result A ErrorCode) (fault : DeskFault) (old new : ℕ)
    → IsErrAnd done (λ e. e ≡ enrolment_failure fault) → (fault ≡ desk.Store → HasRisen old new)
    → IsEndCounted done old new
news_counted (Ok d) fault old new is cause store = cc
news_counted (Err f) fault old new is cause store = enrolment_counted fault f old new is cause store

-- what was counted later was counted
pub counted_later : {A : Type 0} (done : Result A ErrorCode) (old mid new : ℕ) → old ≤ mid
    → IsEndCounted done mid new → IsEndCounted done old new
counted_later done old mid new more h store few = omega (arith, more, h store few)

pub counted_on : {A B : Type 0} (one : Result A ErrorCode) (whole : Result B ErrorCode) (f : ErrorCode)
    (old mid new : ℕ) → one ≡ Err f → IsErrAnd whole (λ e. e ≡ f) → old ≤ mid → IsEndCounted one mid new
    → IsEndCounted whole old new
counted_on one (Ok d) f old mid new was is more h store = cc
counted_on {A} one (Err e) f old mid new was is more h store =
    counted_later {A = A} one old mid new more h (was ∙ ap Err (sym is ∙ same_failure e store))
