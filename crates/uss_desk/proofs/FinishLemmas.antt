-- What a last record left undone, done at the desk that was opened, or why it is not.
use Rattle.std.proofs.Common.{◌≡◌, ◌∙◌, ℕ, Bool, true, false, Option, None, Some, Ok}
use Rattle.std.proofs.Common.{inl, ap, refl, subst, sym}
use Rattle.std.specs.Prelude.{if◌then◌else◌, is_some}
use Rattle.sqlite_disk.specs.declared.Disk as disk
use Rattle.sqlite_store.specs.declared.store.FileStore.{FileStore}
use Rattle.sqlite_trees.specs.declared.store.Store.{Ghosts}
use Rattle.desk_rules.specs.Outcome.{no_terms}
use Rattle.desk_run.specs.Verdicts.{Parts}
use Rattle.desk_cli.specs.declared.failure.ErrorCode.{ErrorCode}
use Rattle.desk_cli.specs.declared.failure.ErrorCode.TheVariants as failure
use Rattle.desk_cli.specs.Exits.{Ending}
use Rattle.desk_recording.specs.Recovering.{Undone}
use Rattle.desk_tables.specs.Store.{Shown}
use Rattle.uss_desk.specs.FilesLeft.{FailsClosed, IsClosed, is_closed}
use Rattle.uss_desk.specs.Finishing.{IsDone, IsFinished, IsNumbered, IsUnfinished, KeepsAlone}
use Rattle.desk_host.specs.Operators.{next_number}
use Rattle.uss_desk.specs.declared.watching.CloseReport.{CloseReport}

-- the number of a folder's last record, by whether a request is asked again
pub numbered : {A : Type 0} (asked : Option A) (old number new : ℕ) → next_number old ≡ Ok number
    → new ≡ (if is_some asked then number else old) → IsNumbered asked old new
numbered None old number new next same = same
numbered (Some asked) old number new next same = next ∙ ap Ok (sym same)

-- a desk that is made anew of the store at which it was done
pub finished : {S : Type 0} (g : Ghosts S) (u : Undone) (opened mid after : Parts (Shown S))
    → IsDone g u opened mid → KeepsAlone g opened mid → after ≡ record { store = mid.store; terms = no_terms }
    → IsFinished g u opened after
finished g u opened mid after done kept same =
    subst (λ desk. IsFinished g u opened desk) (sym same)
    (record { terms = mid.terms; done = done; anew = refl; kept = kept })

-- a failure, once the desk is closed
pub fails_closed : {D : Type 0} {g : disk.Ghosts D} (desk : Parts (Shown (FileStore D g))) (status : ℕ)
    (end : Ending) (closed : Option (CloseReport D g)) (f result : ErrorCode) (are_closed : Bool)
    → IsClosed (Some desk) status end closed → is_closed closed ≡ are_closed
    → result ≡ (if are_closed then f else failure.Store)
    → FailsClosed desk f result
fails_closed desk status end None f result are_closed it by is = absurd it
fails_closed desk status end (Some report) f result are_closed it by is =
    record {
      report = report;
      closed = it.1;
      is = subst (λ b. result ≡ (if b then f else failure.Store)) (sym by) is;
    }

either : {A : Type 0} (asked : Option A) (closed : Bool) (f result : ErrorCode)
    → result ≡ (if closed then f else failure.Store) → IsUnfinished asked f → IsUnfinished asked result
either asked true f result is cause = subst (λ failure. IsUnfinished asked failure) (sym is) cause
either asked false f result is cause = inl (inl is)

-- what it is stays one of the same failures
pub still_unfinished : {A D : Type 0} {g : disk.Ghosts D} (asked : Option A)
    (desk : Parts (Shown (FileStore D g))) (f result : ErrorCode) → FailsClosed desk f result
    → IsUnfinished asked f → IsUnfinished asked result
still_unfinished asked desk f result it cause = either asked (is_closed (Some it.report)) f result it.is cause
