-- Journals: what the last one left pending is recovered, why one is refused, and what is played with one.
use Rattle.std.specs.Prelude.{◌≡◌, ◌+◌, ◌^◌, [], ◌==◌, ℕ, Bool, true, false, List, Option, None, Some, Result, Ok, Err, codes, if◌then◌else◌, nat_lt, ◌⊎◌, ⊤, IsSome, ◌≤◌, IfErr, IfOk}
use Rattle.std.specs.{Global.Vec, Option.IsSomeAnd}
use Rattle.sqlite_trees.specs.{declared.store.Store.Ghosts, View.doubt}
use Rattle.sqlite_disk.specs.declared.Disk as disk
use Rattle.sqlite.specs.Held.{state}
use Rattle.desk_rules.specs.{Outcome.no_terms, declared.terms.Terms.Terms}
use Rattle.desk_store.specs.World.{LeavesOnly, World}
use Rattle.desk_run.specs.Verdicts.{Parts}
use Rattle.desk_wire.specs.Streams.{course, Passage}
use Rattle.desk_replay.specs.Running.{IsReplayed, IsUnplayed}
use Rattle.table_load.specs.Files.{MayLeave}
use Rattle.desk_tables.specs.Store.{Shown}
use Rattle.desk_cli.specs.{declared.failure.ErrorCode.ErrorCode, declared.line.Line.Line, declared.line.Enrolment.Enrolment, declared.line.PlayArgs.PlayArgs, Exits.Ending}
use Rattle.desk_cli.specs.declared.failure.ErrorCode.TheVariants as failure
use Rattle.desk_cli.specs.declared.line.Line.TheVariants as line
use Rattle.desk_host.specs.{declared.folders.JournalFile.JournalFile, declared.folders.JournalError.JournalError, Operators.CanContinue, Operators.failure_of, Operators.next_number}
use Rattle.uss_desk.specs.{declared.recording.PendingRecovery.PendingRecovery, declared.rolls.NotedOperators.NotedOperators, OpenedFor.load_world, OpenedFor.IsSound}
use Rattle.desk_recording.specs.{declared.tail.Tail.Tail, declared.tail.TailEnd.TailEnd, declared.tail.TailEnd.TheVariants.End, declared.tail.TailEnd.TheVariants.Short, declared.tail.TailEnd.TheVariants.Damaged, Recovering.Recovers, Recovering.Undone, Recovering.missing_enrolments, Recovering.undone, Tail.unanswered_in, Inputs.InputOutside, Inputs.IsPlayRecorded, Inputs.IsRecordedKept, Inputs.IsUnrecorded}

-- the result for a desk in memory, which continues no journal, by the command and by whether the folder has
-- journals: nothing to recover for `play` in a folder without any; `Write` for `play` in another; else
-- `Store`
abbrev pub BeginsAlone : {V : Type 0} → Line → Bool → Result (Option V) ErrorCode → Type 0
BeginsAlone (line.Play words) false result = result ≡ Ok None
BeginsAlone (line.Play words) true result = result ≡ Err failure.Write
BeginsAlone _ _ result = result ≡ Err failure.Store

-- a journal needs no recovery: it ends with a whole entry, its last request is answered, no enrolment follows
abbrev pub HasNothingPending : Tail → TailEnd → Type 0
HasNothingPending tail ended = (ended ≡ End) × (tail.asked ≡ None) × (tail.operators.items ≡ [])

-- ==== Why a journal folder can't be used, and why a database file is refused for its WAL
-- the error code of a journal folder that can't be read, written or continued (`Write`), or `Memory`
abbrev pub IsFolderFailure : ErrorCode → Type 0
IsFolderFailure f = (f ≡ failure.Write) ⊎ (f ≡ failure.Memory)

-- the error code of a journal that can't be begun: one of these, or `Clock`
abbrev pub IsClockOrFolderFailure : ErrorCode → Type 0
IsClockOrFolderFailure f = (f ≡ failure.Clock) ⊎ IsFolderFailure f

-- the error code of a journal folder that can't be recovered from: `Store` for the database, or the folder's
abbrev pub IsStoreOrFolderFailure : ErrorCode → Type 0
IsStoreOrFolderFailure f = (f ≡ failure.Store) ⊎ IsFolderFailure f

-- the recovery is for the database file; this last journal asks for that recovery, and can be continued
pub record IsPendingAt (file : List ℕ) (last : JournalFile) (left : PendingRecovery) : Type 0 where
  pub at : left.file.now ≡ file
  pub of : left.record ≡ last
  pub may : CanContinue last.number left.tail left.ended

-- the error code of a file that is refused for its WAL: `DamagedLog`, but not for a command that copies the
-- file; `Memory`; or `Store`, if the WAL can't be read or exists without its file
abbrev pub IsLogRefused : Bool → ErrorCode → Type 0
IsLogRefused copied f =
    ((copied ≡ false) × (f ≡ failure.DamagedLog)) ⊎ ((f ≡ failure.Memory) ⊎ (f ≡ failure.Store))

-- ==== What the last journal left pending is recovered at the desk that was opened
-- the operators that were noted; the empty list if none were
abbrev pub operators_in : Option (Vec Enrolment) → List Enrolment
operators_in None = []
operators_in (Some all) = all.items

-- what a journal leaves pending at a desk that has the operators noted in the roll
abbrev pub pending_at : PendingRecovery → NotedOperators → Undone
pending_at left roll =
    undone left.tail.terms (missing_enrolments (operators_in roll.operators) left.tail.operators.items)
    (unanswered_in left.tail.asked)

-- why a recovery fails: a file, the desk's store or memory fails; or, if a request is to be repeated, it or
-- its answer can't be recorded, or its second is out of range
abbrev pub IsUnfinished : {A : Type 0} → Option A → ErrorCode → Type 0
IsUnfinished asked f =
    IsStoreOrFolderFailure f ⊎ (IsSome asked × ((f ≡ failure.Broken) ⊎ (f ≡ failure.Clock)))

-- the number of the folder's last journal: one more if a request is repeated, else the same
abbrev pub IsNumbered : {A : Type 0} → Option A → ℕ → ℕ → Type 0
IsNumbered None old new = new ≡ old
IsNumbered (Some asked) old new = next_number old ≡ Ok new

-- a crash leaves just the desk's content (new), if it did before (old) and the disk returned what was written
abbrev pub KeepsAlone : {S : Type 0} → Ghosts S → Parts (Shown S) → Parts (Shown S) → Type 0
KeepsAlone g old new =
    IsSound g new → LeavesOnly old.store.world (MayLeave g old.store.held)
    → LeavesOnly new.store.world (MayLeave g new.store.held)

-- what is pending is recovered at a desk, from old to new; nothing is said of the steps of its journal
abbrev pub IsDone : {S : Type 0} → Ghosts S → Undone → Parts (Shown S) → Parts (Shown S) → Type 0
IsDone g u old new =
    Recovers (IsSound g new) u (course (load_world old) (load_world new)) (course None None) (Ok (tt {0}))

-- the same, and the desk is then as if it was just opened: it has no terms
pub record IsFinished {S : Type 0} (g : Ghosts S) (u : Undone) (opened after : Parts (Shown S)) : Type 0 where
  pub terms : Terms
  pub done : IsDone g u opened (record { store = after.store; terms = terms })
  pub anew : after.terms ≡ no_terms
  pub kept : KeepsAlone g opened after

-- the result of `finish`: the opened desk if nothing was pending; or the recovery succeeded; or why it failed
abbrev pub Finishes :
    {S : Type 0} → Ghosts S → Option PendingRecovery → NotedOperators → Parts (Shown S)
    → Result (Parts (Shown S)) ErrorCode → Type 0
Finishes g None roll opened result = result ≡ Ok opened
Finishes g (Some left) roll opened (Ok after) = IsFinished g (pending_at left roll) opened after
Finishes g (Some left) roll opened (Err f) = IsUnfinished left.tail.asked f

-- ==== What the command `play` with a journal does at the desk that was opened for it, up to the exit status
module _ {S : Type 0} (g : Ghosts S) (play : PlayArgs) (o : InputOutside) where
  -- the input is played at the desk that was opened (desk), which becomes `left`. If the disk has returned
  -- what was written until now, it had before; and if each later read was tested before, it still is
  abbrev pub IsInputDoneAt : Option (Parts (Shown S)) → Parts (Shown S) → Type 0
  IsInputDoneAt left desk = IsSomeAnd left (λ left.
      IsPlayRecorded (IsSound g left) play o (load_world desk) (load_world left)
      × (doubt (state g desk.store.held).is_clean ≤ doubt (state g left.store.held).is_clean)
      × ((state g desk.store.held).IsShielded → (state g left.store.held).IsShielded))

  -- there is a desk afterwards (left); what the next start may find is as `IsRecordedKept` says, if it could
  -- find only the desk's content before and the disk has returned what was written
  abbrev pub IsInputKeptAt : Option (Parts (Shown S)) → Parts (Shown S) → Type 0
  IsInputKeptAt left begun = IsSomeAnd left (λ desk.
      IsSound g desk → LeavesOnly begun.store.world (MayLeave g begun.store.held)
      → (found : Option World) → MayLeave g desk.store.held found
      → IsRecordedKept (IsSound g desk) play o (load_world begun) (load_world desk) found)

  -- `play`: its input is played at the desk opened for it; or none was, and only that error is reported
  pub record IsInputRun (opened : Result (Parts (Shown S)) ErrorCode)
      (left : Option (Parts (Shown S))) : Type 0
    where
      pub done : IfOk opened (IsInputDoneAt left)
      pub kept : IfOk opened (IsInputKeptAt left)
      pub undone : IfErr opened (IsUnrecorded o left)

-- a journal is replayed at the desk that was opened (desk), which becomes `left`. If the disk has returned
-- what was written until now, it had before; and if each later read was tested before, it still is
abbrev pub IsReplayedAt :
    {S : Type 0} → Type 0 → Ghosts S → Option ℕ → Passage → Ending → Option (Parts (Shown S))
    → Parts (Shown S) → Type 0
IsReplayedAt R g until p end left desk = IsSomeAnd left (λ left.
    IsReplayed R (IsSound g left) until p end (load_world desk) (load_world left)
    × (doubt (state g desk.store.held).is_clean ≤ doubt (state g left.store.held).is_clean)
    × ((state g desk.store.held).IsShielded → (state g left.store.held).IsShielded))

-- `replay`: its journal is replayed at the desk opened for it; or none was, and only that error is reported
pub record IsReplayRun {S : Type 0} (R : Type 0) (g : Ghosts S) (opened : Result (Parts (Shown S)) ErrorCode)
    (until : Option ℕ) (p : Passage) (end : Ending) (left : Option (Parts (Shown S))) : Type 0 where
  pub done : IfOk opened (IsReplayedAt R g until p end left)
  pub undone : IfErr opened (IsUnplayed p end left)
