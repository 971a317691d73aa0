-- The desk that is opened for a command, its operators, and what the command does at it.
use Rattle.std.specs.Prelude.{◌≡◌, ℕ, [], Result, Ok, Err, IfErr, IfOk, MatchResult, ⊤, List, IfSome, map, ◌≤◌, Option, None, Some}
use Rattle.std.specs.Option.{IsSomeAnd}
use Rattle.sqlite_disk.specs.declared.Disk as disk
use Rattle.sqlite_wal.specs.Recovery.{Image}
use Rattle.sqlite_store.specs.declared.store.FileStore.{FileStore}
use Rattle.sqlite.specs.{Files.file_state, Files.over_files, State.HasCleanDisk, Held.state}
use Rattle.sqlite_trees.specs.{declared.store.Store.Ghosts, View.doubt}
use Rattle.desk_rules.specs.Outcome.{no_terms}
use Rattle.desk_store.specs.{World.LeavesOnly, World.Listed, World.World, Changes.IsHonest, Changes.Remembers}
use Rattle.desk_run.specs.Verdicts.{DeskWorld, Parts, with_content, world_of}
use Rattle.desk_wire.specs.Streams.{Course}
use Rattle.table_load.specs.{Files.AreNotMoved, Files.AreRefused, Files.OpensIn, Files.OpensMoved, Files.IsGuarded, Files.MayLeave, declared.fault.OpenFault.OpenFault}
use Rattle.table_load.specs.declared.fault.OpenFault.TheVariants as opening
use Rattle.desk_tables.specs.Store.{Shown}
use Rattle.desk_cli.specs.{declared.failure.ErrorCode.ErrorCode, declared.line.Database.Database, declared.line.Database.TheVariants.InMemory, declared.line.Database.TheVariants.File, declared.line.Enrolment.Enrolment, declared.line.Line.Line, Exits.Ending, Exits.FailsWith}
use Rattle.desk_cli.specs.declared.failure.ErrorCode.TheVariants as failure
use Rattle.desk_program.specs.{Keeping.IsLineKept, Keeping.Outside, Keeping.IsCarriedOut, Keeping.IsUnopened, Enrolling.IsCountPrinted}
use Rattle.desk_admin.specs.{FilesReported.FailsOver, FilesReported.IsUnreadFor, declared.unopened.OpenError.OpenError}
use Rattle.uss_desk.specs.{declared.opening.Opened.Opened, declared.rolls.NotedOperators.NotedOperators, FilesLeft.Past, FilesLeft.IsTrueOrCollided}
use Rattle.uss_desk.specs.declared.opening.Opened.TheVariants as opened

-- the error code is `Memory`, the only one of opening a desk in memory
abbrev pub IsMemory : ErrorCode → Type 0
IsMemory f = f ≡ failure.Memory

-- the world of a desk over tables: its content and its terms
abbrev pub load_world : {S : Type 0} → Parts (Shown S) → DeskWorld
load_world desk = world_of (λ s. s.world) desk

-- the desk is blank: it has no operators, no plans and no terms
abbrev pub IsBlank : {S : Type 0} → Parts (Shown S) → Type 0
IsBlank desk = load_world desk ≡ with_content no_terms (record { operators = []; plans = [] })

module _ {D : Type 0} (g : disk.Ghosts D) (image : Image) where
  -- a desk over files that held the image: its store has the content found in them; if the disk returned what
  -- was written, a crash would leave just that, and each later read is tested; the desk has no terms
  pub record BeginsIn (desk : Parts (Shown (FileStore D g))) : Type 0 where
    pub opens : OpensIn image desk.store.held desk.store.world
    pub left : HasCleanDisk (file_state desk.store.held)
        → LeavesOnly desk.store.world (MayLeave over_files desk.store.held)
    pub guarded : IsGuarded desk.store.held
    pub none : desk.terms ≡ no_terms

  -- the error is that of refused files, which held the image: their database is invalid, has rows of schema
  -- 1, or can't be read; or they were not opened
  abbrev pub FailsAt : OpenError D g → Type 0
  FailsAt = FailsOver (λ files. AreRefused image files.fault files.connection)

  -- the error is that of files whose plans of schema 1 can't be migrated; or they were not opened
  abbrev pub FailsMovingAt : OpenError D g → Type 0
  FailsMovingAt = FailsOver (λ files. AreNotMoved image files.fault files.connection)

-- a desk over files, or why there is none
abbrev pub FileDesk : {D : Type 0} → disk.Ghosts D → Type 0
FileDesk {D} g = Result (Parts (Shown (FileStore D g))) (OpenError D g)

-- a desk over files to which so many plans were migrated, or why there is none
abbrev pub MigratedDesk : {D : Type 0} → disk.Ghosts D → Type 0
MigratedDesk {D} g = Result (Parts (Shown (FileStore D g)) × ℕ) (OpenError D g)

module _ {D : Type 0} {g : disk.Ghosts D} (image : Image) where
  -- the result of opening files that held the image: a desk, or why there is none
  abbrev pub IsOpenedIn : FileDesk g → Type 0
  IsOpenedIn (Ok desk) = BeginsIn g image desk
  IsOpenedIn (Err it) = FailsAt g image it

  -- the result of opening files that held the image and migrating their plans of schema 1: a desk and how
  -- many plans were migrated, or why there is none
  abbrev pub IsMigratedIn : MigratedDesk g → Type 0
  IsMigratedIn (Ok moved) = OpensMoved image moved.0.store.held moved.0.store.world moved.1
  IsMigratedIn (Err it) = FailsMovingAt g image it

  -- the same, by where the database is: for one in memory the error is `Store`, and nothing is read
  abbrev pub IsMigratedAt : Database → MigratedDesk g → Type 0
  IsMigratedAt InMemory moved = MatchResult moved (λ _. ⊥) (λ it. IsUnreadFor it opening.Store)
  IsMigratedAt (File path) moved = IsMigratedIn moved

-- what is opened for a command: a desk in memory or one over files, or why there is none
abbrev pub OpenedDesk : {M : Type 0} → disk.Ghosts M → {D : Type 0} → disk.Ghosts D → Type 0
OpenedDesk {M} m {D} g = Opened (Result (Parts (Shown (FileStore M m))) ErrorCode) (FileDesk g)

module _ {M : Type 0} {m : disk.Ghosts M} {D : Type 0} {g : disk.Ghosts D} (image : Image) where
  -- what is opened over a database: a blank desk in memory, or a desk over files that held this; or why not
  abbrev pub IsOpenedAt : Database → OpenedDesk m g → Type 0
  IsOpenedAt InMemory (opened.Memory desk) = IfOk desk IsBlank × IfErr desk IsMemory
  IsOpenedAt (File path) (opened.Files desk) = IsOpenedIn image desk
  IsOpenedAt _ _ = ⊥

-- ==== The operators that a desk over files has when it is opened; its journal begins with them
-- an operator and its ceiling, as a desk lists them
abbrev pub as_listed : Enrolment → Listed
as_listed e = record { name = e.operator; ceiling = e.ceiling }

-- the enrolments are the operators of the content w with their ceilings, in its order
abbrev pub AreOperatorsOf : World → List Enrolment → Type 0
AreOperatorsOf w all = map as_listed all ≡ w.operators

-- if operators were noted, they are those of the store, if its disk returned what was written
abbrev pub HasNoted : {D : Type 0} {g : disk.Ghosts D} → Shown (FileStore D g) → NotedOperators → Type 0
HasNoted store roll = HasCleanDisk (file_state store.held)
    → IfSome roll.operators (λ all. AreOperatorsOf store.world all.items)

-- the same for the desk over files, if it was opened
abbrev pub HasNotedDesk :
    {D : Type 0} {g : disk.Ghosts D} {E : Type 0} → Result (Parts (Shown (FileStore D g))) E → NotedOperators
    → Type 0
HasNotedDesk desk roll = IfOk desk (λ it. HasNoted it.store roll)

-- the same for what was opened; nothing is said of a desk in memory
abbrev pub HasNotedAt :
    {M : Type 0} {m : disk.Ghosts M} {D : Type 0} {g : disk.Ghosts D} → OpenedDesk m g → NotedOperators
    → Type 0
HasNotedAt (opened.Memory desk) roll = ⊤
HasNotedAt (opened.Files desk) roll = HasNotedDesk desk roll

-- ==== What a command does at the desk that was opened for it, up to the exit status
-- the storage of a desk over tables is intact: its disk has returned what was written
abbrev pub IsSound : {S : Type 0} → Ghosts S → Parts (Shown S) → Type 0
IsSound g desk = IsHonest (doubt (state g desk.store.held).is_clean)

-- each content that the next start may find after the command (found) is as `IsLineKept` says, if the disk
-- has returned what was written, and before the command the next start could find only the desk's content
abbrev pub IsKeptSince : {S : Type 0} → Ghosts S → Line → Outside → Parts (Shown S) → Parts (Shown S) → Type 0
IsKeptSince g line o begun desk =
    IsSound g desk → LeavesOnly begun.store.world (MayLeave g begun.store.held)
    → (found : Option World) → MayLeave g desk.store.held found
    → IsLineKept (IsSound g desk) line o (load_world begun) (load_world desk) found

-- a command is run at the desk that was opened (desk), which becomes `left`. If the disk has returned what
-- was written until now, it had before; and if each later read was tested before, it still is
abbrev pub IsDoneAt :
    {S : Type 0} → Ghosts S → Line → Outside → Option (Parts (Shown S)) → Parts (Shown S) → Type 0
IsDoneAt g line o left desk = IsSomeAnd left (λ left.
    IsCarriedOut (IsSound g left) line o (load_world desk) (load_world left)
    × (doubt (state g desk.store.held).is_clean ≤ doubt (state g left.store.held).is_clean)
    × ((state g desk.store.held).IsShielded → (state g left.store.held).IsShielded))

-- there is a desk afterwards (left), and what the next start may find is as `IsKeptSince` says
abbrev pub IsKeptAt :
    {S : Type 0} → Ghosts S → Line → Outside → Option (Parts (Shown S)) → Parts (Shown S) → Type 0
IsKeptAt g line o left desk = IsSomeAnd left (IsKeptSince g line o desk)

-- the result of a command: it is run at the desk opened for it; or none was, and only that error is reported
pub record IsLineRun {S : Type 0} (g : Ghosts S) (opened : Result (Parts (Shown S)) ErrorCode) (line : Line)
    (o : Outside) (left : Option (Parts (Shown S))) : Type 0 where
  pub done : IfOk opened (IsDoneAt g line o left)
  pub kept : IfOk opened (IsKeptAt g line o left)
  pub undone : IfErr opened (IsUnopened o left)

-- what is known of a desk's disk and its count of faults is not lost from old to new
abbrev pub RemembersDesk : {S : Type 0} → Ghosts S → Parts (Shown S) → Parts (Shown S) → Type 0
RemembersDesk g old new = Remembers (λ s. doubt (state g s.held).is_clean) (λ s. s.faults)
    (λ s. (state g s.held).IsShielded) old.store new.store

-- if a desk was opened: each later read is tested, if the disk has returned what was written so far
abbrev pub AreReadsTested :
    {D : Type 0} {g : disk.Ghosts D} → Result (Parts (Shown (FileStore D g))) ErrorCode → Type 0
AreReadsTested opened = IfOk opened (λ desk. IsGuarded desk.store.held)

-- if the disk returned what was written until the desk was open, it has done so to the end, whatever it
-- returned since and whoever wrote into the files; or a digest has collided
abbrev pub StaysGuarded :
    {D : Type 0} {g : disk.Ghosts D} → Past D → Result (Parts (Shown (FileStore D g))) ErrorCode
    → Option (Parts (Shown (FileStore D g))) → Type 0
StaysGuarded past opened left = IfOk opened (λ desk. IsSomeAnd left (λ left.
    HasCleanDisk (file_state desk.store.held) → IsTrueOrCollided past left))

-- the plans are migrated, and their count is printed, or that line is cut off; or the migration failed: the
-- error code is reported, and nothing is printed
abbrev pub IsMigrationReported :
    {S : Type 0} → Result (Parts (Shown S) × ℕ) ErrorCode → Ending → Option (Parts (Shown S))
    → Course (Option (List ℕ)) → Type 0
IsMigrationReported (Ok moved) end left writes =
    (left ≡ Some moved.0) × IsCountPrinted moved.1 end writes.before writes.after
IsMigrationReported (Err failure) end left writes =
    (left ≡ None) × FailsWith failure end × (writes.after ≡ writes.before)
