-- A desk's files while a command runs and once it has ended, and the exit status of invalid arguments.
use Rattle.std.specs.Prelude.{◌≡◌, ◌≢◌, ◌⊎◌, ◌&&◌, ℕ, Bool, true, false, if◌then◌else◌, is_ok, Option, None, Some, Result, Ok, Err, IfOk, IfErr, List, [], ◌∷◌, option_map, string_bytes, unwrap_or}
use Rattle.std.specs.Option.{IsSomeAnd}
use Rattle.sqlite_disk.specs.declared.Disk as disk
use Rattle.sqlite_wal.specs.Reads.{AreClean}
use Rattle.sqlite_store.specs.{declared.store.FileStore.FileStore, FileStore.files}
use Rattle.sqlite.specs.{Closing.IsCopied, Files.file_state}
use Rattle.sqlite_disk.specs.declared.calls.Calls as calls
use Rattle.sqlite_disk.specs.{declared.modelled.Modelled.Modelled, declared.start.Start.Ghosts, Events.Event, Events.HasCollision, Events.replay, Modelled.start_of}
use Rattle.sqlite_std_file.specs.declared.host.Host.{Host}
use Rattle.sqlite_trees.specs.View.{doubt}
use Rattle.clap.specs.{Values.kind_of, declared.error.Error.Error}
use Rattle.clap.specs.declared.error.kind.ErrorKind.TheVariants as kind
use Rattle.desk_store.specs.{Changes.IsHonest, declared.fault.StoreFault.StoreFault, declared.fault.StoreFault.TheVariants.Store}
use Rattle.desk_run.specs.Verdicts.{Parts}
use Rattle.desk_wire.specs.Streams.{Course}
use Rattle.desk_tables.specs.Store.{IsLeftUnclosed, Shown}
use Rattle.desk_cli.specs.{declared.failure.ErrorCode.ErrorCode, declared.line.WordsFault.WordsFault, declared.line.DeskArgs.DeskArgs, declared.line.Enrolment.Enrolment, Exits.Ending, Exits.FailsWith, Exits.IsSilent, Exits.failure_status, Lines.file_of}
use Rattle.desk_cli.specs.declared.failure.ErrorCode.TheVariants as failure
use Rattle.desk_cli.specs.declared.line.WordsFault.TheVariants as fault
use Rattle.host_files.specs.{Paths.AreAtPaths, Paths.Look, Paths.IsUnheldAt, declared.paths.LocalOpenPaths.LocalOpenPaths}
use Rattle.uss_desk.specs.declared.{watching.CloseReport.CloseReport, recording.PendingRecovery.PendingRecovery, recording.JournalFolder.JournalFolder, session.Session.Session}

-- a command ends with the status that it had, and nothing more is reported
abbrev pub EndsAsItWas : ℕ → Ending → Type 0
EndsAsItWas status end = (end.status ≡ status) × IsSilent end

-- the end of a command whose desk can't be closed, or whose files were no longer at their paths: if the
-- command had succeeded, the error is `Store`; else it ends as it was
abbrev pub IsUnclosed : ℕ → Ending → Type 0
IsUnclosed status end = ((status ≡ 0) × FailsWith failure.Store end) ⊎ ((status ≢ 0) × EndsAsItWas status end)

-- the end of a command, by the result of closing its desk, and by whether the files were at their paths
abbrev pub IsEnded : {A B : Type 0} → Result A B → Bool → ℕ → Ending → Type 0
IsEnded (Ok files) true status end = EndsAsItWas status end
IsEnded (Ok files) false status end = IsUnclosed status end
IsEnded (Err it) are_at_paths status end = IsUnclosed status end

-- the result of closing a desk: if its files are closed, and the disk returned what was written, the last
-- commit is in the database file alone; or closing failed
abbrev pub AreClosed :
    {D : Type 0} {g : disk.Ghosts D} → Parts (Shown (FileStore D g)) → CloseReport D g → Type 0
AreClosed {D} {g} desk closed =
    IfOk closed.files (λ files. AreClean g files.log files.db → IsCopied desk.store.held files)
    × IfErr closed.files (IsLeftUnclosed desk.store.held)

-- there was a desk over files; it was closed, and its files were at their paths until then
abbrev pub is_closed : {D : Type 0} {g : disk.Ghosts D} → Option (CloseReport D g) → Bool
is_closed None = false
is_closed (Some closed) = closed.are_at_paths && is_ok closed.files

-- a desk is closed after the error f. The result is f; or `Store`, if the desk can't be closed, or its files
-- were no longer at their paths
pub record FailsClosed {D : Type 0} {g : disk.Ghosts D} (desk : Parts (Shown (FileStore D g)))
    (f result : ErrorCode) : Type 0 where
  pub report : CloseReport D g
  pub closed : AreClosed desk report
  pub is : result ≡ (if is_closed (Some report) then f else failure.Store)

module _ {D : Type 0} {g : disk.Ghosts D} where
  -- the result of `close_after`: a desk over files is closed, however its command ended, and the end says if
  -- that failed. Without a desk over files there is nothing to close
  abbrev pub IsClosed :
      Option (Parts (Shown (FileStore D g))) → ℕ → Ending → Option (CloseReport D g) → Type 0
  IsClosed None status end closed = EndsAsItWas status end × (closed ≡ None)
  IsClosed (Some desk) status end closed = IsSomeAnd closed (λ closed.
      IsEnded closed.files closed.are_at_paths status end × AreClosed desk closed)

-- ==== What is known of a desk's files if the disk lies once the desk is opened
-- the past of a file: the bytes it held before its first call, and its calls since with answers, newest first
pub record Past (D : Type 0) : Type 0 where
  pub start : D → List ℕ
  pub calls : D → List Event

-- the files of a disk have this past: it determines whether a file tests its reads (fair), and whether it has
-- returned what was written (clean)
pub record IsPastOf {D : Type 0} (g : disk.Ghosts D) (past : Past D) : Type 0 where
  pub fair : (d : D) → g.is_fair d ≡ (replay (past.start d) (past.calls d)).is_fair
  pub clean : (d : D) → g.is_clean d ≡ (replay (past.start d) (past.calls d)).is_honest

-- the past of a file of the operating system that held what `start` stands for
abbrev pub past_of : {S : Type 0} {g : calls.Ghosts Host} (start : Ghosts S) → Past (Modelled Host S g start)
past_of start = record { start = start_of start; calls = λ f. f.calls.log.events }

module _ {D : Type 0} {g : disk.Ghosts D} where
  -- a read of the WAL or of the database file returned other bytes than those written there, but with the
  -- same digest of 64 bits (under the key of the files)
  abbrev pub HasCollided : Past D → Parts (Shown (FileStore D g)) → Type 0
  HasCollided past desk =
      let log = (files desk.store.held.store).0 in
      let db = (files desk.store.held.store).1 in
      HasCollision (g.key_of log) (past.start log) (past.calls log)
      ⊎ HasCollision (g.key_of log) (past.start db) (past.calls db)

  -- the disk has returned what was written so far; or a digest has collided
  abbrev pub IsTrueOrCollided : Past D → Parts (Shown (FileStore D g)) → Type 0
  IsTrueOrCollided past desk = IsHonest (doubt (file_state desk.store.held).is_clean) ⊎ HasCollided past desk

-- the paths are checked first (looks). If one doesn't lead to its file, the store is unchanged and the result
-- r is the error `Store`; else the count of refused changes is unchanged
pub record ChecksPaths {S U : Type 0} (looks : Course (Option (List Look))) (refused : Course ℕ)
    (store : Course S) (r : Result U StoreFault) : Type 0 where
  pub are_there : Bool
  pub looked : AreAtPaths looks are_there
  pub untouched : are_there ≡ false → (store.after ≡ store.before) × (r ≡ Err Store)
  pub unrefused : are_there ≡ true → refused.after ≡ refused.before

-- the exit status once clap's text was printed: 0 for the help and the version, 2 for a mistake
pub record EndsExplained (error : Error) (status : ℕ) : Type 0 where
  pub shown : (kind_of error ≡ kind.DisplayHelp) ⊎ (kind_of error ≡ kind.DisplayVersion) → status ≡ 0
  pub mistake : kind_of error ≢ kind.DisplayHelp → kind_of error ≢ kind.DisplayVersion → status ≡ 2

-- by whether clap's text was printed: that status, or the error `Write`
abbrev pub IsExplained : Error → Bool → Result ℕ ErrorCode → Type 0
IsExplained error true (Ok status) = EndsExplained error status
IsExplained error false (Err cause) = cause ≡ failure.Write
IsExplained error _ _ = ⊥

-- the exit status, by why the arguments are invalid; that of `Write` if clap's text can't be printed
abbrev pub IsRefusal : WordsFault → ℕ → Type 0
IsRefusal fault.OutOfMemory status = status ≡ failure_status failure.Memory
IsRefusal fault.Value status = status ≡ failure_status failure.Value
IsRefusal (fault.Words error) status = EndsExplained error status ⊎ (status ≡ failure_status failure.Write)

-- a session has these arguments and these enrolments, and the file of enrolments that the arguments name; no
-- operator is noted yet; and the paths are those of the database, and lead to no open file yet
pub record IsPrepared (words : DeskArgs) (enrolments : List Enrolment) (session : Session)
    (paths : LocalOpenPaths) : Type 0
  where
    pub words_are : session.words.now ≡ words
    pub enrolments_are : session.enrolments.now ≡ enrolments
    pub enrolment_file :
        option_map (λ path. path.now) session.enrolment_file.path ≡ option_map string_bytes words.operators
    pub unnoted : IsSomeAnd session.roll.operators (λ all. all.items ≡ [])
    pub unheld : IsUnheldAt (unwrap_or (file_of words.database) []) paths

-- what the last journal left pending: nothing if the command keeps no journal
abbrev pub undone_of : Option JournalFolder → Option PendingRecovery
undone_of None = None
undone_of (Some folder) = folder.undone

-- it is known that the desk has no operator, and the command enrols none, neither itself nor by a file
pub record IsUnenrolled (session : Session) : Type 0 where
  pub empty : session.roll.is_empty ≡ true
  pub alone : session.enrolments.now ≡ []
  pub fileless : session.words.now.operators ≡ None
