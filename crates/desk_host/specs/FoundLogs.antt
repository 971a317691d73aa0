-- Which WAL is found for a file, what is reported of a damaged one, and how `check` and `copy` read a file.
use Rattle.std.specs.Prelude.{◌≡◌, ℕ, ◌==◌, Bool, true, false, nat_le, not, if◌then◌else◌, List, Option, None, Some, Result, Ok, Err, ◌⊎◌, ◌++◌, codes, decimal, IfSome, [], ◌∷◌, string_bytes, ⊤}
use Rattle.std.specs.Option.{IsSomeAnd}
use Rattle.std.specs.declared.io.Read as read
use Rattle.std.specs.declared.io.ErrorKind.{ErrorKind}
use Rattle.std.specs.declared.io.ErrorKind.TheVariants as kind
use Rattle.std.specs.declared.io.Write as write
use Rattle.io_ends.specs.declared.writing.WriteError.{WriteError}
use Rattle.desk_wire.specs.Streams.{Course, course}
use Rattle.db_file.specs.Wal.{least_with_commit, least_damaged, IsDamaged, IsUnchecked}
use Rattle.desk_cli.specs.declared.failure.ErrorCode.{ErrorCode}
use Rattle.desk_cli.specs.declared.failure.ErrorCode.TheVariants as failure
use Rattle.desk_program.specs.Keeping.{bytes_written}
use Rattle.host_files.specs.{Access.Answers, Access.is_no_path, Naming.log_of, Naming.IsWrittenIfRoom, Naming.IsWrittenOnce, Naming.IsWrittenUpTo, Naming.line_of, Naming.Cleared, Naming.Failed, Naming.Follows, Naming.Removed, Naming.Step, Naming.Steps, Naming.Takes, Naming.ScratchCopied, declared.files.Found.Found, declared.state.Denial.Denial}
use Rattle.host_files.specs.declared.state.Denial.TheVariants as denial
use Rattle.desk_host.specs.declared.{logs.FoundLog.FoundLog, damage.LogCheck.LogCheck, damage.LogCheckError.LogCheckError, scratch.ScratchCopy.ScratchCopy, ways.ReadMode.ReadMode}
use Rattle.desk_host.specs.declared.logs.FoundLog.TheVariants as found_log
use Rattle.desk_host.specs.declared.damage.LogCheckError.TheVariants as unlooked
use Rattle.desk_host.specs.declared.ways.ReadMode.TheVariants as way

-- it is certain that a path leads to nothing; another error leaves that open
abbrev pub is_gone : Result Found ErrorKind → Bool
is_gone (Err kind.NotFound) = true
is_gone _ = false

-- the size in bytes of the regular file to which a path leads; 0 if it leads to none
abbrev pub size_of : Result Found ErrorKind → ℕ
size_of (Ok found) = if found.is_file then found.len else 0
size_of (Err error) = 0

-- that size, by the answers of the machine
abbrev pub size_at : Answers → List ℕ → ℕ
size_at it path = size_of (it.found path)

-- another program has a file open: by why it can't be opened
abbrev pub is_held : Option Denial → Bool
is_held (Some denial.Busy) = true
is_held _ = false

-- the result if something can't be reached, by the kind of the error: None, or `Memory` if memory ran out
abbrev pub unreached_by : {T : Type 0} → ErrorKind → Result (Option T) ErrorCode
unreached_by kind.OutOfMemory = Err failure.Memory
unreached_by _ = Ok None

-- the value that was found; None if it can't be reached; `Memory` if memory ran out
abbrev pub if_reachable : {T : Type 0} → Result T ErrorKind → Result (Option T) ErrorCode
if_reachable (Ok it) = Ok (Some it)
if_reachable (Err kind) = unreached_by kind

-- a WAL of so many bytes is long enough to have a commit
abbrev pub may_have_commit : ℕ → Bool
may_have_commit size = nat_le least_with_commit size

-- a WAL of so many bytes is long enough to be damaged
abbrev pub may_be_damaged : ℕ → Bool
may_be_damaged size = nat_le least_damaged size

-- the WAL beside a file is long enough to have a commit
abbrev pub has_commit : Answers → List ℕ → Bool
has_commit it path = may_have_commit (size_at it (log_of path))

-- a file's WAL has to be checked: by the file's path, the path with all links resolved, and the WAL's path
abbrev pub needs_check : Answers → List ℕ → List ℕ → List ℕ → Bool
needs_check it path real log = if size_at it real == 0 then false
    else (if may_be_damaged (size_at it log) then not (is_held (it.unheld path)) else false)

-- the path, if its file can be opened for reading: by the error of opening it
abbrev pub opened_by : List ℕ → Option ErrorKind → Option (List ℕ)
opened_by path None = Some path
opened_by path (Some error) = None

-- the path of a WAL, if it has to be checked (true) and can be opened
abbrev pub if_opened : Answers → List ℕ → Bool → Option (List ℕ)
if_opened it log true = opened_by log (it.unread log)
if_opened it log false = None

-- that path, by the path of the file and that path with all links resolved; None if it can't be reached
abbrev pub log_to_check_by : Answers → List ℕ → Result (List ℕ) ErrorKind → Option (List ℕ)
log_to_check_by it path (Ok real) = if_opened it (log_of real) (needs_check it path real (log_of real))
log_to_check_by it path (Err error) = None

-- the WAL of the file at a path, if it has to be checked and can be opened
abbrev pub log_to_check : Answers → List ℕ → Option (List ℕ)
log_to_check it path = log_to_check_by it path (it.real path)

-- the result of looking for that WAL: it is open, or there is none
abbrev pub IsLogBeside : {R : Type 0} → read.Ghosts R → Answers → List ℕ → Option R → Type 0
IsLogBeside r it path None = log_to_check it path ≡ None
IsLogBeside r it path (Some file) = IsSomeAnd (log_to_check it path) (λ log. r.remaining file ≡ it.bytes log)

-- a WAL that may have a commit is there without its file
abbrev pub is_alone : Answers → List ℕ → Bool
is_alone it path = if is_gone (it.found path) then has_commit it path else false

-- which WAL is found for a file
abbrev pub IsLogAt : {R : Type 0} → read.Ghosts R → Answers → List ℕ → FoundLog R → Type 0
IsLogAt r it path found_log.Alone = is_alone it path ≡ true
IsLogAt r it path found_log.Nothing = (is_alone it path ≡ false) × IsLogBeside r it path None
IsLogAt r it path (found_log.Log file) = (is_alone it path ≡ false) × IsLogBeside r it path (Some file)

-- ==== What is reported of a damaged WAL, and which files are admitted
-- Here `copied` says that the command only copies the file; `writes` is what is written to standard error.

-- the line that reports the damage in the WAL of a file
unfoldable pub damage_line : List ℕ → ℕ → ℕ → List ℕ
damage_line path frame commits =
    codes "uss_desk: " ++ (path ++ (codes ": its log is damaged at frame " ++ (decimal frame ++ (codes ": "
    ++ (decimal commits ++ codes " commits from there on can't be read\n")))))

-- a WAL is damaged, and that is reported, whole or up to where the write broke off
pub record IsLossReported {E : Type 0} (path log : List ℕ) (cut : Option (WriteError E))
    (writes : Course (Option (List ℕ))) : Type 0 where
  pub frame : ℕ
  pub commits : ℕ
  pub damaged : IsDamaged log frame commits
  pub reported : IsWrittenUpTo (damage_line path frame commits) cut writes

-- a WAL is not damaged, and nothing is reported
abbrev pub IsUndamaged : List ℕ → Course (Option (List ℕ)) → Type 0
IsUndamaged log writes =
    ((frame commits : ℕ) → ¬ IsDamaged log frame commits) × (writes.after ≡ writes.before)

-- The result of the check of a WAL. If the WAL is not damaged, its file is admitted, and nothing is
-- reported. If it is damaged, the file is admitted only if it is copied, and the damage is reported. If the
-- check failed, nothing is reported.
abbrev pub IsLogCheckOf :
    {E : Type 0} → Bool → List ℕ → List ℕ → Result (LogCheck E) LogCheckError → Course (Option (List ℕ))
    → Type 0
IsLogCheckOf copied path log (Ok look) writes =
    ((look.is_admitted ≡ true) × (look.is_damaged ≡ false) × IsUndamaged log writes)
    ⊎ ((look.is_admitted ≡ copied) × (look.is_damaged ≡ true) × IsLossReported path log look.cut writes)
IsLogCheckOf copied path log (Err it) writes = writes.after ≡ writes.before

-- why the check of a WAL failed: memory ran out for the line that reports its damage, or it can't be read
abbrev pub HasLogCheckCause : Option (List ℕ) → LogCheckError → Type 0
HasLogCheckCause log unlooked.OutOfMemory =
    IfSome log (λ bytes. (frame commits : ℕ) × IsDamaged bytes frame commits)
HasLogCheckCause log (unlooked.Unread fault) = IsUnchecked log fault

-- by the result of the check of a WAL: whether the WAL of an admitted file is damaged; the error code if
-- the file is refused
abbrev pub admission_of : {E : Type 0} → Result (LogCheck E) LogCheckError → Result Bool ErrorCode
admission_of (Ok look) = if look.is_admitted then Ok look.is_damaged else Err failure.DamagedLog
admission_of (Err unlooked.OutOfMemory) = Err failure.Memory
admission_of (Err (unlooked.Unread fault)) = Err failure.Store

-- the text about a WAL that is there without its file
abbrev pub alone_text : List ℕ
alone_text = codes "its log is there without it: was it moved or removed while a desk ran?"

-- a WAL with the bytes `log` was checked, with this result
pub record HasLooked (E : Type 0) (copied : Bool) (path log : List ℕ) (result : Result Bool ErrorCode)
    (writes : Course (Option (List ℕ))) : Type 0 where
  pub look : Result (LogCheck E) LogCheckError
  pub looked : IsLogCheckOf copied path log look writes
  pub is : result ≡ admission_of look

-- ---- what is reported, whatever bytes the WAL has
-- damage is reported, at some frame and of some number of commits
pub record ReportsLoss (path : List ℕ) (writes : Course (Option (List ℕ))) : Type 0 where
  pub frame : ℕ
  pub commits : ℕ
  pub reported : IsWrittenOnce (damage_line path frame commits) writes

-- what is reported, by the result of the check of a WAL: damage if the result says so; else nothing
abbrev pub IsLogCheckReported :
    {E : Type 0} → Bool → List ℕ → Result (LogCheck E) LogCheckError → Course (Option (List ℕ)) → Type 0
IsLogCheckReported copied path (Ok look) writes =
    ((look.is_admitted ≡ true) × (look.is_damaged ≡ false) × (writes.after ≡ writes.before))
    ⊎ ((look.is_admitted ≡ copied) × (look.is_damaged ≡ true) × ReportsLoss path writes)
IsLogCheckReported copied path (Err it) writes = writes.after ≡ writes.before

-- what is reported, by the result of `check_before`: damage if the WAL is damaged; with `Store`, that a WAL
-- is there without its file, or nothing; else nothing
abbrev pub IsCheckReported : Bool → List ℕ → Result Bool ErrorCode → Course (Option (List ℕ)) → Type 0
IsCheckReported copied path (Ok false) writes = writes.after ≡ writes.before
IsCheckReported copied path (Ok true) writes = (copied ≡ true) × ReportsLoss path writes
IsCheckReported copied path (Err failure.DamagedLog) writes = (copied ≡ false) × ReportsLoss path writes
IsCheckReported copied path (Err failure.Memory) writes = writes.after ≡ writes.before
IsCheckReported copied path (Err failure.Store) writes = IsWrittenIfRoom (line_of path alone_text) writes
IsCheckReported copied path (Err it) writes = ⊥

-- the result for the WAL that was found: a WAL without its file is refused and reported; a WAL that may be
-- damaged is checked; else nothing is done
abbrev pub IsFoundChecked :
    {R E : Type 0} → read.Ghosts R → write.Ghosts E → Bool → List ℕ → FoundLog R → Result Bool ErrorCode
    → E → E → Type 0
IsFoundChecked r w copied path found_log.Alone result before now =
    (result ≡ Err failure.Store) × IsWrittenIfRoom (line_of path alone_text) (bytes_written w before now)
IsFoundChecked r w copied path found_log.Nothing result before now =
    (result ≡ Ok false) × (w.contents now ≡ w.contents before)
IsFoundChecked {R} {E} r w copied path (found_log.Log log) result before now =
    IfSome (r.remaining log) (λ bytes. HasLooked E copied path bytes result (bytes_written w before now))

-- ==== The steps by which the scratch copy of a file, which is read in place of it, is made and removed

-- the path of the scratch copy beside a path
abbrev pub scratch_of : List ℕ → List ℕ
scratch_of path = path ++ codes ".twin"

-- the paths of a scratch copy and of its WAL are those beside a path
pub record AreScratchPaths (path : List ℕ) (scratch : ScratchCopy) : Type 0 where
  pub path_is : string_bytes scratch.path ≡ scratch_of path
  pub log_is : string_bytes scratch.log ≡ log_of (scratch_of path)

-- the steps that make a scratch copy of the file `source`: one that an interrupted command left is removed,
-- then the new one is made, repaired if `mended`
abbrev pub make_steps : List ℕ → List ℕ → Bool → List Step
make_steps source scratch mended = Cleared scratch (log_of scratch) ∷ ScratchCopied source scratch mended ∷ []

-- one step is taken: this one, or `Failed`
pub record IsAsked (step : Step) (steps : Steps) : Type 0 where
  pub is_done : Bool
  pub made : Takes steps is_done step

-- a scratch copy and then its WAL are removed; either removal may fail
pub record AreRemoved (scratch : List ℕ) (steps : Steps) : Type 0 where
  pub between : Option (List Step)
  pub file : IsAsked (Removed scratch) (course steps.before between)
  pub log : IsAsked (Removed (log_of scratch)) (course between steps.after)

-- the making of a scratch copy failed, and what was made of it is removed
pub record IsMakingBrokenOff (scratch : List ℕ) (steps : Steps) : Type 0 where
  pub between : Option (List Step)
  pub made : Follows (course steps.before between) (Cleared scratch (log_of scratch) ∷ Failed ∷ [])
  pub removed : AreRemoved scratch (course between steps.after)

-- why no scratch copy was made, and with which error code `f`: memory ran out, and no step was taken; what
-- is at its path can't be removed; or its making failed
abbrev pub IsNotCopied : List ℕ → Steps → ErrorCode → Type 0
IsNotCopied scratch steps f = ((f ≡ failure.Memory) × (steps.after ≡ steps.before))
    ⊎ (Follows steps (Failed ∷ []) ⊎ IsMakingBrokenOff scratch steps)

-- ==== How `check` and `copy` read a file
-- In these definitions `it` stands for the answers of the machine.

-- how a file without wrong checksums is read, by whether its tables are in an order the desk doesn't read
abbrev pub way_by_order : Bool → ReadMode
way_by_order in_other_order = if in_other_order then way.OtherOrder else way.Itself

-- how a file is read: by whether its WAL is damaged, by how many of its pages have wrong checksums (if
-- known), and by whether it lists its tables in such an order
abbrev pub mode_for : Bool → Option ℕ → Bool → ReadMode
mode_for true bad_checksums in_other_order = way.Damaged
mode_for false None in_other_order = way_by_order in_other_order
mode_for false (Some count) in_other_order =
    if count == 0 then way_by_order in_other_order else way.BadChecksums count

-- the scratch copy is repaired: its tables are put in canonical order, and any checksums are computed anew
abbrev pub is_mended : ReadMode → Bool
is_mended way.Itself = false
is_mended way.Damaged = false
is_mended (way.BadChecksums count) = true
is_mended way.OtherOrder = true

-- how many pages with wrong checksums were copied untested, by the exit status of the copy, 0 if it succeeded
abbrev pub untested_pages : ReadMode → ℕ → Option ℕ
untested_pages way.Itself status = None
untested_pages way.Damaged status = None
untested_pages way.OtherOrder status = None
untested_pages (way.BadChecksums count) status = if status == 0 then Some count else None

-- recovery may apply a commit of the WAL of a file, or that can't be found out: by the path with all links
-- resolved, and by the answers for the path
abbrev pub has_changes_by : Answers → List ℕ → Result (List ℕ) ErrorKind → Bool
has_changes_by it path (Ok real) = if has_commit it real then it.recovered path else false
has_changes_by it path (Err error) = true

-- whether recovery may apply a commit of the WAL of the file at a path
abbrev pub has_changes : Answers → List ℕ → Bool
has_changes it path = has_changes_by it path (it.real path)

-- the result of asking that: or, if memory ran out for the name of the WAL, what recovery alone says
abbrev pub HasChanges : Answers → List ℕ → Bool → Type 0
HasChanges it path now = (now ≡ has_changes it path) ⊎ (now ≡ it.recovered path)

-- how a file is read: by whether its WAL is damaged, and whether recovery may apply a commit of it
abbrev pub way_with : Answers → List ℕ → Bool → Bool → ReadMode
way_with it path true changed = way.Damaged
way_with it path false changed = if is_no_path path then way.Itself
    else (if changed then way.Itself else mode_for false (it.bad_checksums path) (it.in_other_order path))

-- how a file may be read, whatever the machine answers: by whether its WAL is damaged, and whether SQLite
-- reads the name otherwise than as a path
abbrev pub MayBeRead : Bool → Bool → ReadMode → Type 0
MayBeRead true no_path now = now ≡ way.Damaged
MayBeRead false true now = now ≡ way.Itself
MayBeRead false false way.Itself = ⊤
MayBeRead false false way.Damaged = ⊥
MayBeRead false false (way.BadChecksums count) = (count == 0) ≡ false
MayBeRead false false way.OtherOrder = ⊤

-- how a file is read, by the answers of the machine and whether its WAL is damaged; memory may have run out
-- for the name of the WAL
abbrev pub IsModeAt : Answers → List ℕ → Bool → ReadMode → Type 0
IsModeAt it path damaged now = (now ≡ way_with it path damaged (has_changes it path))
    ⊎ (now ≡ way_with it path damaged (it.recovered path))
