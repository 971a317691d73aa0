-- How a new file gets its name, and what is reported if it can't be made.
use Rattle.std.specs.Prelude.{◌≡◌, ◌⊎◌, ⊤, ℕ, Bool, true, false, List, [], ◌∷◌, ◌++◌, All, codes, Option, None, Some, string_bytes}
use Rattle.std.specs.declared.io.ErrorKind.{ErrorKind}
use Rattle.std.specs.declared.io.ErrorKind.TheVariants as kind
use Rattle.std.specs.Io.KnownBytes.{Appends}
use Rattle.io_ends.specs.{Writing.BreaksOff, declared.writing.WriteError.WriteError, declared.writing.PartialWrite.PartialWrite}
use Rattle.desk_wire.specs.Streams.{Course}
use Rattle.desk_program.specs.Serving.{Grows}
use Rattle.host_files.specs.declared.{naming.NewFile.NewFile, pairs.ScratchFault.ScratchFault}
use Rattle.host_files.specs.declared.pairs.ScratchFault.TheVariants as fault

-- ==== The steps by which a new file gets its name
-- Steps are those of the trait `Folder`.

-- a step on the files at some paths
pub data Step : Type 0 where
  -- nothing was found at the path
  Free : List ℕ → Step
  -- a file and its WAL that an interrupted copy may have left are gone
  Cleared : List ℕ → List ℕ → Step
  -- a file was made and removed again
  Tried : List ℕ → Step
  -- the first file got a scratch copy at the second path: repaired (true), or byte for byte with its WAL
  ScratchCopied : List ℕ → List ℕ → Bool → Step
  Removed : List ℕ → Step
  -- from the first path to the second
  Renamed : List ℕ → List ℕ → Step
  -- the folder that the file is in was synced
  Synced : List ℕ → Step
  -- the first page of the file was put in canonical order, in one commit
  Ordered : List ℕ → Step
  -- one of these steps failed, or the path is not free
  Failed : Step

-- the steps taken before a call, and those taken after it, if they are known
abbrev pub Steps : Type 0
Steps = Course (Option (List Step))

-- the call takes just the steps `more`, in this order
abbrev pub Follows : Steps → List Step → Type 0
Follows steps more = Grows steps.before steps.after more

-- the call takes one step: this one, or `Failed` if it returns false
abbrev pub Takes : Steps → Bool → Step → Type 0
Takes steps true step = Follows steps (step ∷ [])
Takes steps false step = Follows steps (Failed ∷ [])

-- the call takes one step: this one, or `Failed` if it returns a cause
abbrev pub TakesIfNone : {X : Type 0} → Steps → Option X → Step → Type 0
TakesIfNone steps None step = Follows steps (step ∷ [])
TakesIfNone steps (Some cause) step = Follows steps (Failed ∷ [])

-- the name of the WAL of a file, and the temporary name of a new file
abbrev pub log_of : List ℕ → List ℕ
log_of path = path ++ codes "-wal"

abbrev pub part_of : List ℕ → List ℕ
part_of path = path ++ codes ".part"

-- `names` are those of the new file whose final path is `to`
pub record AreNames (to : List ℕ) (names : NewFile) : Type 0 where
  pub to_is : string_bytes names.to ≡ to
  pub to_log_is : string_bytes names.to_log ≡ log_of to
  pub part_is : string_bytes names.part ≡ part_of to
  pub part_log_is : string_bytes names.part_log ≡ log_of (part_of to)

-- what an interrupted copy left under the temporary names is removed
abbrev pub clearing : List ℕ → Step
clearing to = Cleared (part_of to) (log_of (part_of to))

-- nothing is at the final names; what a copy left at the temporary names is removed; then nothing is there
-- either, and a file can be made
abbrev pub free_steps : List ℕ → List Step
free_steps to =
    Free to ∷ Free (log_of to) ∷ clearing to ∷ Free (part_of to) ∷ Free (log_of (part_of to))
    ∷ Tried (part_of to) ∷ []

-- the WAL of the new file is removed, and the file renamed to its final name; then one step more
abbrev pub named_steps : List ℕ → Step → List Step
named_steps to last = Removed (log_of (part_of to)) ∷ Renamed (part_of to) to ∷ last ∷ []

-- a step that gives no file a new name: it neither renames nor makes a scratch copy
abbrev pub GivesNoName : Step → Type 0
GivesNoName (ScratchCopied source scratch mended) = ⊥
GivesNoName (Renamed from to) = ⊥
GivesNoName _ = ⊤

-- the call takes only steps that give no file a new name
pub record LeavesNames (steps : Steps) : Type 0 where
  pub more : List Step
  pub made : Follows steps more
  pub unnamed : All GivesNoName more

-- a step that changes nothing but what an interrupted copy left under the temporary names
abbrev pub ClearsOwn : List ℕ → Step → Type 0
ClearsOwn to (Free path) = ⊤
ClearsOwn to (Cleared part log) = (part ≡ part_of to) × (log ≡ log_of (part_of to))
ClearsOwn to (Synced path) = ⊤
ClearsOwn to Failed = ⊤
ClearsOwn to _ = ⊥

-- a step that changes nothing but the new file and its WAL under their temporary names, or renames the file
-- from its temporary to its final name
abbrev pub ChangesOwn : List ℕ → Step → Type 0
ChangesOwn to (Free path) = ⊤
ChangesOwn to (Removed path) = (path ≡ part_of to) ⊎ (path ≡ log_of (part_of to))
ChangesOwn to (Renamed from into) = (from ≡ part_of to) × (into ≡ to)
ChangesOwn to (Synced path) = ⊤
ChangesOwn to Failed = ⊤
ChangesOwn to _ = ⊥

-- the call takes only steps for which `Is` holds
pub record TakesAll (Is : Step → Type 0) (steps : Steps) : Type 0 where
  pub more : List Step
  pub made : Follows steps more
  pub each : All Is more

-- first nothing is found at the names of a new file; after that only the new file is changed
pub record ChangesFound (to : List ℕ) (steps : Steps) : Type 0 where
  pub rest : List Step
  pub made : Follows steps (free_steps to ++ rest)
  pub own : All (ChangesOwn to) rest

-- No other file is changed. Either nothing but what a copy left is removed; or, once nothing was found at the
-- names of the new file, only this is changed.
abbrev pub LeavesOthers : List ℕ → Steps → Type 0
LeavesOthers to steps = TakesAll (ClearsOwn to) steps ⊎ ChangesFound to steps

-- the call takes only steps that change nothing but the new file under its temporary names, and rename
-- nothing
abbrev pub GivesUp : List ℕ → Steps → Type 0
GivesUp to = TakesAll (λ step. ChangesOwn to step × GivesNoName step)

-- one of the steps of the call failed
pub record HasFailedStep (steps : Steps) : Type 0 where
  pub before : List Step
  pub after : List Step
  pub made : Follows steps (before ++ Failed ∷ after)

-- the last step failed, and the steps before changed nothing but what a copy left
pub record IsNotFree (to : List ℕ) (steps : Steps) : Type 0 where
  pub before : List Step
  pub made : Follows steps (before ++ Failed ∷ [])
  pub looks : All (ClearsOwn to) before

-- the new file doesn't get its name; or, after the steps `first`, it does, but its folder can't be synced
abbrev pub IsUnnamed : List Step → List ℕ → Steps → Type 0
IsUnnamed first to steps = LeavesNames steps ⊎ Follows steps (first ++ named_steps to Failed)

-- nothing is found at any of the names, then the new file gets its name, and its folder is synced
abbrev pub IsNamed : List ℕ → Steps → Type 0
IsNamed to steps = Follows steps (free_steps to ++ named_steps to (Synced to))

-- ==== What is reported of a new file or a scratch copy that can't be made, by the kind of the error
-- why a new file can't be made
abbrev pub creation_error_text : ErrorKind → List ℕ
creation_error_text kind.AlreadyExists = codes "it is there already"
creation_error_text kind.NotFound = codes "no such folder"
creation_error_text kind.NotADirectory = codes "no such folder"
creation_error_text kind.PermissionDenied = codes "no right to make it"
creation_error_text kind.ReadOnlyFilesystem = codes "a read-only file system"
creation_error_text kind.StorageFull = codes "a full disk"
creation_error_text kind.QuotaExceeded = codes "a full disk"
creation_error_text _ = codes "it can't be made"

-- the reported text, and whether it is of the source (true) or scratch copy (false); None if memory ran out
abbrev pub fault_text : ScratchFault → Option (Bool × List ℕ)
fault_text fault.OutOfMemory = None
fault_text (fault.Source cause) = Some (true, cause.now)
fault_text (fault.ScratchCopy cause) = Some (false, cause.now)

-- the same for a scratch copy whose file can't be made, by the kind of the error
abbrev pub made_text : ErrorKind → Option (Bool × List ℕ)
made_text kind.OutOfMemory = None
made_text it = Some (false, creation_error_text it)

-- the same for a source that can't be opened, and for one that can't be copied, by the kind of the error
abbrev pub source_text : ErrorKind → Option (Bool × List ℕ)
source_text kind.OutOfMemory = None
source_text _ = Some (true, codes "it can't be read")

abbrev pub copy_text : ErrorKind → Option (Bool × List ℕ)
copy_text kind.OutOfMemory = None
copy_text kind.StorageFull = Some (false, codes "a full disk")
copy_text kind.QuotaExceeded = Some (false, codes "a full disk")
copy_text _ = Some (false, codes "it can't be written, or what it is made of can't be read")

-- a fault is the one that is reported, with the text `text`, for some kind of error
pub record IsScratchFaultBy (text : ErrorKind → Option (Bool × List ℕ)) (fault : ScratchFault) : Type 0 where
  pub kind : ErrorKind
  pub is : fault_text fault ≡ text kind

-- why a copy was not written: the source can't be opened, its file can't be made, or copying stopped
abbrev pub IsCopyFault : ScratchFault → Type 0
IsCopyFault fault = IsScratchFaultBy source_text fault
    ⊎ (IsScratchFaultBy made_text fault ⊎ IsScratchFaultBy copy_text fault)

-- ==== What is reported to the administrator on the standard error
-- some text is appended to the standard error: the definition doesn't say which
pub record Reports (writes : Course (Option (List ℕ))) : Type 0 where
  pub text : List ℕ
  pub reported : Appends writes.before writes.after text

-- the line that reports a text about a file
unfoldable pub line_of : List ℕ → List ℕ → List ℕ
line_of path text = codes "uss_desk: " ++ (path ++ (codes ": " ++ (text ++ codes "\n")))

abbrev pub unenrolled_text : List ℕ
unenrolled_text = codes "no operator is enrolled, so each request is answered 403"

-- the line that reports that a desk has no operator, by the path of its file, if it has one
abbrev pub unenrolled_line : Option (List ℕ) → List ℕ
unenrolled_line (Some path) = line_of path unenrolled_text
unenrolled_line None = line_of (codes "in memory") unenrolled_text

-- a line is written: whole, or up to where the write broke off (`cut`)
abbrev pub IsWrittenUpTo : {E : Type 0} → List ℕ → Option (WriteError E) → Course (Option (List ℕ)) → Type 0
IsWrittenUpTo line None writes = Appends writes.before writes.after line
IsWrittenUpTo line (Some cut) writes = BreaksOff line writes.before writes.after cut.fault

-- a line is written: whole, or up to where the write broke off, wherever that was
abbrev pub IsWrittenOnce : List ℕ → Course (Option (List ℕ)) → Type 0
IsWrittenOnce line writes = Appends writes.before writes.after line
    ⊎ ((fault : PartialWrite) × BreaksOff line writes.before writes.after fault)

-- the same; or nothing is written, since memory ran out for the line
abbrev pub IsWrittenIfRoom : List ℕ → Course (Option (List ℕ)) → Type 0
IsWrittenIfRoom line writes =
    (writes.after ≡ writes.before) ⊎ Appends writes.before writes.after line
    ⊎ ((fault : PartialWrite) × BreaksOff line writes.before writes.after fault)
