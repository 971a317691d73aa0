-- What a machine answers about its files: what is found at a path, and what a command leaves.
use Rattle.std.specs.Prelude.{◌≡◌, ◌↔◌, ℕ, Bool, IsTrue, List, Option, None, Some, Result, Ok, Err, ◌≢◌, ◌⊎◌, ⊤, ◌==◌, true, false, if◌then◌else◌, [], ◌∷◌, ◌++◌, codes, bytes_eq, nat_eq, option_map, is_ok, not, IfSome, IsSomeAnd}
use Rattle.std.specs.declared.{io.ErrorKind.ErrorKind, fs.attrs.Metadata.Metadata}
use Rattle.std.specs.{Fs.IsFile, Fs.file_type, Fs.metadata_len, List.starts_with}
use Rattle.std.specs.declared.io.ErrorKind.TheVariants as kind
use Rattle.db_file.specs.Orders.{HasChecksums, HasOtherOrder, IsBadCount}
use Rattle.sqlite_std_file.specs.declared.pair.OpenError.{OpenError}
use Rattle.sqlite_std_file.specs.declared.pair.OpenError.TheVariants as opening
use Rattle.host_files.specs.{declared.files.Found.Found, declared.files.Identity.Identity, declared.state.Denial.Denial, declared.state.FileState.FileState, declared.state.Missing.Missing, declared.state.Start.Start, declared.state.Place.Place, declared.state.Next.Next, Naming.Failed, Naming.Follows, Naming.Steps, Naming.Tried}
use Rattle.host_files.specs.declared.state.FileState.TheVariants as state
use Rattle.host_files.specs.declared.state.Missing.TheVariants as missing
use Rattle.host_files.specs.declared.state.Denial.TheVariants as denial
use Rattle.host_files.specs.declared.state.Start.TheVariants as start
use Rattle.host_files.specs.declared.state.Place.TheVariants as place
use Rattle.host_files.specs.declared.state.Next.TheVariants as next

-- the answers, by the path that is asked about
pub record Answers : Type 0 where
  -- what it leads to, and what is there itself, which may be a link
  pub found : List ℕ → Result Found ErrorKind
  pub entry : List ℕ → Result Found ErrorKind
  -- the path with all links resolved
  pub real : List ℕ → Result (List ℕ) ErrorKind
  -- the error of opening its file for reading, and the bytes of the open file, if they are known
  pub unread : List ℕ → Option ErrorKind
  pub bytes : List ℕ → Option (List ℕ)
  -- the error of opening it for reading and writing, and why it can't be opened as SQLite does
  pub unwritten : List ℕ → Option ErrorKind
  pub unheld : List ℕ → Option Denial
  -- how many of its pages have wrong checksums, if that can be found out
  pub bad_checksums : List ℕ → Option ℕ
  -- it lists its tables in an order that the desk doesn't read
  pub in_other_order : List ℕ → Bool
  -- recovery applies a commit of its WAL, or that can't be found out
  pub recovered : List ℕ → Bool

-- a result with the function applied to its value, if it is Ok
abbrev pub by_ok : {A B E : Type 0} → (A → B) → Result A E → Result B E
by_ok f (Ok it) = Ok (f it)
by_ok f (Err error) = Err error

-- the error of a result, if it is Err
abbrev pub error_of : {A E : Type 0} → Result A E → Option E
error_of (Ok it) = None
error_of (Err error) = Some error

-- what was found has the kind and the length that the operating system says
pub record IsFoundAs (said : Metadata) (found : Found) : Type 0 where
  pub is_file : IsTrue found.is_file ↔ IsFile (file_type said)
  pub len : found.len ≡ metadata_len said

-- ==== What is found at the path of a file that can't be opened, and what is reported of it
-- Here `it` stands for the answers of the machine, and `made` says that the command makes a missing file.

-- ---- what the answers of the operating system say
-- why nothing can be reached at a path, by the kind of the error
abbrev pub missing_by : ErrorKind → Missing
missing_by kind.NotFound = missing.NoFile
missing_by kind.NotADirectory = missing.NoFolder
missing_by kind.PermissionDenied = missing.NoRight
missing_by _ = missing.Other

-- what is at a path: by whether it is a regular file and its length, and by the operating system's answer
abbrev pub place_with : Bool → ℕ → Place
place_with false len = place.NotRegular
place_with true len = if len == 0 then place.Empty else place.Filled

abbrev pub place_of : Result Found ErrorKind → Place
place_of (Ok found) = place_with found.is_file found.len
place_of (Err kind) = place.Nothing (missing_by kind)

-- SQLite reads a name otherwise than as a path
abbrev pub is_no_path : List ℕ → Bool
is_no_path path = if bytes_eq path (codes ":memory:") then true else starts_with nat_eq path (codes "file:")

-- what is asked next: by what is there, whether SQLite reads the name otherwise than as a path, and whether
-- the command makes a missing file. For such a name nothing more is asked, with one exception: if the
-- command makes the file and an empty one is there, whether it can be opened.
abbrev pub next_of_path : Place → Bool → Next
next_of_path (place.Nothing missing.NoFile) true = next.Link
next_of_path (place.Nothing it) made = next.Nothing (state.Missing it)
next_of_path place.NotRegular made = next.Nothing state.NotRegular
next_of_path place.Empty true = next.Access
next_of_path place.Empty false = next.Nothing state.Empty
next_of_path place.Filled made = next.Start

abbrev pub next_at : Place → Bool → Bool → Next
next_at it false made = next_of_path it made
next_at place.Empty true true = next.Access
next_at it true made = next.Nothing state.NoPath

-- what is at a path where no file exists, for a command that makes the file: by whether a link is there
abbrev pub free_or_dead_link : Bool → FileState
free_or_dead_link true = state.DeadLink
free_or_dead_link false = state.Free

-- why a file can't be opened: by the error of opening it for reading, and by that of opening it for writing
abbrev pub reading_denial : Option ErrorKind → Option Denial
reading_denial (Some kind.PermissionDenied) = Some denial.NoReading
reading_denial _ = None

abbrev pub writing_denial : Option ErrorKind → Option Denial
writing_denial (Some kind.PermissionDenied) = Some denial.NoWriting
writing_denial (Some kind.ReadOnlyFilesystem) = Some denial.ReadOnly
writing_denial _ = None

-- why a file can't be opened, by the error of opening it as SQLite does
abbrev pub denial_by : OpenError → Option Denial
denial_by opening.Busy = Some denial.Busy
denial_by opening.HotJournal = Some denial.HotJournal
denial_by (opening.Io error) = Some denial.Unopened
denial_by opening.OutOfMemory = None

-- the first of two causes, if there is one, else the second
abbrev pub or_denial : Option Denial → Option Denial → Option Denial
or_denial (Some it) next = Some it
or_denial None next = next

-- why a file can't be opened: by the error of opening it for reading, then by the machine's answers on
-- opening it for writing and as SQLite does
abbrev pub denial_after_open : Answers → List ℕ → Option ErrorKind → Option Denial
denial_after_open it path unread =
    or_denial (reading_denial unread)
    (or_denial (writing_denial (it.unwritten path)) (it.unheld path))

abbrev pub access_denial : Answers → List ℕ → Option Denial
access_denial it path = denial_after_open it path (it.unread path)

-- how a file begins, by its first bytes, or by the kind of the error of reading them
abbrev pub start_of : Result (List ℕ) ErrorKind → Start
start_of (Ok bytes) =
    if bytes_eq bytes (codes "SQLite format 3" ++ (0 ∷ [])) then start.Database else start.Other
start_of (Err kind.UnexpectedEof) = start.Other
start_of (Err _) = start.Unread

-- the result of looking how a file begins: any beginning if the file can be opened; else why it can't
abbrev pub IsStartAt : Answers → List ℕ → Result Start Denial → Type 0
IsStartAt it path (Ok start) = access_denial it path ≡ None
IsStartAt it path (Err denial) = access_denial it path ≡ Some denial

-- what is found at a path, by what is asked once it is known what is there
abbrev pub IsStateBy : Answers → List ℕ → Next → FileState → Type 0
IsStateBy it path (next.Nothing found) now = now ≡ found
IsStateBy it path next.Link now = now ≡ free_or_dead_link (is_ok (it.entry path))
IsStateBy it path next.Access now = now ≡ state.Made (access_denial it path)
IsStateBy it path next.Start now = (begun : Result Start Denial) × (now ≡ state.Filled begun)
    × IsStartAt it path begun

abbrev pub IsStateAt : Answers → List ℕ → Bool → FileState → Type 0
IsStateAt it path made = IsStateBy it path (next_at (place_of (it.found path)) (is_no_path path) made)

-- what may be found at a path, whatever the machine answers: for a name that SQLite reads otherwise than as a
-- path, for any other name, and for both by whether the name is such (true)
abbrev pub MayFindUnasked : Bool → FileState → Type 0
MayFindUnasked made state.NoPath = ⊤
MayFindUnasked made (state.Made it) = made ≡ true
MayFindUnasked made _ = ⊥

abbrev pub MayFindAsked : Bool → FileState → Type 0
MayFindAsked made state.NoPath = ⊥
MayFindAsked made (state.Missing it) = (made ≡ true) → it ≢ missing.NoFile
MayFindAsked made state.DeadLink = made ≡ true
MayFindAsked made state.Free = made ≡ true
MayFindAsked made state.NotRegular = ⊤
MayFindAsked made state.Empty = made ≡ false
MayFindAsked made (state.Made it) = made ≡ true
MayFindAsked made (state.Filled it) = ⊤

abbrev pub MayFind : Bool → Bool → FileState → Type 0
MayFind true made found = MayFindUnasked made found
MayFind false made found = MayFindAsked made found

-- what may be asked next, whatever the machine answers: a result has to be one that may be found
abbrev pub MayAsk : Bool → Bool → Next → Type 0
MayAsk no_path made (next.Nothing found) = MayFind no_path made found
MayAsk no_path made next.Link = (no_path ≡ false) × (made ≡ true)
MayAsk no_path made next.Access = made ≡ true
MayAsk no_path made next.Start = no_path ≡ false

-- ---- what is reported
-- the text for a path at which nothing can be reached
abbrev pub missing_text : Missing → List ℕ
missing_text missing.NoFile = codes "no such file"
missing_text missing.NoFolder = codes "no such folder"
missing_text missing.NoRight = codes "no right to reach it"
missing_text missing.Other = codes "it can't be reached"

-- the text for a file that can't be opened, whatever its content
abbrev pub denial_text : Denial → List ℕ
denial_text denial.NoReading = codes "no right to read it"
denial_text denial.NoWriting = codes "no right to write it"
denial_text denial.ReadOnly = codes "a read-only file system"
denial_text denial.Busy = codes "in use by another program"
denial_text denial.HotJournal = codes "a journal of SQLite beside it: open it with sqlite3 first"
denial_text denial.Unopened = codes "no right to its log or folder, a second name, or a disk that fails"

-- the text for a file that can't be opened, whatever its content; None if it can be opened
abbrev pub access_cause : Answers → List ℕ → Option (List ℕ)
access_cause it path = option_map denial_text (access_denial it path)

-- a text is one of those for a file that can't be opened, whatever its content
abbrev pub IsDenialText : List ℕ → Type 0
IsDenialText text = (denial : Denial) × (text ≡ denial_text denial)

-- the text for a file that can be opened, and is refused for its content
abbrev pub start_text : Start → List ℕ
start_text start.Database =
    codes "a damaged page, the log of another file, rows that break a key, or a disk that fails"
start_text start.Other = codes "no SQLite database"
start_text start.Unread = codes "it can't be read"

-- the text for a file that is refused, by what was found at its path
abbrev pub refusal_text : FileState → List ℕ
refusal_text state.NoPath = codes "a name that SQLite reads otherwise than as a path"
refusal_text (state.Missing it) = missing_text it
refusal_text state.DeadLink = codes "a link to no file"
refusal_text state.Free = codes "it can't be made"
refusal_text state.NotRegular = codes "no SQLite database"
refusal_text state.Empty = codes "an empty file"
refusal_text (state.Made None) = codes "it can't be written: a full disk, or one that fails"
refusal_text (state.Made (Some it)) = denial_text it
refusal_text (state.Filled (Ok it)) = start_text it
refusal_text (state.Filled (Err it)) = denial_text it

-- the text for a path that isn't free, by whether SQLite reads the name otherwise than as a path
abbrev pub taken_text : Bool → List ℕ
taken_text true = codes "a name that SQLite reads otherwise than as a path"
taken_text false = codes "it is there already"

-- a command makes the file, and nothing is at its path
abbrev pub is_free : FileState → Bool
is_free state.Free = true
is_free _ = false

-- the pages of a file may be damaged: it can be opened, and begins as a database
abbrev pub may_be_damaged : FileState → Bool
may_be_damaged (state.Filled (Ok start.Database)) = true
may_be_damaged _ = false

-- how many pages of a file have wrong checksums: None if no page has, or the file isn't refused for its pages
abbrev pub if_any : Option ℕ → Option ℕ
if_any None = None
if_any (Some count) = if count == 0 then None else Some count

abbrev pub bad_checksum_count : Answers → List ℕ → FileState → Option ℕ
bad_checksum_count it path found = if may_be_damaged found then if_any (it.bad_checksums path) else None

-- The text on a file that SQLite refuses: by whether its path is free, the text `found` for what was found
-- there, the path, and the steps on the folder. At a free path a file is made and removed again: if that
-- succeeds, the text is `found`; if not, any. At any other path there is no step, and the text is `found`.
abbrev pub IsCauseBy : Bool → List ℕ → List ℕ → Steps → List ℕ → Type 0
IsCauseBy true found path steps text =
    (Follows steps (Tried path ∷ []) × (text ≡ found)) ⊎ Follows steps (Failed ∷ [])
IsCauseBy false found path steps text = (text ≡ found) × (steps.after ≡ steps.before)

-- ==== What the answers of a machine, `it`, say of a file that a copy may have left, and of an open one
-- it is certain that nothing is at a path
abbrev pub is_unfound : Result Found ErrorKind → Bool
is_unfound (Err kind.NotFound) = true
is_unfound _ = false

abbrev pub is_missing : Answers → List ℕ → Bool
is_missing it path = is_unfound (it.entry path)

-- two identities are those of the same file
abbrev pub is_same : Identity → Identity → Bool
is_same one other = if one.device == other.device then one.inode == other.inode else false

-- a path leads to the file `held`, if one is
abbrev pub is_found : Result Found ErrorKind → Option Identity → Bool
is_found (Ok found) (Some held) = is_same found.identity held
is_found (Ok found) None = false
is_found (Err error) held = false

abbrev pub is_at : Answers → List ℕ → Option Identity → Bool
is_at it path held = is_found (it.found path) held

-- what is at a path may be removed as left by a copy: nothing, or a regular file that is not the source
abbrev pub is_left_by : Answers → List ℕ → Result Found ErrorKind → Bool
is_left_by it source (Ok found) = if found.is_file then not (is_at it source (Some found.identity)) else false
is_left_by it source (Err kind.NotFound) = true
is_left_by it source (Err _) = false

abbrev pub is_left : Answers → List ℕ → List ℕ → Bool
is_left it source path = is_left_by it source (it.entry path)

-- an empty regular file is at a path
abbrev pub is_empty_by : Result Found ErrorKind → Bool
is_empty_by (Ok found) = if found.is_file then found.len == 0 else false
is_empty_by (Err error) = false

abbrev pub is_empty : Answers → List ℕ → Bool
is_empty it path = is_empty_by (it.entry path)

-- ==== What the answers of a machine, `it`, say of the pages of a database file
-- how long what was found is, if it is a regular file
abbrev pub regular_len : Result Found ErrorKind → Option ℕ
regular_len (Ok found) = if found.is_file then Some found.len else None
regular_len (Err error) = None

-- a path leads to a regular file that can be read, and this holds of its length and its bytes, if they are known
abbrev pub IsReadSo : Answers → List ℕ → (ℕ → List ℕ → Type 0) → Type 0
IsReadSo it path says = (it.unread path ≡ None)
    × IsSomeAnd (regular_len (it.found path)) (λ len. IfSome (it.bytes path) (says len))

-- its pages have checksums, so many have wrong ones, or it lists its tables in an order that the desk doesn't
-- read
abbrev pub HasChecksumsAt : Answers → List ℕ → Type 0
HasChecksumsAt it path = IsReadSo it path (λ len. HasChecksums)

abbrev pub HasBadChecksums : Answers → List ℕ → ℕ → Type 0
HasBadChecksums it path count = IsReadSo it path (λ len bytes. IsBadCount len bytes (Some count))

abbrev pub HasOtherOrderAt : Answers → List ℕ → Type 0
HasOtherOrderAt it path = IsReadSo it path (λ len. HasOtherOrder)
