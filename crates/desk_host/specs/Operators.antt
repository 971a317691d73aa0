-- The file of enrolments, the folder of journals, and what is reported if one of them can't be read.
use Rattle.std.specs.Prelude.{◌≡◌, ◌⊎◌, ℕ, List, codes, Option, None, Some, ◌≢◌, ◌+◌, ◌-◌, ◌^◌, ◌==◌, ◌&&◌, Bool, true, false, nat_lt, if◌then◌else◌, ◌++◌, length, decimal, drop, position, take, option_and_then, string_bytes, ◌<◌, ◌≤◌, ⊤, [], ◌∷◌, IsSome, Result, Ok, Err, min, nat_le}
use Rattle.std.specs.declared.{io.Error.Error, io.ErrorKind.ErrorKind, fs.attrs.Metadata.Metadata}
use Rattle.std.specs.declared.io.ErrorKind.TheVariants as kind
use Rattle.std.specs.{Char.is_ascii_digit, Fmt.format_spec, Fmt.styled_decimal, List.list_all, Str.Parse.digits_value, Option.is_none, Fs.IsFile, Fs.file_type, Fs.metadata_len, Result.IsErrAnd, Str.Lossy.utf8_lossy}
use Rattle.desk_wire.specs.Streams.{Course, course}
use Rattle.desk_cli.specs.{Malformed.parse_enrolment_line, Malformed.parse_enrolment_lines, Malformed.lines_of, declared.line.Enrolment.Enrolment, declared.failure.ErrorCode.ErrorCode}
use Rattle.desk_cli.specs.declared.failure.ErrorCode.TheVariants as failure
use Rattle.desk_program.specs.Serving.{Grows}
use Rattle.host_files.specs.Naming.{IsWrittenIfRoom, line_of}
use Rattle.desk_host.specs.declared.{folders.JournalError.JournalError, folders.JournalFile.JournalFile, folders.Greatest.Greatest, journal_file.FileError.FileError, journal_file.LocalJournal.LocalJournal, operators.FileReadError.FileReadError, operators.Stamp.Stamp, operators.FileReadError.TheVariants.Cause, operators.FileReadError.TheVariants.Memory, operators.LineCounts.LineCounts}
use Rattle.desk_host.specs.declared.folders.JournalError.TheVariants as unkept
use Rattle.desk_host.specs.declared.operators.FileReadError.TheVariants as unread
use Rattle.desk_recording.specs.{Tail.HasNoTail, declared.tail.Tail.Tail, declared.tail.TailEnd.TailEnd, declared.tail.TailEnd.TheVariants.End, declared.tail.TailEnd.TheVariants.Short, declared.tail.TailEnd.TheVariants.Damaged, declared.tail.TailFault.TailFault}
use Rattle.desk_recording.specs.declared.tail.TailFault.TheVariants as tail

-- the text about a file that can't be read; None if memory ran out
abbrev pub unread_text : FileReadError → Option (List ℕ)
unread_text unread.Memory = None
unread_text (unread.Cause cause) = Some cause.now

-- that text, by the kind of the error of the operating system
abbrev pub unread_by : ErrorKind → Option (List ℕ)
unread_by kind.OutOfMemory = None
unread_by kind.NotFound = Some (codes "no such file")
unread_by kind.PermissionDenied = Some (codes "no right to read it")
unread_by _ = Some (codes "it can't be read")

-- the text about a journal that can't be read or written; None if memory ran out
abbrev pub journal_error_text : JournalError → Option (List ℕ)
journal_error_text unkept.Memory = None
journal_error_text (unkept.Cause cause) = Some cause.text.now

-- that text, by the operating system's kind of error
abbrev pub journal_error_by : ErrorKind → Option (List ℕ)
journal_error_by kind.OutOfMemory = None
journal_error_by kind.NotFound = Some (codes "no such folder")
journal_error_by kind.NotADirectory = Some (codes "no folder")
journal_error_by kind.PermissionDenied = Some (codes "no right to it")
journal_error_by kind.ReadOnlyFilesystem = Some (codes "a read-only file system")
journal_error_by kind.StorageFull = Some (codes "a full disk")
journal_error_by kind.QuotaExceeded = Some (codes "a full disk")
journal_error_by kind.AlreadyExists = Some (codes "it is there already")
journal_error_by _ = Some (codes "it can't be read or written")

-- that text, by the fault in reading the end of a journal
abbrev pub tail_error_text : {R : Type 0} → TailFault R → Option (List ℕ)
tail_error_text tail.OutOfMemory = None
tail_error_text (tail.Unread error) = Some (codes "its last record can't be read")
tail_error_text tail.Endless = Some (codes "its last record can't be read")
tail_error_text tail.NoRecord = Some (codes "its last record is none of a desk")

-- the error code of a command that fails for a journal: `Memory`, or `Write` for a cause
abbrev pub journal_failure : JournalError → ErrorCode
journal_failure unkept.Memory = failure.Memory
journal_failure (unkept.Cause cause) = failure.Write

-- the number of a folder's last journal and its size in bytes, each 0 if there is none
abbrev pub extent_of : Option JournalFile → ℕ × ℕ
extent_of None = (0, 0)
extent_of (Some found) = (found.number, found.len)

-- the result of something done in the journal folder, with an error code: `Memory`, or `Write` for a cause
abbrev pub failure_of : {V : Type 0} → Result V JournalError → Result V ErrorCode
failure_of (Ok v) = Ok v
failure_of (Err error) = Err (journal_failure error)

-- the result for a desk in memory, which continues no journal: `Write` if the folder has a last journal
abbrev pub empty_or_write : Option JournalFile → Result ⊤ ErrorCode
empty_or_write None = Ok tt
empty_or_write (Some last) = Err failure.Write

-- the last journal was read: it has still that number and that size, or the error says that it is in use
abbrev pub IsSameExtent : ℕ × ℕ → ℕ × ℕ → Result ⊤ JournalError → Type 0
IsSameExtent found extent (Ok done) = found ≡ extent
IsSameExtent found extent (Err error) =
    (found ≢ extent) × (journal_error_text error ≡ Some (codes "in use by another program"))

-- the number of the next journal; the error `Write` if 64 bits don't hold it
abbrev pub next_number : ℕ → Result ℕ ErrorCode
next_number number = if nat_lt (number + 1) (2 ^ 64) then Ok (number + 1) else Err failure.Write

-- why a journal can't be continued, or none if it can: by the number in its name, the number in its first
-- entry, if that is whole, and what follows its last whole entry
abbrev pub cause_of_tail : ℕ → Option ℕ → TailEnd → Option (List ℕ)
cause_of_tail number None End = Some (codes "its last record is empty")
cause_of_tail number None Short = Some (codes "its last record is damaged")
cause_of_tail number begun Damaged = Some (codes "its last record is damaged")
cause_of_tail number (Some begun) ended =
    if begun == number then None else Some (codes "its last record has another number")

-- the result is what was read of a journal, if there is no cause against continuing it; else that cause
abbrev pub ContinuesUnless : Option (List ℕ) → Tail × TailEnd → Result (Tail × TailEnd) JournalError → Type 0
ContinuesUnless None read result = result ≡ Ok read
ContinuesUnless (Some cause) read (Ok other) = ⊥
ContinuesUnless (Some cause) read (Err why) = journal_error_text why ≡ Some cause

-- there is no cause against continuing the journal with this number in its name
abbrev pub CanContinue : ℕ → Tail → TailEnd → Type 0
CanContinue number tail ended = cause_of_tail number tail.record ended ≡ None

-- the result of a write or a sync of a journal is returned; an error is noted as reported
abbrev pub ReportsFirstError : Result ⊤ Error → LocalJournal → LocalJournal → Result ⊤ FileError → Type 0
ReportsFirstError (Ok done) old new result = (result ≡ Ok (tt {0})) × (new ≡ old)
ReportsFirstError (Err e) old new result =
    (result ≡ Err (record { error = e })) × (new ≡ record old { is_reported = true })

-- an error in reading or writing a journal has the text for some kind of error of the operating system
pub record IsJournalError (fault : JournalError) : Type 0 where
  pub kind : ErrorKind
  pub text : journal_error_text fault ≡ journal_error_by kind

-- the error that the last journal has changed, or can't be read
abbrev pub IsChangedOrError : JournalError → Type 0
IsChangedOrError fault =
    (journal_error_text fault ≡ Some (codes "in use by another program")) ⊎ IsJournalError fault

-- an error in reading the end of a journal with these bytes, if they are known, from an `R`: it has the text
-- for a fault that they have
pub record IsTailFault (R : Type 0) (bytes : Option (List ℕ)) (fault : JournalError) : Type 0 where
  pub tail : TailFault R
  pub has : HasNoTail bytes tail
  pub text : journal_error_text fault ≡ tail_error_text tail

-- an error in opening a journal, or in reading its end from an `R`, whatever bytes it has
abbrev pub IsTailError : Type 0 → JournalError → Type 0
IsTailError R fault = IsJournalError fault ⊎ ((bytes : Option (List ℕ)) × IsTailFault R bytes fault)

-- an error that tells what speaks against continuing a journal with this number in its name
pub record IsCauseAgainst (number : ℕ) (fault : JournalError) : Type 0 where
  pub tail : Tail
  pub ended : TailEnd
  pub cause : List ℕ
  pub against : cause_of_tail number tail.record ended ≡ Some cause
  pub text : journal_error_text fault ≡ Some cause

-- a journal with this number in its name isn't continued: its end can't be read from an `R`, or speaks against it
abbrev pub IsNotContinued : Type 0 → ℕ → JournalError → Type 0
IsNotContinued R number fault = IsTailError R fault ⊎ IsCauseAgainst number fault

-- ==== The names of the journals of a folder, `NUMBER-SECOND.record`
-- a text is made of decimal digits, and not empty
unfoldable pub are_digits : List ℕ → Bool
are_digits text = nat_lt 0 (length text) && list_all is_ascii_digit text

-- the path of the file with this name in a folder
unfoldable pub path_in : List ℕ → List ℕ → List ℕ
path_in folder name = folder ++ (codes "/" ++ name)

-- what the name of a journal ends with
abbrev pub ending : List ℕ
ending = codes ".record"

-- A journal's number as its name has it: ten digits at least, filled with leading zeros. This is the format
-- `{:010}`: fill 32 (a space), no alignment, flag 4 (leading zeros), width 10, and no precision (2 ^ 64 - 1).
abbrev pub digits_of : ℕ → List ℕ
digits_of number = styled_decimal (format_spec 32 0 4 10 (2 ^ 64 - 1)) number

-- the temporary path of a new journal
unfoldable pub part_of : List ℕ → ℕ → List ℕ
part_of folder number = folder ++ (codes "/.new-" ++ digits_of number)

-- the final path of a journal, with the Unix second at which it begins
unfoldable pub name_of : List ℕ → ℕ → ℕ → List ℕ
name_of folder number second =
    folder ++ (codes "/" ++ (digits_of number ++ (codes "-" ++ (decimal second ++ ending))))

-- ---- the number in a name
-- the byte between the number and the second: `-`
abbrev pub is_dash : ℕ → Bool
is_dash byte = byte == 45

-- the number that digits write, if it fits 64 bits
abbrev pub number_of : List ℕ → Option ℕ
number_of digits = if nat_lt (digits_value 10 digits) (2 ^ 64) then Some (digits_value 10 digits) else None

-- the number of a journal, by the texts before and after the dash: None if the first has fewer than ten
-- digits, one of them isn't made of digits, or the number doesn't fit 64 bits
abbrev pub checked_number : List ℕ → List ℕ → Option ℕ
checked_number number second = if nat_lt (length number) 10 then None
    else (if are_digits number then (if are_digits second then number_of number else None) else None)

-- the number of a journal, by its name without the extension; None if that has no dash
abbrev pub number_in_stem : List ℕ → Option ℕ
number_in_stem stem =
    option_and_then (λ i. checked_number (take i stem) (drop (i + 1) stem)) (position is_dash stem)

-- a name is that of the journal with this number; None if it is that of no journal
abbrev pub IsNumberIn : List ℕ → Option ℕ → Type 0
IsNumberIn name number = ((stem : List ℕ) × (name ≡ stem ++ ending) × (number ≡ number_in_stem stem))
    ⊎ (((stem : List ℕ) → name ≢ stem ++ ending) × (number ≡ None))

-- ---- the journal with the greatest number
-- the path is that of a journal in the folder, with this number in its name
pub record IsJournalAt (folder : List ℕ) (number : ℕ) (path : List ℕ) : Type 0 where
  pub name : List ℕ
  pub has : IsNumberIn name (Some number)
  pub is : path ≡ path_in folder name

-- the journal with the greatest number so far is one of the folder
abbrev pub IsJournalIn : List ℕ → Greatest → Type 0
IsJournalIn folder it = IsJournalAt folder it.number (string_bytes it.path)

-- the journal that is returned is one of the folder
abbrev pub IsJournalFileIn : List ℕ → JournalFile → Type 0
IsJournalFileIn folder it = IsJournalAt folder it.number (string_bytes it.path)

-- a number is above the greatest so far, if there is one
abbrev pub is_above : Option Greatest → ℕ → Bool
is_above None number = true
is_above (Some it) number = nat_lt it.number number

-- a journal has this number and this path
abbrev pub IsGreatest : ℕ → List ℕ → Option Greatest → Type 0
IsGreatest number path (Some it) = (it.number ≡ number) × (string_bytes it.path ≡ path)
IsGreatest number path None = ⊥

-- The journal with the greatest number before and after a name is read. It is that of the name if the name
-- has a number that is above the greatest so far; else it stays. The definitions take: whether the number
-- is above; the number, if the name has one; and the name.
abbrev pub IsNextBy : Bool → ℕ → List ℕ → Option Greatest → Option Greatest → Type 0
IsNextBy true number path before now = IsGreatest number path now
IsNextBy false number path before now = now ≡ before

abbrev pub IsNextOf : Option ℕ → List ℕ → Option Greatest → Option Greatest → Type 0
IsNextOf (Some number) path before now = IsNextBy (is_above before number) number path before now
IsNextOf None path before now = now ≡ before

pub record IsNextAt (folder name : List ℕ) (before now : Option Greatest) : Type 0 where
  pub number : Option ℕ
  pub has : IsNumberIn name number
  pub next : IsNextOf number (path_in folder name) before now

-- ==== The file of enrolments that an administrator changes while a desk serves
-- what is asked of the file at a path, with the answer: its stamp, or its text; None if it has none
pub data Asking : Type 0 where
  Stamped : List ℕ → Option Stamp → Asking
  Read : List ℕ → Option (List ℕ) → Asking

-- the value of a result, if it is Ok
abbrev pub ok_of : {A E : Type 0} → Result A E → Option A
ok_of (Ok it) = Some it
ok_of (Err e) = None

-- the stamp by the metadata of a file: it has the length of a regular file; anything else is refused
abbrev pub IsStampOf : Metadata → Result Stamp FileReadError → Type 0
IsStampOf said (Ok stamp) = IsFile (file_type said) × (stamp.len ≡ metadata_len said)
IsStampOf said (Err fault) = ¬ IsFile (file_type said) × (unread_text fault ≡ Some (codes "no file"))

-- ---- the text of a file
-- a file can't be read for an error of the operating system: the fault has the text for some kind of error
pub record IsUnreadBySystem (fault : FileReadError) : Type 0 where
  pub kind : ErrorKind
  pub text : unread_text fault ≡ unread_by kind

-- why a file has no stamp: an error of the operating system, or it isn't a regular file
abbrev pub IsUnstamped : FileReadError → Type 0
IsUnstamped fault = IsUnreadBySystem fault ⊎ (unread_text fault ≡ Some (codes "no file"))

-- the most bytes of a file that is read
abbrev pub max_bytes : ℕ
max_bytes = 1048576

-- the text about a longer file
abbrev pub too_long : List ℕ
too_long = codes "longer than 1,048,576 bytes"

-- why the text of a file isn't read: an error of the operating system, or it is too long
abbrev pub IsTextFault : FileReadError → Type 0
IsTextFault fault = IsUnreadBySystem fault ⊎ (unread_text fault ≡ Some too_long)

-- a file's bytes as text, invalid UTF-8 replaced; or why it isn't read: the system's error, or too many bytes
abbrev pub IsTextOf : List ℕ → Result (List ℕ) FileReadError → Type 0
IsTextOf bytes (Ok text) = (length bytes ≤ max_bytes) × (text ≡ utf8_lossy bytes)
IsTextOf bytes (Err fault) =
    IsUnreadBySystem fault ⊎ ((max_bytes < length bytes) × (unread_text fault ≡ Some too_long))

-- a file that can't be opened isn't read, for the error of opening it
abbrev pub IsUnreadIf : {A : Type 0} → Option ErrorKind → Result A FileReadError → Type 0
IsUnreadIf (Some kind) result = IsErrAnd result (λ fault. unread_text fault ≡ unread_by kind)
IsUnreadIf None result = ⊤

-- a line is malformed: neither empty nor an enrolment
abbrev pub is_malformed : List ℕ → Bool
is_malformed line = if length line == 0 then false else is_none (parse_enrolment_line line)

-- the text about the malformed line with this number
unfoldable pub malformed_line : ℕ → List ℕ
malformed_line number = codes "line " ++ (decimal number ++ codes " is not NAME CEILING, and passed over")

-- the text about so many malformed lines more
unfoldable pub more_lines : ℕ → List ℕ
more_lines count = decimal count ++ codes " more such lines"

-- the file at a path was asked for its stamp and text, and the enrolments are those on the text's lines
pub record AreEnrolmentsRead (path : List ℕ) (files : Course (Option (List Asking)))
    (enrolments : List Enrolment) : Type 0
  where
    pub stamp : Stamp
    pub text : List ℕ
    pub asked : Grows files.before files.after (Stamped path (Some stamp) ∷ Read path (Some text) ∷ [])
    pub are : enrolments ≡ parse_enrolment_lines (lines_of text)

-- the file at a path can't be read: it has no stamp, or no text
abbrev pub IsFileUnread : List ℕ → Course (Option (List Asking)) → Type 0
IsFileUnread path files = Grows files.before files.after (Stamped path None ∷ [])
    ⊎ ((stamp : Stamp) × Grows files.before files.after (Stamped path (Some stamp) ∷ Read path None ∷ []))

-- why no enrolments are read: memory ran out, or the file can't be read
abbrev pub HasUnreadCause : List ℕ → Course (Option (List Asking)) → FileReadError → Type 0
HasUnreadCause path files Memory = ⊤
HasUnreadCause path files (Cause text) = IsFileUnread path files

-- What one look at the file at a path returns. Either its stamp is the one that was last seen: no
-- enrolments. Or it is read: the enrolments of its text, and its stamp is now seen. Or it can't be read: no
-- enrolments, and no stamp is seen any more.
pub record IsLookResultAt (path : List ℕ) (seen : Course (Option Stamp))
    (files : Course (Option (List Asking))) (newly_enrolled : List Enrolment) : Type 0
  where
    pub stamp : Option Stamp
    pub between : Option (List Asking)
    pub stamped : Grows files.before between (Stamped path stamp ∷ [])
    pub reported : (IsSome stamp × (stamp ≡ seen.before) × (seen.after ≡ seen.before)
        × (files.after ≡ between) × (newly_enrolled ≡ []))
        ⊎ ((AreEnrolmentsRead path (course between files.after) newly_enrolled × (seen.after ≡ stamp))
        ⊎ (IsFileUnread path (course between files.after) × (seen.after ≡ None) × (newly_enrolled ≡ [])))

-- the same, by the path of the file, if there is one; without a file there are no enrolments
abbrev pub IsLookResult :
    Option (List ℕ) → Course (Option Stamp) → Course (Option (List Asking)) → List Enrolment → Type 0
IsLookResult None seen files newly_enrolled = (newly_enrolled ≡ []) × (files.after ≡ files.before)
IsLookResult (Some path) seen files newly_enrolled = IsLookResultAt path seen files newly_enrolled

-- ==== Which lines of a file of enrolments are reported as malformed
-- lines are written in their order, each at most once: a failed write, and a lack of memory, are ignored
abbrev pub AreReported : List (List ℕ) → Option (List ℕ) → Option (List ℕ) → Type 0
AreReported [] before now = now ≡ before
AreReported (line ∷ lines) before now =
    (between : Option (List ℕ)) × IsWrittenIfRoom line (course before between) × AreReported lines between now

-- how many malformed lines of a file are reported one by one
abbrev pub reported_lines : ℕ
reported_lines = 20

-- one more, at most the greatest number of 32 bits
abbrev pub one_more : ℕ → ℕ
one_more count = min (count + 1) (2 ^ 32 - 1)

-- the counts of lines and of malformed lines, once this line is counted too
abbrev pub counted_with : List ℕ → LineCounts → LineCounts
counted_with line so_far = record {
  lines = one_more so_far.lines;
  malformed = if is_malformed line then one_more so_far.malformed else so_far.malformed;
}

-- the lines reported about the last line counted: one if it is malformed and among the first that are
abbrev pub line_reported : List ℕ → List ℕ → LineCounts → List (List ℕ)
line_reported path line so_far = if is_malformed line then (if nat_le so_far.malformed reported_lines
    then line_of path (malformed_line so_far.lines) ∷ [] else []) else []

-- the lines reported about the malformed lines beyond the first: one, if there are any
abbrev pub rest_reported : List ℕ → ℕ → List (List ℕ)
rest_reported path malformed =
    if nat_lt reported_lines malformed then line_of path (more_lines (malformed - reported_lines)) ∷ []
    else []

-- the lines reported about the rest of a file, once `so_far` counts the lines before
abbrev pub lines_reported_after : List ℕ → LineCounts → List (List ℕ) → List (List ℕ)
lines_reported_after path so_far [] = rest_reported path so_far.malformed
lines_reported_after path so_far (line ∷ lines) = line_reported path line (counted_with line so_far)
    ++ lines_reported_after path (counted_with line so_far) lines

-- the lines reported about all lines of a file
abbrev pub lines_reported : List ℕ → List (List ℕ) → List (List ℕ)
lines_reported path lines = lines_reported_after path (record { lines = 0; malformed = 0 }) lines
