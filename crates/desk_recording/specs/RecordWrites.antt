-- The writes to a journal file (docs/journal-format.md), and its first entries.
use Rattle.std.specs.Prelude.{◌≡◌, ◌⊎◌, ⊤, ℕ, Bool, true, false, List, [], ◌∷◌, ◌++◌, map, Option, None, Some, option_map, zero, suc, option_to_list, if◌then◌else◌}
use Rattle.desk_rules.specs.{Limits.is_permitted, declared.terms.Terms.Terms}
use Rattle.desk_record.specs.{Record.EntryParts, Record.entries, Record.entry, declared.kind.Kind.Kind}
use Rattle.desk_record.specs.declared.kind.Kind.TheVariants as kind
use Rattle.desk_replay.specs.Replaying.{version}
use Rattle.desk_cli.specs.declared.{line.Enrolment.Enrolment, failure.ErrorCode.ErrorCode}
use Rattle.desk_cli.specs.declared.failure.ErrorCode.TheVariants as failure
use Rattle.desk_program.specs.Enrolling.{Noted, answer_entry, operator_entry, request_entry}
use Rattle.desk_recording.specs.declared.journal.{AppendError.AppendError, AppendError.TheVariants.Journal, AppendError.TheVariants.OutOfMemory}

-- a write: bytes are appended; all that was appended is flushed to the disk; or one of these failed
pub data Write : Type 0 where
  Appended : List ℕ → Write
  Synced : Write
  Failed : Write

-- if the writes before (old) are known, the writes after (new) are those and then these (more)
abbrev pub FollowsWrites : Option (List Write) → Option (List Write) → List Write → Type 0
FollowsWrites old new more = new ≡ option_map (λ writes. writes ++ more) old

-- two writes are not both made: memory ran out before the first, or that failed, or only the second failed
abbrev pub StopsWriting : Option (List Write) → Option (List Write) → Write → Type 0
StopsWriting old new first = (new ≡ old) ⊎ FollowsWrites old new (Failed ∷ [])
    ⊎ FollowsWrites old new (first ∷ Failed ∷ [])

-- one write isn't made: memory ran out before it, or it failed
abbrev pub IsNotWritten : Option (List Write) → Option (List Write) → Type 0
IsNotWritten old new = (new ≡ old) ⊎ FollowsWrites old new (Failed ∷ [])

-- a write is made, or failed, by the flag
abbrev pub MakesWrite : Option (List Write) → Option (List Write) → Bool → Write → Type 0
MakesWrite old new true write = FollowsWrites old new (write ∷ [])
MakesWrite old new false write = FollowsWrites old new (Failed ∷ [])

-- the error is one of the file, and not of memory
abbrev pub IsJournalFault : {F : Type 0} → AppendError F → Type 0
IsJournalFault OutOfMemory = ⊥
IsJournalFault (Journal fault) = ⊤

-- the error code of a command that can't write its journal: `Memory`, or `Write` if the file failed
abbrev pub append_failure : {F : Type 0} → AppendError F → ErrorCode
append_failure OutOfMemory = failure.Memory
append_failure (Journal fault) = failure.Write

-- the writes of an entry that is appended and flushed
abbrev pub synced_writes : EntryParts → List Write
synced_writes e = Appended (entry e) ∷ Synced ∷ []

-- the write of an entry that is appended and not flushed
abbrev pub appended_writes : EntryParts → List Write
appended_writes e = Appended (entry e) ∷ []

-- the writes of a request: none if no whole one came; else its entry is appended and flushed
abbrev pub request_writes : ℕ → List ℕ → List Write
request_writes second [] = []
request_writes second (b ∷ bytes) = synced_writes (request_entry second (b ∷ bytes))

-- the writes of an answer: none if no answer was made; else its entry is appended
abbrev pub answer_writes : ℕ → List ℕ → List Write
answer_writes second [] = []
answer_writes second (b ∷ bytes) = appended_writes (answer_entry second (b ∷ bytes))

-- the writes of new enrolments: none if there are none; else their entries are appended in order, and flushed
abbrev pub enrolment_writes : List Enrolment → List Write
enrolment_writes [] = []
enrolment_writes (e ∷ es) = Appended (entries (map operator_entry (e ∷ es))) ∷ Synced ∷ []

-- the bytes that these writes appended
abbrev pub appended_in : List Write → List ℕ
appended_in [] = []
appended_in (Appended bytes ∷ writes) = bytes ++ appended_in writes
appended_in (Synced ∷ writes) = appended_in writes
appended_in (Failed ∷ writes) = appended_in writes

-- the text of a journal file, by its writes
abbrev pub text_in : Option (List Write) → Option (List ℕ)
text_in writes = option_map appended_in writes

-- if the writes are known, the text is the one before with the bytes appended, or without them if that failed
abbrev pub AppendsKnown : Option (List Write) → Option (List Write) → Bool → List ℕ → Type 0
AppendsKnown None now done bytes = ⊤
AppendsKnown (Some writes) now true bytes = text_in now ≡ Some (appended_in writes ++ bytes)
AppendsKnown (Some writes) now false bytes = text_in now ≡ Some (appended_in writes)

-- the text by these writes, with the second of the last request
abbrev pub noted_in : ℕ → Option (List Write) → Option Noted
noted_in second writes = option_map (λ text. record { text = text; second = second }) (text_in writes)

-- ==== The first entries of a journal file (docs/journal-format.md)
-- the first entry of the journal file with the number n
abbrev pub record_entry : ℕ → EntryParts
record_entry n = record { kind = kind.Record; number = n; bytes = version }

-- the entry of a permitted priority
abbrev pub permitted_entry : ℕ → EntryParts
permitted_entry priority = record { kind = kind.Permitted; number = priority; bytes = [] }

-- the entry of a limit, of this kind
abbrev pub limit_entry : Kind → ℕ → EntryParts
limit_entry reported limit = record { kind = reported; number = limit; bytes = [] }

-- the entry of a priority, if that is among the permitted ones; else none
abbrev pub permitted_if : List ℕ → ℕ → List EntryParts
permitted_if permitted priority =
    if is_permitted permitted priority then permitted_entry priority ∷ [] else []

-- an entry for each permitted priority below the first argument, in ascending order
unfoldable pub permitted_below : ℕ → List ℕ → List EntryParts
permitted_below zero permitted = []
permitted_below (suc n) permitted = permitted_below n permitted ++ permitted_if permitted n

-- the entries of a desk's settings: its permitted priorities, then its limits on spans and cells, if any
abbrev pub terms_entries : Terms → List EntryParts
terms_entries terms =
    permitted_below 1001 terms.permitted
    ++ (map (limit_entry kind.Spans) (option_to_list terms.spans)
    ++ map (limit_entry kind.Cells) (option_to_list terms.cells))

-- the first entries: the number of the file, the settings of its desk, and its operators
abbrev pub header : ℕ → Terms → List Enrolment → List EntryParts
header n terms operators = record_entry n ∷ (terms_entries terms ++ map operator_entry operators)

-- the writes of these entries: they are appended, and flushed to the disk
abbrev pub header_writes : ℕ → Terms → List Enrolment → List Write
header_writes n terms operators = Appended (entries (header n terms operators)) ∷ Synced ∷ []
