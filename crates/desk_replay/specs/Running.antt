-- The replay of a stream of entries, and what `replay` prints.
use Rattle.std.specs.Prelude.{◌≡◌, ◌⊎◌, ℕ, ◌^◌, ◌-◌, min, length, List, [], nat_lt, Bool, false, IsTrue, Option, Some, None, Result, Ok, Err, ◌≤◌, ⊤, ◌++◌, codes, decimal}
use Rattle.std.specs.{List.AllByRecursion, Io.KnownBytes.Consumes, Io.KnownBytes.IsAtEnd, Io.KnownBytes.Appends, Option.IsSomeAnd}
use Rattle.desk_rules.specs.Outcome.{no_terms}
use Rattle.desk_store.specs.{declared.store.PlanStore.Ghosts, Changes.IsHonest}
use Rattle.desk_run.specs.{Verdicts.DeskWorld, Verdicts.Parts, Verdicts.world_of, declared.fault.DeskFault.DeskFault}
use Rattle.desk_run.specs.declared.fault.DeskFault.TheVariants as desk
use Rattle.desk_record.specs.{Record.EntryParts, Record.Fits, Record.entries, Record.entry, Record.LacksEntry, declared.kind.Kind.Kind}
use Rattle.desk_record.specs.declared.kind.Kind.TheVariants as kind
use Rattle.desk_record.specs.declared.reading.ReadFault.TheVariants as unread
use Rattle.desk_wire.specs.Streams.{Course, course, Passage}
use Rattle.desk_replay.specs.{declared.fault.ReplayFault.ReplayFault, declared.fault.ReplayFault.TheVariants.OutOfMemory, declared.fault.ReplayFault.TheVariants.Store, declared.fault.ReplayFault.TheVariants.NoRecord, declared.stream.ReplayEnd.ReplayEnd, declared.stream.ReplayEnd.TheVariants.End, declared.stream.ReplayEnd.TheVariants.Until, declared.stream.ReplayEnd.TheVariants.Unread, declared.stream.ReplayEnd.TheVariants.Endless, declared.stream.ReplayEnd.TheVariants.Unplayed, Replaying.IsDeskFault, Replaying.State, Replaying.played, Replaying.taken}
use Rattle.desk_replay.specs.declared.fault.ReplayFault.TheVariants as fault
use Rattle.desk_cli.specs.{Exits.EndsWith, Exits.Ending, Exits.FailsWith, Exits.IsPartlyWritten, Exits.IsWrittenOrCut, declared.failure.ErrorCode.ErrorCode}
use Rattle.desk_cli.specs.declared.failure.ErrorCode.TheVariants as failure

-- the state before the first entry: no journal file has begun
abbrev pub start : DeskWorld → State
start w = record {
  world = w;
  record_number = None;
  permitted = [];
  terms = no_terms;
  asking = None;
  requests = 0;
  changes = 0;
}

-- whether an entry is a request whose second is greater than `until`
abbrev pub is_request_after : Option ℕ → Kind → ℕ → Bool
is_request_after None reported n = false
is_request_after (Some last) kind.Record n = false
is_request_after (Some last) kind.Permitted n = false
is_request_after (Some last) kind.Spans n = false
is_request_after (Some last) kind.Cells n = false
is_request_after (Some last) kind.Operator n = false
is_request_after (Some last) kind.Request n = nat_lt last n
is_request_after (Some last) kind.Answer n = false

-- the length of a text in bytes, at most the greatest number of 64 bits
abbrev pub size_of : List ℕ → ℕ
size_of text = min (length text) (2 ^ 64 - 1)

-- an entry of `size` bytes is read, and, if the storage is intact (H), t is its outcome
pub record IsEntryPlayed (H : Type 0) (size : ℕ) (reads : Course (Option (List ℕ))) (s t : State) : Type 0
  where
    pub one : EntryParts
    pub fits : Fits one
    pub sized : size ≡ size_of (entry one)
    pub read : Consumes reads.before reads.after (entry one)
    pub gives : H → taken s one ≡ Ok t

-- an entry is read that can't be replayed: the fault is its outcome, or is the desk's own
pub record IsEntryRefused (H : Type 0) (fault : ReplayFault) (reads : Course (Option (List ℕ)))
    (s : State) : Type 0 where
  pub one : EntryParts
  pub fits : Fits one
  pub read : Consumes reads.before reads.after (entry one)
  pub refused : H → IsDeskFault fault ⊎ (taken s one ≡ Err fault)

-- a request is read whose second is greater than `until`
pub record IsTooLate (until : Option ℕ) (reads : Course (Option (List ℕ))) : Type 0 where
  pub one : EntryParts
  pub fits : Fits one
  pub read : Consumes reads.before reads.after (entry one)
  pub later : IsTrue (is_request_after until one.kind one.number)

-- why the replay ended, after entries of `place` bytes
abbrev pub Ends :
    {R : Type 0} → Type 0 → Option ℕ → ReplayEnd R → ℕ → Course (Option (List ℕ)) → State → Type 0
Ends H until End place reads s = IsAtEnd reads.before
Ends H until Until place reads s = IsTooLate until reads
Ends H until (Unread fault) place reads s = LacksEntry reads.before fault
Ends H until (Unplayed fault) place reads s = IsEntryRefused H fault reads s
Ends H until Endless place reads s = 2 ^ 64 - 1 ≤ place

-- one step of a replay: an entry is replayed, or the replay ends and the state is unchanged
abbrev pub Steps :
    {R : Type 0} → Type 0 → Option ℕ → Result ℕ (ReplayEnd R) → Course (Option (List ℕ)) → State → State → Type 0
Steps H until (Ok size) reads s t = IsEntryPlayed H size reads s t
Steps H until (Err end) reads s t = Ends H until end 0 reads s × (H → t ≡ s)

-- the first entries of a stream are replayed, which are `place` bytes together
pub record AreEntriesPlayed (H : Type 0) (place : ℕ) (reads : Course (Option (List ℕ))) (w : DeskWorld)
    (s : State) : Type 0
  where
    pub all : List EntryParts
    pub fit : AllByRecursion Fits all
    pub sized : place ≡ size_of (entries all)
    pub read : Consumes reads.before reads.after (entries all)
    pub gives : H → played (start w) all ≡ Ok s

-- the first entries are replayed, up to what ended the replay; `place` is how many bytes are before that
pub record HasReplayed {R : Type 0} (H : Type 0) (until : Option ℕ) (ended : ReplayEnd R) (place : ℕ)
    (reads : Course (Option (List ℕ))) (w : DeskWorld) (t : State) : Type 0 where
  pub mid : Option (List ℕ)
  pub first : AreEntriesPlayed H place (course reads.before mid) w t
  pub ends : Ends H until ended place (course mid reads.after) t

-- ==== What the command `replay` prints, and how it ends
-- the error code, by how a replay ended; None if all was replayed that was to be
abbrev pub failure_of_end : {R : Type 0} → ReplayEnd R → Option ErrorCode
failure_of_end End = None
failure_of_end Until = None
failure_of_end (Unread (unread.Unread error)) = Some failure.Read
failure_of_end Endless = Some failure.Read
failure_of_end (Unread unread.OutOfMemory) = Some failure.Memory
failure_of_end (Unread unread.CutShort) = Some failure.CutShort
failure_of_end (Unread unread.NoRecord) = Some failure.NoRecord
failure_of_end (Unplayed fault.OutOfMemory) = Some failure.Memory
failure_of_end (Unplayed fault.Store) = Some failure.Store
failure_of_end (Unplayed fault.NoRecord) = Some failure.NoRecord
failure_of_end (Unplayed fault.NotNext) = Some failure.NoRecord
failure_of_end (Unplayed fault.Differs) = Some failure.Differs

-- why a replay ended, in words for the administrator
abbrev pub cause_of_end : {R : Type 0} → ReplayEnd R → List ℕ
cause_of_end End = codes "all is played"
cause_of_end Until = codes "all is played"
cause_of_end (Unread (unread.Unread error)) = codes "a read failed"
cause_of_end Endless = codes "a read failed"
cause_of_end (Unread unread.OutOfMemory) = codes "memory ran out"
cause_of_end (Unread unread.CutShort) = codes "an entry that is cut short"
cause_of_end (Unread unread.NoRecord) = codes "no entry of a record"
cause_of_end (Unplayed fault.OutOfMemory) = codes "memory ran out"
cause_of_end (Unplayed fault.Store) = codes "the store failed"
cause_of_end (Unplayed fault.NoRecord) = codes "an entry that no record has there"
cause_of_end (Unplayed fault.NotNext) = codes "a record that is not the next one"
cause_of_end (Unplayed fault.Differs) = codes "another answer than the recorded one"

-- the line that says after how many requests and at which byte of the input a replay stopped, and why
unfoldable pub place_line : ℕ → ℕ → List ℕ → List ℕ
place_line requests place cause =
    codes "uss_desk: request " ++ (decimal requests ++ (codes ", at byte " ++ (decimal place ++ (codes ": "
    ++ (cause ++ codes "\n")))))

-- the summary of a complete replay: the number of requests, and of those that changed the database
unfoldable pub replayed_line : ℕ → ℕ → List ℕ
replayed_line requests changes =
    codes "replayed " ++ (decimal requests ++ (codes " requests, " ++ (decimal changes
    ++ codes " changes, all answers alike\n")))

-- a line is printed whole; or a write failed after its beginning; or memory ran out, and nothing is printed
abbrev pub IsLinePrinted : Result ⊤ ErrorCode → List ℕ → Option (List ℕ) → Option (List ℕ) → Type 0
IsLinePrinted (Ok done) line out now = Appends out now line
IsLinePrinted (Err f) line out now =
    ((f ≡ failure.Write) × IsPartlyWritten line out now) ⊎ ((f ≡ failure.Memory) × (now ≡ out))

-- all was replayed, and the summary is printed, or that failed and is how the command ends
pub record IsAllPlayed (line : List ℕ) (end : Ending) (writes : Course (Option (List ℕ))) : Type 0 where
  pub done : Result ⊤ ErrorCode
  pub ends : EndsWith done end
  pub printed : IsLinePrinted done line writes.before writes.after

-- a line is written whole, or, if a write failed, a beginning of it
pub record IsLineWritten (line : List ℕ) (out now : Option (List ℕ)) : Type 0 where
  pub is_cut : Bool
  pub written : IsWrittenOrCut is_cut line out now

-- nothing goes to the output. To the error writer goes first the line that says where and why, up to a write
-- that fails, or nothing if memory ran out; and then the error code
pub record IsFailed (f : ErrorCode) (line : List ℕ) (end : Ending) (writes : Course (Option (List ℕ))) :
    Type 0 where
  pub mid : Option (List ℕ)
  pub reported : IsLineWritten line end.before mid ⊎ (mid ≡ end.before)
  pub fails : FailsWith f (record end { before = mid })
  pub unwritten : writes.after ≡ writes.before

-- what is printed, by the error code of the replay: the summary `line`, or the `cause` and the error code
abbrev pub IsReportedBy : Option ErrorCode → List ℕ → List ℕ → Ending → Course (Option (List ℕ)) → Type 0
IsReportedBy None line cause end writes = IsAllPlayed line end writes
IsReportedBy (Some f) line cause end writes = IsFailed f cause end writes

-- what is printed, by how the replay ended
abbrev pub IsReplayReported : {R : Type 0} → ReplayEnd R → ℕ → ℕ → ℕ → Ending → Course (Option (List ℕ)) → Type 0
IsReplayReported ended requests changes place end writes =
    IsReportedBy (failure_of_end ended) (replayed_line requests changes)
    (place_line requests place (cause_of_end ended)) end writes

-- the journal of an input `R` is replayed at a desk, up to where that ends, and the result is printed
pub record IsReplayed (R : Type 0) (H : Type 0) (until : Option ℕ) (p : Passage) (end : Ending) (w after : DeskWorld) :
    Type 0 where
  pub ended : ReplayEnd R
  pub place : ℕ
  pub state : State
  pub replayed : HasReplayed H until ended place p.reads w state
  pub left : state.world ≡ after
  pub reported : IsReplayReported ended state.requests state.changes place end p.writes

-- the same at the desk that was opened, which is returned (`left`). Its doubt about the storage has not
-- become less, and its reads are still shielded if they were
abbrev pub Replays :
    {S : Type 0} → Type 0 → Ghosts S → Option ℕ → Passage → Ending → Option (Parts S) → Parts S → Type 0
Replays R g until p end left desk = IsSomeAnd left (λ left.
    IsReplayed R (IsHonest (g.doubt left.store)) until p end (world_of g.content desk) (world_of g.content left)
    × (g.doubt desk.store ≤ g.doubt left.store)
    × (g.is_shielded desk.store → g.is_shielded left.store))

-- no desk was opened: the command ends with that failure, and nothing is read or written
abbrev pub IsUnplayed : {S : Type 0} → Passage → Ending → Option S → ErrorCode → Type 0
IsUnplayed p end left failure = FailsWith failure end × (left ≡ None)
    × (p.reads.after ≡ p.reads.before) × (p.writes.after ≡ p.writes.before)

-- the fault of a replay, by the fault of a call of the desk
abbrev pub replay_fault_of : DeskFault → ReplayFault
replay_fault_of desk.OutOfMemory = OutOfMemory
replay_fault_of desk.Store = Store
replay_fault_of desk.UnknownOperator = NoRecord
replay_fault_of desk.NoSuchPlan = NoRecord
replay_fault_of desk.Ceiling = NoRecord
