-- `play` with a journal, what its port reports, and the replay of a journal that a port wrote.
use Rattle.std.specs.Prelude.{⊤, Bool, true, false, Option, Some, option_map, Result, Ok, Err, ◌≡◌, ◌⊎◌, ℕ, List, None, IfSome, ◌≢◌, ◌≤◌, length, ℤ, nat_abs, [], ◌∷◌, ◌++◌, All, map, IsSome}
use Rattle.std.specs.{Option.is_some, Option.IsSomeAnd, Io.Cursor.cursor_remaining, Io.KnownBytes.Appends, Io.KnownBytes.IsAtEnd}
use Rattle.std.specs.declared.io.Write as write
use Rattle.desk_store.specs.declared.store.PlanStore as store
use Rattle.desk_store.specs.{Changes.IsHonest, Changes.Remembers, World.World}
use Rattle.desk_run.specs.{Calls.FindsOnly, Verdicts.DeskWorld, Verdicts.Parts, Verdicts.world_of, Verdicts.with_content}
use Rattle.request_parser.specs.Requests.{asked}
use Rattle.desk_record.specs.Record.{EntryParts, entries}
use Rattle.io_ends.specs.Writing.{BreaksOff}
use Rattle.desk_wire.specs.{Streams.Course, Streams.course, Streams.IsCut, Bytes.world_after}
use Rattle.desk_replay.specs.Replaying.{State, played}
use Rattle.desk_cli.specs.{declared.failure.ErrorCode.ErrorCode, declared.failure.ErrorCode.TheVariants.Broken, declared.failure.ErrorCode.TheVariants.Network, declared.failure.ExitReport.ExitReport, declared.line.PlayArgs.PlayArgs, declared.line.Enrolment.Enrolment, Exits.Ending, Exits.EndsWith, Exits.FailsWith, Exits.failure_at}
use Rattle.desk_cli.specs.declared.failure.ErrorCode.TheVariants as failure
use Rattle.desk_program.specs.{Enrolling.Ended, Enrolling.Noted, Enrolling.Open, Enrolling.Recorded, Enrolling.IsEndCounted, Enrolling.with_operators, Enrolling.JournalEnds, Enrolling.answer_entry, Enrolling.operator_entry, Enrolling.request_entry, Serving.Parting, Serving.Traffic, Serving.parted, Serving.Exchange, Keeping.ended, Keeping.IsFoundServed, Keeping.IsLeftByNews, PortGiven.IsInputKept, PortGiven.IsInputPlayed, declared.port.ExchangeEnd.ExchangeEnd}
use Rattle.desk_recording.specs.{Recording.traffic_of, declared.port.RecordedPort.RecordedPort, declared.record.Record.Ghosts, declared.streams.BufferedRequest.BufferedRequest, declared.streams.BufferedResponse.BufferedResponse, declared.inputs.InputEnd.InputEnd, declared.inputs.InputEnd.TheVariants.AtEnd, declared.inputs.InputEnd.TheVariants.CutShort, declared.inputs.InputEnd.TheVariants.Unread, declared.inputs.InputEnd.TheVariants.OutOfMemory, declared.inputs.InputEnd.TheVariants.Unframed, declared.inputs.InputEnd.TheVariants.AppendError, declared.inputs.InputPort.InputPort}

-- the journal with this text: open, or ended if the port is broken
abbrev pub recorded_as : Bool → Noted → Recorded
recorded_as false n = Open n
recorded_as true n = Ended n.text

-- the same, if the text is known
abbrev pub recorded_by : Bool → Option Noted → Option Recorded
recorded_by is_broken noted = option_map (λ n. recorded_as is_broken n) noted

-- what a port reports, by its journal and by whether it is broken
abbrev pub reported_by : {R F : Type 0} → Ghosts R F → R → Bool → Traffic
reported_by g journal is_broken = traffic_of (g.steps journal) (recorded_by is_broken (g.noted journal))

-- what this port reports
abbrev pub reported_of : {P R F : Type 0} → Ghosts R F → RecordedPort P R → Traffic
reported_of g port = reported_by g port.journal (is_some port.broken)

-- the error for an error of the port below: `Broken` becomes `Network`, since it is not this port's journal
-- that is broken
abbrev pub failure_below : ErrorCode → ErrorCode
failure_below Broken = Network
failure_below f = f

-- the result of closing a connection: `Broken` if the journal is broken; else that of the port below
abbrev pub closed_as : Bool → Result ⊤ ErrorCode → Result ⊤ ErrorCode
closed_as true closed = Err Broken
closed_as false (Ok done) = Ok done
closed_as false (Err f) = Err (failure_below f)

-- a connection as it is closed, by its buffered request (input) and its buffered answer (output)
abbrev pub parted_in : {I O : Type 0} → BufferedRequest I → BufferedResponse O → ExchangeEnd → Parting
parted_in input output outcome =
    parted (cursor_remaining (λ v. Some v.items) input.request) (Some output.answer.items) outcome

-- ==== `play` with a journal
-- The requests of its input are handed out in turn, as the connections of a port, so that they are recorded.

-- why an input hands out no more requests, by whether the place of the next one is unknown (unframed), and by
-- what is left of the input: nothing is left; it ends inside a request; a read failed or memory ran out; or
-- the place is unknown. An output that can't be written is no reason here
abbrev pub HandsOutNone : {R W : Type 0} → Bool → Option (List ℕ) → InputEnd R W → Type 0
HandsOutNone unframed left AtEnd = (unframed ≡ false) × IsAtEnd left
HandsOutNone unframed left CutShort = (unframed ≡ false) × IfSome left IsCut
HandsOutNone unframed left (Unread unread) = unframed ≡ false
HandsOutNone unframed left OutOfMemory = unframed ≡ false
HandsOutNone unframed left Unframed = unframed ≡ true
HandsOutNone unframed left (AppendError cut) = ⊥

-- the result of `play`, by why its input ended
abbrev pub exit_of_input_end : {R W : Type 0} → InputEnd R W → Result ⊤ ErrorCode
exit_of_input_end AtEnd = Ok (tt {0})
exit_of_input_end CutShort = Err failure.CutShort
exit_of_input_end (Unread unread) = Err failure.Read
exit_of_input_end OutOfMemory = Err failure.Memory
exit_of_input_end Unframed = Err failure.Unframed
exit_of_input_end (AppendError cut) = Err failure.Write

-- an input ends because writing this answer to the output broke off
abbrev pub IsUnwritten : {R W : Type 0} → List ℕ → Course (Option (List ℕ)) → InputEnd R W → Type 0
IsUnwritten answer writes (AppendError cut) = BreaksOff answer writes.before writes.after cut.fault
IsUnwritten answer writes _ = ⊥

-- an answer is written, and why the input ended, if it did, stays as it was (old); or the write breaks off,
-- and that is why the input ended (new)
abbrev pub EndsInput : {R W : Type 0} → List ℕ → Course (Option (List ℕ)) → Option (InputEnd R W)
    → Option (InputEnd R W) → Type 0
EndsInput answer writes old new = (Appends writes.before writes.after answer × (new ≡ old))
    ⊎ IsSomeAnd new (IsUnwritten answer writes)

-- the result of `play`: if the input or the output ended, that decides; else the error of serving the port,
-- if any; else as many requests were answered as one command answers, and the error is `Unframed` or `Limit`
abbrev pub exit_of_play : Option (Result ⊤ ErrorCode) → Bool → Result ⊤ ErrorCode → Result ⊤ ErrorCode
exit_of_play (Some ended) unframed done = ended
exit_of_play None unframed (Err f) = Err f
exit_of_play None true (Ok done) = Err failure.Unframed
exit_of_play None false (Ok done) = Err failure.Limit

-- the effects of `play` with a journal: the result by which the input or the output ended, if one did;
-- whether the next request's place is unknown; what the port reported before and after; how the command ended
pub record InputOutside : Type 0 where
  pub stopped : Option (Result ⊤ ErrorCode)
  pub unframed : Bool
  pub port : Course Traffic
  pub end : Ending

-- these effects, by the port before (old) and after (new), the exit report, the error writer before and after
abbrev pub input_outside :
    {R W K F E : Type 0} → Ghosts K F → write.Ghosts E → RecordedPort (InputPort R W) K
    → RecordedPort (InputPort R W) K → ExitReport E → E → E → InputOutside
input_outside k e old new exit before now = record {
  stopped = option_map exit_of_input_end new.port.ended;
  unframed = new.port.is_unframed;
  port = course (reported_of k old) (reported_of k new);
  end = ended e exit before now;
}

-- the requests of the input are played, which takes the desk from the state w to `after`; and the command
-- ends with the result of that. H: the disk has returned what was written
pub record IsPlayRecorded (H : Type 0) (play : PlayArgs) (o : InputOutside) (w after : DeskWorld) : Type 0
  where
    pub done : Result ⊤ ErrorCode
    pub ends : EndsWith (exit_of_play o.stopped o.unframed done) o.end
    pub played : IsInputPlayed H done play o.port w after

-- the same, and the content `found` is one that the next start may find
pub record IsRecordedKept (H : Type 0) (play : PlayArgs) (o : InputOutside) (w after : DeskWorld)
    (found : Option World) : Type 0 where
  pub done : Result ⊤ ErrorCode
  pub ends : EndsWith (exit_of_play o.stopped o.unframed done) o.end
  pub kept : IsInputKept H done play o.port w after found

-- if the command ends with the error `Store`, the store has counted a fault (from old to new)
pub record IsRecordedCause (o : InputOutside) (old new : ℕ) : Type 0 where
  pub done : Result ⊤ ErrorCode
  pub ends : EndsWith (exit_of_play o.stopped o.unframed done) o.end
  pub cause : IsEndCounted done old new

-- all of that for a desk before (old) and after (new): the requests are played; what the next start may find;
-- nothing known of the store is lost; and an error `Store` has its cause
pub record PlaysRecorded {S : Type 0} (g : store.Ghosts S) (play : PlayArgs) (o : InputOutside)
    (old new : Parts S) : Type 0 where
  pub played : IsPlayRecorded (IsHonest (g.doubt new.store)) play o (world_of g.content old)
      (world_of g.content new)
  pub kept : FindsOnly g old new (IsRecordedKept (IsHonest (g.doubt new.store)) play o
      (world_of g.content old) (world_of g.content new))
  pub remembered : Remembers g.doubt g.faults g.is_shielded old.store new.store
  pub cause : IsRecordedCause o (g.faults old.store) (g.faults new.store)

-- no desk was opened: the command ends with that error code, and no request is taken
abbrev pub IsUnrecorded : {A : Type 0} → InputOutside → Option A → ErrorCode → Type 0
IsUnrecorded o left f = FailsWith f o.end × (left ≡ None) × (o.port.after ≡ o.port.before)

-- ==== The replay of a journal that a desk wrote at a port (docs/journal-format.md)
-- the bytes, if they are known
abbrev pub known : Option (List ℕ) → List ℕ
known None = []
known (Some bytes) = bytes

-- the entries of a request and its answer; none if no whole request came
abbrev pub pair_of : ℤ → List ℕ → List ℕ → List EntryParts
pair_of moment [] answer = []
pair_of moment (b ∷ request) answer =
    request_entry (nat_abs moment) (b ∷ request) ∷ answer_entry (nat_abs moment) answer ∷ []

-- the entries of connections: for each its new enrolments, its request and its answer
abbrev pub entries_of : List Exchange → List EntryParts
entries_of [] = []
entries_of (x ∷ xs) = map operator_entry x.newly_enrolled
    ++ (pair_of x.arrival.moment (known x.arrival.bytes) (known x.parting.sent) ++ entries_of xs)

-- a replay has come to this world: a journal has begun, and all its requests are answered
pub record IsPlayedTo (s : State) (w : DeskWorld) : Type 0 where
  pub world : s.world ≡ w
  pub begun : IsSome s.record_number
  pub answered : s.asking ≡ None

-- the text is that of n with these entries appended; their replay from the state s reports no difference, and
-- results in the world `after`
pub record AddsPlayed (n : Noted) (text : List ℕ) (added : List EntryParts) (s : State) (after : DeskWorld)
    : Type 0 where
  pub text_is : text ≡ n.text ++ entries added
  pub left : State
  pub plays : played s added ≡ Ok left
  pub now : IsPlayedTo left after

-- the same, and the journal stays open with this text
pub record AddsOpen (n : Noted) (now : Option Recorded) (added : List EntryParts) (s : State)
    (after : DeskWorld) : Type 0 where
  pub m : Noted
  pub is : now ≡ Some (Open m)
  pub adds : AddsPlayed n m.text added s after

-- the world after operators are enrolled in w, and then a request is answered, if there is one
abbrev pub caught_up : DeskWorld → List Enrolment → ℤ → List ℕ → DeskWorld
caught_up w newly_enrolled moment [] = with_operators w newly_enrolled
caught_up w newly_enrolled moment (b ∷ request) =
    world_after (with_operators w newly_enrolled) moment (asked (b ∷ request))

-- a journal is open with the text of m; or it ended with that text; or it ended with that text and entries
-- after it that were not carried out
abbrev pub EndsAs : Noted → Option Recorded → Type 0
EndsAs m now = (now ≡ Some (Open m)) ⊎ (now ≡ Some (Ended m.text)) ⊎ JournalEnds m now

-- why a request has no answer: this couldn't be appended, and the journal ended; or the desk failed at it
abbrev pub IsUnanswered : Noted → Option Recorded → Exchange → Type 0
IsUnanswered m now x = (now ≡ Some (Ended m.text)) ⊎ (failure_at x.served ≢ None)

-- a desk that starts with the content `found`, on the same terms, comes to the world `left` by a recovery:
-- the operators are enrolled and the request is carried out
pub record CatchesUp (found : Option World) (after : DeskWorld) (newly_enrolled : List Enrolment) (moment : ℤ)
    (request : List ℕ) (left : DeskWorld) : Type 0 where
  pub content : World
  pub is : found ≡ Some content
  pub behind : left ≡ caught_up (with_content after.terms content) newly_enrolled moment request

-- however the connections xs ended: the journal gets the entries of all but at most the last one (whole), and
-- of that one as many as were written (rest). Their replay reports no difference, and results in the world
-- that the desk has after a recovery from what is written there
pub record EndsPlayed (n : Noted) (now : Option Recorded) (xs : List Exchange)
    (last : Option (List Enrolment)) (s : State) (after : DeskWorld) : Type 0 where
  pub whole : List Exchange
  pub others : List Exchange
  pub split : xs ≡ whole ++ others
  pub few : length others ≤ 1
  pub rest : List EntryParts
  pub m : Noted
  pub text_is : m.text ≡ n.text ++ entries (entries_of whole ++ rest)
  pub ends : EndsAs m now
  pub why : All (IsUnanswered m now) others
  pub left : State
  pub plays : played s (entries_of whole ++ rest) ≡ Ok left
  pub newly_enrolled : List Enrolment
  pub moment : ℤ
  pub request : List ℕ
  pub behind : left.world ≡ caught_up after newly_enrolled moment request
  pub finds : (found : Option World) → IsFoundServed xs last after found
      → CatchesUp found after newly_enrolled moment request left.world ⊎ IsLeftByNews after found last

-- the same, and a desk that starts with the content `found` comes to that world too; or an operator of the
-- last new enrolments could not be enrolled
pub record EndsFound (n : Noted) (now : Option Recorded) (xs : List Exchange) (last : Option (List Enrolment))
    (s : State) (after : DeskWorld) (found : Option World) : Type 0 where
  pub ended : EndsPlayed n now xs last s after
  pub finds : CatchesUp found after ended.newly_enrolled ended.moment ended.request ended.left.world
      ⊎ IsLeftByNews after found last
