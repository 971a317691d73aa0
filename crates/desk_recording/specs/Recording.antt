-- The steps of a journal in their order, and the requests that clients send.
use Rattle.std.specs.Prelude.{◌≡◌, ◌<◌, ◌⊎◌, ⊤, ℕ, Bool, true, List, [], length, Option, IfSome, ℤ, false, ◌∷◌, ◌++◌, None, Some, option_map, Result, Ok, Err}
use Rattle.std.specs.{Io.KnownBytes.IsAtEnd, Io.KnownBytes.Appends, Option.IsSomeAnd}
use Rattle.io_ends.specs.{Writing.BreaksOff, declared.writing.WriteError.WriteError}
use Rattle.desk_wire.specs.{Streams.IsTaken, Streams.IsCut, Streams.Course, Streams.course, Bytes.server_error_text, declared.response.ServerError.TheVariants.Store}
use Rattle.desk_cli.specs.declared.line.Enrolment.{Enrolment}
use Rattle.desk_program.specs.{Enrolling.Noted, Enrolling.Recorded, Serving.Arrival, Serving.Closes, Serving.Parting, Serving.TakesArrival, Serving.Traffic, Serving.arrived, Serving.parted, Serving.unreported}
use Rattle.desk_recording.specs.declared.record.Exchange.{Exchange}

-- a client sent no whole request: its bytes (sent) had ended, or end inside one; or a read failed
abbrev pub SentNone : Bool → Option (List ℕ) → Type 0
SentNone failed sent = IsAtEnd sent ⊎ IfSome sent IsCut ⊎ (failed ≡ true)

-- the request that was received: it is the next one of the bytes that the client sent, and `left` is left of
-- them; or it is empty, since the client sent no whole one
pub record IsReceived (failed : Bool) (sent left : Option (List ℕ)) (request : List ℕ) : Type 0 where
  pub whole : 0 < length request → IsTaken sent left request
  pub none : request ≡ [] → SentNone failed sent

-- ==== The steps of a journal in their order, and what a port reports whose connections are recorded
-- a step of a journal: new enrolments are recorded; a request is recorded, decided at a moment (no bytes if
-- no whole request came); the answer of a connection is recorded; or it is lost
pub data Step : Type 0 where
  Enrolled : List Enrolment → Step
  Asked : ℤ → List ℕ → Step
  Answered : Parting → Step
  Lost : Parting → Step

-- if the steps before (old) are known, the steps after (new) are those and then this one
abbrev pub AddsStep : Option (List Step) → Option (List Step) → Step → Type 0
AddsStep old new step = new ≡ option_map (λ steps. steps ++ step ∷ []) old

-- this step is added, or none is, by the flag
abbrev pub AddsIf : Option (List Step) → Option (List Step) → Bool → Step → Type 0
AddsIf old new true step = AddsStep old new step
AddsIf old new false step = new ≡ old

-- the new enrolments of these steps
abbrev pub news_in : List Step → List (List Enrolment)
news_in [] = []
news_in (Enrolled newly_enrolled ∷ steps) = newly_enrolled ∷ news_in steps
news_in (Asked moment bytes ∷ steps) = news_in steps
news_in (Answered parting ∷ steps) = news_in steps
news_in (Lost parting ∷ steps) = news_in steps

-- the connections that were taken by these steps
abbrev pub arrivals_in : List Step → List Arrival
arrivals_in [] = []
arrivals_in (Enrolled newly_enrolled ∷ steps) = arrivals_in steps
arrivals_in (Asked moment bytes ∷ steps) = arrived moment (Some bytes) ∷ arrivals_in steps
arrivals_in (Answered parting ∷ steps) = arrivals_in steps
arrivals_in (Lost parting ∷ steps) = arrivals_in steps

-- the connections that were closed by these steps
abbrev pub partings_in : List Step → List Parting
partings_in [] = []
partings_in (Enrolled newly_enrolled ∷ steps) = partings_in steps
partings_in (Asked moment bytes ∷ steps) = partings_in steps
partings_in (Answered parting ∷ steps) = parting ∷ partings_in steps
partings_in (Lost parting ∷ steps) = parting ∷ partings_in steps

-- what a port reports whose journal has made these steps, if they are known, and has this text
abbrev pub traffic_of : Option (List Step) → Option Recorded → Traffic
traffic_of None recorded = record unreported { recorded = recorded }
traffic_of (Some steps) recorded = record {
  listened = None;
  taken = Some (arrivals_in steps);
  closed = Some (partings_in steps);
  newly_enrolled = Some (news_in steps);
  recorded = recorded;
}

-- the text of a journal is this
abbrev pub HasText : Option Noted → List ℕ → Type 0
HasText now text = option_map (λ n. n.text) now ≡ Some text

-- if the text is known: it is extended as `next` says, or, if that failed, it is the one before
abbrev pub Notes : Option Noted → Option Noted → Bool → (Noted → Noted) → Type 0
Notes None now done next = ⊤
Notes (Some n) now true next = now ≡ Some (next n)
Notes (Some n) now false next = HasText now n.text

-- the same; but after a failure the text may be extended all the same
abbrev pub NotesOnDisk : Option Noted → Option Noted → Bool → (Noted → Noted) → Type 0
NotesOnDisk None now done next = ⊤
NotesOnDisk (Some n) now true next = now ≡ Some (next n)
NotesOnDisk (Some n) now false next = HasText now n.text ⊎ HasText now (next n).text

-- a connection as it is closed
abbrev pub parting_of : Exchange → Parting
parting_of connection = parted (Some connection.unread.now) (Some connection.sent.now) connection.outcome

-- the bytes are sent; or the write to the client broke off, and only the first ones are
abbrev pub Sends : {W : Type 0} → List ℕ → Option (List ℕ) → Option (List ℕ) → Result ⊤ (WriteError W)
    → Type 0
Sends bytes out now (Ok done) = Appends out now bytes
Sends bytes out now (Err cut) = BreaksOff bytes out now cut.fault

-- the answer is recorded, and the client is sent it; or it is lost, and the client is sent a 500 with the
-- error `store`. The last argument is the result of sending
abbrev pub SendsKept : {W : Type 0} → Course (Option (List Step)) → Parting → Course (Option (List ℕ))
    → Result ⊤ (WriteError W) → Type 0
SendsKept steps parting writes sent = (AddsStep steps.before steps.after (Answered parting)
    × IsSomeAnd parting.sent (λ answer. Sends answer writes.before writes.after sent))
    ⊎ (AddsStep steps.before steps.after (Lost parting)
    × Sends (server_error_text Store) writes.before writes.after sent)

-- a client: those of its bytes that are still unread, and the bytes that it was sent
pub record Client : Type 0 where
  pub unread : Option (List ℕ)
  pub sent : Option (List ℕ)

abbrev pub client_of : Option (List ℕ) → Option (List ℕ) → Client
client_of unread sent = record { unread = unread; sent = sent }

-- a client is sent its recorded answer, or a 500, and then its connection is closed at the port below
pub record IsClosedBy (W : Type 0) (steps : Course (Option (List Step))) (parting : Parting) (client : Client)
    (port : Course Traffic) : Type 0 where
  pub now : Option (List ℕ)
  pub sent : Result ⊤ (WriteError W)
  pub sends : SendsKept steps parting (course client.sent now) sent
  pub closes : Closes port.before port.after (parted client.unread now parting.outcome)

-- a connection is taken from the port below, and the request is the one that its client sent; or it is empty,
-- if the client sent no whole one
pub record IsTakenFrom (moment : ℤ) (request : List ℕ) (failed : Bool) (left : Option (List ℕ))
    (port : Course Traffic) : Type 0 where
  pub sent : Option (List ℕ)
  pub takes : TakesArrival port.before port.after (arrived moment sent)
  pub received : IsReceived failed sent left request
