-- What a desk at a port prints, and what its connections leave.
use Rattle.std.specs.Prelude.{ℕ, ◌+◌, ◌*◌, ◌/◌, ℤ, pos, int_le, Option, Some, None, if◌then◌else◌, ◌≡◌, ◌≢◌, ◌<◌, ◌≤◌, ◌⊎◌, ⊤, Bool, true, false, List, [], ◌∷◌, ◌++◌, All, map, length, codes, decimal, IfSome, option_to_list, Result, Ok, Err, OnOk}
use Rattle.std.specs.{Result.IsErrAnd, Time.FitsClock}
use Rattle.volume4d.specs.VolumeLimits.{max_second}
use Rattle.desk_run.specs.Verdicts.{DeskWorld}
use Rattle.io_ends.specs.declared.serving.{Served.Served, Served.TheVariants.Answered, Served.TheVariants.End, ServeFault.ServeFault}
use Rattle.desk_wire.specs.Streams.{Course, Passage, course, passed, HasServed}
use Rattle.desk_cli.specs.{declared.failure.ErrorCode.ErrorCode, declared.line.ServeArgs.ServeArgs, declared.line.Enrolment.Enrolment, Exits.Ending, Exits.EndsWith, Exits.IsAnnounced, Exits.IsLineBreakdown, Exits.failure_at}
use Rattle.desk_cli.specs.declared.failure.ErrorCode.TheVariants as failure
use Rattle.desk_program.specs.{declared.port.ExchangeEnd.ExchangeEnd, Enrolling.AreEnrolled, Enrolling.AreEnrolledSoFar, Enrolling.on_terms, Enrolling.with_operators, Enrolling.IsOpen, Enrolling.Recorded, Enrolling.RecordsAnswer, Enrolling.RecordsEnrolments, Enrolling.RecordsNone, Enrolling.RecordsRequest}

-- a second, in nanoseconds
abbrev pub second : ℕ
second = 1_000_000_000

-- how long a client has to send its request, and how long to take the answer, in nanoseconds
abbrev pub patience : ℕ
patience = 10 * second

-- the deadline that all reads of a connection have together, or all its writes: the one that was set, or, at
-- the first read or write, one that is `patience` after now. All times are in nanoseconds
abbrev pub patience_end : Option ℕ → ℕ → ℕ
patience_end None now = now + patience
patience_end (Some last) now = last

-- a read or write that begins now may still wait: its deadline is later. If it sets the deadline, the clock has
-- to reach so far
abbrev pub HasTimeLeft : Option ℕ → ℕ → Type 0
HasTimeLeft None now = FitsClock (now + patience)
HasTimeLeft (Some last) now = now < last

-- the moment so many nanoseconds after 1970, in whole seconds, rounded down; None if it is out of range
abbrev pub moment_at : ℕ → Option ℤ
moment_at nanos = if int_le (pos (nanos / second)) max_second then Some (pos (nanos / second)) else None

-- ==== What a desk at a port prints, and what its connections leave
-- the line that says that the port is open
abbrev pub listening_line : ℕ → List ℕ
listening_line port = codes "listening 127.0.0.1:" ++ (decimal port ++ codes "\n")

-- the line that reports why the port can't be opened
abbrev pub port_line : ℕ → List ℕ → List ℕ
port_line port cause = codes "uss_desk: 127.0.0.1:" ++ (decimal port ++ (codes ": " ++ (cause ++ codes "\n")))

-- a connection as it is taken: the clock's moment, and the bytes that come from the client, if they are known
pub record Arrival : Type 0 where
  pub moment : ℤ
  pub bytes : Option (List ℕ)

-- such a connection, by its parts
abbrev pub arrived : ℤ → Option (List ℕ) → Arrival
arrived moment bytes = record { moment = moment; bytes = bytes }

-- a connection as it is closed: the bytes of its client that are left unread and those that it was sent, if
-- they are known, and what is said to have come of its request
pub record Parting : Type 0 where
  pub unread : Option (List ℕ)
  pub sent : Option (List ℕ)
  pub outcome : ExchangeEnd

-- such a connection, by its parts
abbrev pub parted : Option (List ℕ) → Option (List ℕ) → ExchangeEnd → Parting
parted unread sent outcome = record { unread = unread; sent = sent; outcome = outcome }

-- what a port reports: the numbers at which it was asked to listen, and whether it does, the connections that
-- were taken, those that were closed, and the new enrolments that it returned each time, in
-- their order, and what it has recorded of them, if they are known
pub record Traffic : Type 0 where
  pub listened : Option (List (ℕ × Bool))
  pub taken : Option (List Arrival)
  pub closed : Option (List Parting)
  pub newly_enrolled : Option (List (List Enrolment))
  pub recorded : Option Recorded

-- nothing is known of the port
abbrev pub unreported : Traffic
unreported = record { listened = None; taken = None; closed = None; newly_enrolled = None; recorded = None }

-- the list `more` is added to the end of a list, if the list is known
abbrev pub Grows : {A : Type 0} → Option (List A) → Option (List A) → List A → Type 0
Grows None new more = ⊤
Grows (Some old) None more = ⊥
Grows (Some old) (Some new) more = new ≡ old ++ more

-- the port is asked to listen at a number, and `does`, or can't
abbrev pub Listens : Traffic → Traffic → ℕ → Bool → Type 0
Listens old new number does = Grows old.listened new.listened ((number, does) ∷ [])
    × (new.taken ≡ old.taken) × (new.closed ≡ old.closed) × (new.newly_enrolled ≡ old.newly_enrolled)
    × (new.recorded ≡ old.recorded)

-- the port is asked to listen at a number, whether it does or can't
abbrev pub IsAskedToListen : Traffic → Traffic → ℕ → Type 0
IsAskedToListen old new number = (does : Bool) × Listens old new number does

-- something is printed only if the port was asked to listen at the number and does
abbrev pub PrintsIfListening : Course Traffic → ℕ → Course (Option (List ℕ)) → Type 0
PrintsIfListening port number writes =
    Grows port.before.listened port.after.listened ((number, true) ∷ []) ⊎ (writes.after ≡ writes.before)

-- a connection is taken, and its request is recorded
abbrev pub TakesArrival : Traffic → Traffic → Arrival → Type 0
TakesArrival old new arrival = Grows old.taken new.taken (arrival ∷ []) × (new.closed ≡ old.closed)
    × (new.listened ≡ old.listened) × (new.newly_enrolled ≡ old.newly_enrolled)
    × RecordsRequest old.recorded new.recorded arrival.moment arrival.bytes

-- a connection is closed, and its answer is recorded
abbrev pub Closes : Traffic → Traffic → Parting → Type 0
Closes old new parting = Grows old.closed new.closed (parting ∷ []) × (new.taken ≡ old.taken)
    × (new.listened ≡ old.listened) × (new.newly_enrolled ≡ old.newly_enrolled)
    × RecordsAnswer old.recorded new.recorded parting.sent parting.outcome.is_answered

-- new enrolments are returned, and recorded
abbrev pub BringsEnrolments : Traffic → Traffic → List Enrolment → Type 0
BringsEnrolments old new enrolments = Grows old.newly_enrolled new.newly_enrolled (enrolments ∷ []) × (new.taken ≡ old.taken)
    × (new.closed ≡ old.closed) × (new.listened ≡ old.listened)
    × RecordsEnrolments old.recorded new.recorded enrolments

-- nothing is returned, taken or closed, and the journal goes on or is cut off
abbrev pub AddsNothingNew : Traffic → Traffic → Type 0
AddsNothingNew old new = (new.listened ≡ old.listened) × (new.taken ≡ old.taken) × (new.closed ≡ old.closed)
    × (new.newly_enrolled ≡ old.newly_enrolled) × RecordsNone old.recorded new.recorded

-- nothing was sent to the client yet, if the port reports what it closes
abbrev pub IsUnsent : Traffic → Option (List ℕ) → Type 0
IsUnsent port out = IfSome port.closed (λ partings. out ≡ Some [])

-- the same, if the port reports what it closes or what it has recorded
abbrev pub IsFresh : Traffic → Option (List ℕ) → Type 0
IsFresh port out = IsUnsent port out × IfSome port.recorded (λ recorded. out ≡ Some [])

-- the new enrolments that were brought before a connection was taken, the connection, what its client was
-- sent before, if that is known, what came of its request, and the connection as it is closed then
pub record Exchange : Type 0 where
  pub newly_enrolled : List Enrolment
  pub arrival : Arrival
  pub out : Option (List ℕ)
  pub served : Result Served ServeFault
  pub parting : Parting

-- the bytes of the client before and after the request was read, and those sent before and after the answer
abbrev pub passage_of : Exchange → Passage
passage_of x = passed x.arrival.bytes x.parting.unread x.out x.parting.sent

-- whether a request was read to its end: false only if it was answered though its end isn't known
abbrev pub is_whole : Result Served ServeFault → Bool
is_whole (Ok (Answered status framed)) = framed
is_whole (Ok End) = true
is_whole (Err fault) = true

-- whether the answer was written whole, or no request came
abbrev pub is_answered : Result Served ServeFault → Bool
is_answered (Ok served) = true
is_answered (Err fault) = false

-- how a request ended, as the port is told at the close
abbrev pub outcome_of : Result Served ServeFault → ExchangeEnd
outcome_of served = record { is_whole = is_whole served; is_answered = is_answered served }

-- the new enrolments, the request and the answer of a connection are recorded
pub record IsNoted (x : Exchange) (old listed asked new : Option Recorded) : Type 0 where
  pub newly_enrolled : RecordsEnrolments old listed x.newly_enrolled
  pub unsent : IfSome listed (λ recorded. x.out ≡ Some [])
  pub request : RecordsRequest listed asked x.arrival.moment x.arrival.bytes
  pub answer : RecordsAnswer asked new x.parting.sent x.parting.outcome.is_answered

-- connections are recorded, one after the other, up to one that ended the desk, and then the new enrolments
-- after which none was taken
abbrev pub AreNoted : Option Recorded → List Exchange → Option (List Enrolment) → Option Recorded → Type 0
AreNoted old [] None new = RecordsNone old new
AreNoted old [] (Some newly_enrolled) new =
    (listed : Option Recorded) × RecordsEnrolments old listed newly_enrolled × RecordsNone listed new
AreNoted old (x ∷ xs) last new =
    (listed : Option Recorded)
    × (asked : Option Recorded)
    × (answered : Option Recorded)
    × IsNoted x old listed asked answered
    × IfSome answered (λ recorded. failure_at x.served ≢ None → new ≡ answered)
    × AreNoted answered xs last new

-- the requests of connections are served one after the other, each at the moment of its connection, after the
-- new enrolments that came before it were made
abbrev pub AreServed : Type 0 → List Exchange → DeskWorld → DeskWorld → Type 0
AreServed H [] w after = after ≡ w
AreServed H (x ∷ xs) w after =
    (listed : DeskWorld)
    × (between : DeskWorld)
    × AreEnrolled H x.newly_enrolled w listed
    × HasServed H x.served (passage_of x) listed x.arrival.moment between
    × AreServed H xs between after

-- the error of a result; None if it is Ok
abbrev pub error_in : {A : Type 0} → Result A ErrorCode → Option ErrorCode
error_in (Ok done) = None
error_in (Err failure) = Some failure

-- the first of two failures, or else the second; None if there is neither
abbrev pub first_failure : Option ErrorCode → Option ErrorCode → Option ErrorCode
first_failure None later = later
first_failure (Some failure) later = Some failure

-- the errors of a port: memory ran out, a write failed, no connection can be had, the clock is out of range,
-- or the journal can't be written
abbrev pub IsPortError : ErrorCode → Type 0
IsPortError f =
    (f ≡ failure.Memory) ⊎ (f ≡ failure.Write) ⊎ (f ≡ failure.Network) ⊎ (f ≡ failure.Clock)
    ⊎ (f ≡ failure.Broken)

-- the desk ended at new enrolments after which no connection was taken: one could not be made, and those
-- before it are; or all are made, and then the port failed
abbrev pub EndsAtEnrolments : Type 0 → ErrorCode → List Enrolment → DeskWorld → DeskWorld → Type 0
EndsAtEnrolments H f newly_enrolled w after =
    (IsLineBreakdown f × AreEnrolledSoFar H newly_enrolled w after) ⊎ (IsPortError f × AreEnrolled H newly_enrolled w after)

-- new enrolments after the last connection, if any: the desk ended there, and they are made as far as can be
abbrev pub IsLastEnrolments :
    {A : Type 0} → Type 0 → Option (List Enrolment) → Result A ErrorCode → DeskWorld → DeskWorld → Type 0
IsLastEnrolments H None done w after = after ≡ w
IsLastEnrolments H (Some newly_enrolled) done w after = IsErrAnd done (λ failure. EndsAtEnrolments H failure newly_enrolled w after)

-- the new enrolments before each connection, and then those after the last connection
abbrev pub news_of : List Exchange → Option (List Enrolment) → List (List Enrolment)
news_of xs last = map (λ x. x.newly_enrolled) xs ++ option_to_list last

-- the desk ended with the failure f: at the request of the last of these connections, or as that was closed,
-- or later, perhaps at new enrolments after it. No connection before ended the desk
abbrev pub EndsDeskBy : ErrorCode → List Exchange → Option (List Enrolment) → Type 0
EndsDeskBy f [] None = IsPortError f
EndsDeskBy f [] (Some newly_enrolled) = ⊤
EndsDeskBy f (x ∷ xs) last = ((failure_at x.served ≡ None) × EndsDeskBy f xs last)
    ⊎ ((failure_at x.served ≡ Some f) × (xs ≡ []) × (last ≡ None))

-- after Ok, `count` connections were taken, and the desk failed at none; after an error, that is why it ended
abbrev pub EndsAfter : {A : Type 0} → Result A ErrorCode → ℕ → List Exchange → Option (List Enrolment)
    → Type 0
EndsAfter (Ok done) count exchanges last =
    (length exchanges ≡ count) × All (λ x. failure_at x.served ≡ None) exchanges
EndsAfter (Err failure) count exchanges last = EndsDeskBy failure exchanges last

-- at most `count` connections are taken (`exchanges`), and the world after them is what their requests and
-- the new enrolments leave; `last` are the new enrolments after the last connection. If that ended well, all
-- that was to be recorded is
pub record AreTaken {A : Type 0} (H : Type 0) (done : Result A ErrorCode) (count : ℕ)
    (port : Course Traffic) (w after : DeskWorld) : Type 0 where
  pub exchanges : List Exchange
  pub last : Option (List Enrolment)
  pub between : DeskWorld
  pub few : length exchanges ≤ count
  pub listened : port.after.listened ≡ port.before.listened
  pub taken : Grows port.before.taken port.after.taken (map (λ x. x.arrival) exchanges)
  pub closed : Grows port.before.closed port.after.closed (map (λ x. x.parting) exchanges)
  pub fresh : All (λ x. IsUnsent port.before x.out) exchanges
  pub reported : All (λ x. x.parting.outcome ≡ outcome_of x.served) exchanges
  pub newly_enrolled : Grows port.before.newly_enrolled port.after.newly_enrolled (news_of exchanges last)
  pub recorded : AreNoted port.before.recorded exchanges last port.after.recorded
  pub stays_open : IsOpen port.before.recorded → OnOk done (IsOpen port.after.recorded)
  pub served : AreServed H exchanges w between
  pub untaken : IsLastEnrolments H last done between after
  pub ends : EndsAfter done count exchanges last

-- the desk gets the command's settings, its operators are enrolled (`begun`), the port is asked to listen at
-- the command's number, and then connections are taken
pub record HasBegunServing {A : Type 0} (H : Type 0) (done : Result A ErrorCode) (serve : ServeArgs)
    (port : Course Traffic) (w after : DeskWorld) : Type 0 where
  pub begun : DeskWorld
  pub listed : H → begun ≡ with_operators (on_terms w serve.desk.terms) serve.desk.enrolments.items
  pub listening : Traffic
  pub listens : IsAskedToListen port.before listening serve.port
  pub taken : AreTaken H done serve.connections (course listening port.after) begun after

-- an operator could not be enrolled: those before it are, and the port is not used
pub record IsNotBegun {A : Type 0} (H : Type 0) (done : Result A ErrorCode) (serve : ServeArgs)
    (port : Course Traffic) (w after : DeskWorld) : Type 0 where
  pub broken : IsErrAnd done IsLineBreakdown
  pub untaken : port.after ≡ port.before
  pub listed : AreEnrolledSoFar H serve.desk.enrolments.items (on_terms w serve.desk.terms) after

-- what the command `serve` does at the desk and at the port
abbrev pub IsAtPort :
    {A : Type 0} → Type 0 → Result A ErrorCode → ServeArgs → Course Traffic → DeskWorld → DeskWorld → Type 0
IsAtPort H done serve port w after =
    HasBegunServing H done serve port w after ⊎ IsNotBegun H done serve port w after

-- the command `serve` is carried out, prints that the port is open, if it is, and ends with its result
pub record IsLineServed (H : Type 0) (serve : ServeArgs) (end : Ending) (port : Course Traffic)
    (writes : Course (Option (List ℕ))) (w after : DeskWorld) : Type 0 where
  pub done : Result ⊤ ErrorCode
  pub ends : EndsWith done end
  pub printed : IsAnnounced done (listening_line serve.port) writes.before writes.after
  pub heard : PrintsIfListening port serve.port writes
  pub came : IsAtPort H done serve port w after
