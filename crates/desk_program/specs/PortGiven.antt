-- The main theorem about what the clients of a port were sent, and the turns that it speaks of.
use Rattle.std.specs.Prelude.{◌≡◌, ◌⊎◌, Option, Result, ◌<◌, ℕ, Bool, true, false, List, [], ◌∷◌, ◌++◌, length, map, take, None, Some, option_and_then, option_map, option_to_list, ◌≢◌, ⊤, All, IsSome}
use Rattle.std.specs.{Result.IsErrAnd, List.slice_get}
use Rattle.desk_store.specs.{World.World, Changes.IsHonest}
use Rattle.desk_run.specs.{Verdicts.DeskWorld, Calls.OwnAlike}
use Rattle.request_parser.specs.Requests.{asked}
use Rattle.desk_wire.specs.{Streams.Course, Streams.IsTaken, Playing.max_answered, Bytes.Sent, Bytes.text_for, Bytes.world_after, Bytes.server_error_text, Headline.sender, Headline.LookAlike, declared.response.ServerError.ServerError}
use Rattle.desk_cli.specs.{declared.failure.ErrorCode.ErrorCode, declared.line.PlayArgs.PlayArgs, declared.line.Enrolment.Enrolment, declared.line.ServeArgs.ServeArgs, Exits.IsLineBreakdown}
use Rattle.desk_program.specs.{Enrolling.AreEnrolledSoFar, Enrolling.on_terms, Enrolling.with_operators, Keeping.AreKeptSoFar, Keeping.IsFoundServed, Serving.AreTaken, Serving.Traffic, Serving.Arrival, Serving.Grows, Serving.Parting, Serving.HasBegunServing}

-- the desk gets the command's settings, its operators are enrolled (`begun`), and then connections are served
pub record AreInputsTaken {A : Type 0} (H : Type 0) (done : Result A ErrorCode) (play : PlayArgs)
    (port : Course Traffic) (w after : DeskWorld) : Type 0 where
  pub begun : DeskWorld
  pub listed : H → begun ≡ with_operators (on_terms w play.desk.terms) play.desk.enrolments.items
  pub taken : AreTaken H done max_answered port begun after

-- an operator could not be enrolled: those before it are, and no connection is taken
pub record AreNoneTaken {A : Type 0} (H : Type 0) (done : Result A ErrorCode) (play : PlayArgs)
    (port : Course Traffic) (w after : DeskWorld) : Type 0 where
  pub broken : IsErrAnd done IsLineBreakdown
  pub untaken : port.after ≡ port.before
  pub listed : AreEnrolledSoFar H play.desk.enrolments.items (on_terms w play.desk.terms) after

-- the command `play` is carried out with the requests of a port
abbrev pub IsInputPlayed :
    {A : Type 0} → Type 0 → Result A ErrorCode → PlayArgs → Course Traffic → DeskWorld → DeskWorld → Type 0
IsInputPlayed H done play port w after =
    AreInputsTaken H done play port w after ⊎ AreNoneTaken H done play port w after

-- the same, and what the next start may find
abbrev pub IsInputKept :
    {A : Type 0} → Type 0 → Result A ErrorCode → PlayArgs → Course Traffic → DeskWorld → DeskWorld
    → Option World → Type 0
IsInputKept H done play port w after found =
    ((begun : AreInputsTaken H done play port w after)
    × IsFoundServed begun.taken.exchanges begun.taken.last after found)
    ⊎ (AreNoneTaken H done play port w after
    × AreKeptSoFar H play.desk.enrolments.items (on_terms w play.desk.terms) after found)

-- ==== The connections of a port as turns, one after the other: the request that each had answered, what its
-- client was sent, and the world that they left

-- one turn: the operators of the new enrolments brought before a connection, the connection as it was taken
-- and as it was closed, and its request, if the desk decided it: none if none came whole, or the desk failed
pub record Turn : Type 0 where
  pub newly_enrolled : List Enrolment
  pub arrival : Arrival
  pub parting : Parting
  pub request : Option (List ℕ)

-- the request with the moment of its connection; None if there is none
abbrev pub sent_in : Turn → Option Sent
sent_in t = option_map (λ bytes. (t.arrival.moment, bytes)) t.request

-- the operator that the request names
abbrev pub caller : Turn → Option (List ℕ)
caller t = option_and_then sender (sent_in t)

-- the world after a request; the same world if there is none
abbrev pub left_by : DeskWorld → Option Sent → DeskWorld
left_by w None = w
left_by w (Some r) = world_after w r.0 (asked r.1)

-- the world after these turns: in each the new enrolments are made, and then the request is carried out
abbrev pub world_by : DeskWorld → List Turn → DeskWorld
world_by w [] = w
world_by w (t ∷ ts) = world_by (left_by (with_operators w t.newly_enrolled) (sent_in t)) ts

-- the world just before the request of t, the turn at place i
abbrev pub world_met : DeskWorld → List Turn → ℕ → Turn → DeskWorld
world_met w ts i t = with_operators (world_by w (take i ts)) t.newly_enrolled

-- a client was sent a text, whole if the connection is said to be answered, or else its first bytes
abbrev pub IsSent : Bool → Option (List ℕ) → List ℕ → Type 0
IsSent true sent text = sent ≡ Some text
IsSent false sent text = (n : ℕ) × (n < length text) × (sent ≡ Some (take n text))

abbrev pub Sends : Parting → List ℕ → Type 0
Sends p text = IsSent p.outcome.is_answered p.sent text

-- what the client of a turn was sent, by the world just before its request: the answer to the request, which
-- was taken from the client's bytes; or if there is none, nothing, or why the desk failed
abbrev pub IsGiven : DeskWorld → Turn → Option (List ℕ) → Type 0
IsGiven w t (Some request) = IsTaken t.arrival.bytes t.parting.unread request
    × Sends t.parting (text_for w t.arrival.moment (asked request))
IsGiven w t None =
    (t.parting.sent ≡ Some []) ⊎ ((why : ServerError) × Sends t.parting (server_error_text why))

-- of the new enrolments after which no connection was taken, if there are any, the first n are made
abbrev pub ListsLast : Option (List Enrolment) → DeskWorld → DeskWorld → Type 0
ListsLast None w after = after ≡ w
ListsLast (Some newly_enrolled) w after = (n : ℕ) × (after ≡ with_operators w (take n newly_enrolled))

-- the connections and the new enrolments that a port reports came in these turns, and each client was sent
-- what its turn gives; `after` is the world that they left, `last` the new enrolments after the last turn
pub record AreTurns (port : Course Traffic) (w after : DeskWorld) (turns : List Turn)
    (last : Option (List Enrolment)) : Type 0 where
  pub taken : Grows port.before.taken port.after.taken (map (λ t. t.arrival) turns)
  pub closed : Grows port.before.closed port.after.closed (map (λ t. t.parting) turns)
  pub newly_enrolled : Grows port.before.newly_enrolled port.after.newly_enrolled (map (λ t. t.newly_enrolled) turns ++ option_to_list last)
  pub given : (i : ℕ) (t : Turn) → slice_get turns i ≡ Some t
      → IsGiven (world_met w turns i t) t t.request
  pub left : ListsLast last (world_by w turns) after

-- there are such turns
abbrev pub HasTurns : Course Traffic → DeskWorld → DeskWorld → Type 0
HasTurns port w after =
    (turns : List Turn) × (last : Option (List Enrolment)) × AreTurns port w after turns last

-- ==== The main theorem about what the clients of a port were sent
-- r is the request of the turn t, with its moment, and its answer was sent whole
pub record IsWhole (t : Turn) (r : Sent) : Type 0 where
  pub sent : sent_in t ≡ Some r
  pub answered : t.parting.outcome.is_answered ≡ true

-- about the connections of a port that reports what it closes, if the storage is intact:
--   `first`: they came in turns. In each turn the new enrolments are made, and the client is sent the answer
--   to its request at its moment, at the world that the turns before left.
--   `decided`: take a request that came with one moment in a turn of each of two runs, at worlds that look
--   alike to its operator. If both answers were sent whole, they are equal bytes.
--   `quiet`: an operator that sent no request and is in none of the new enrolments owns what it did before.
--   `served`, `played`: the turns of `first`, for the command `serve`, and for `play` with a port. They start
--   at the world in which the desk has its settings and its first enrolments (`begun`).
pub record PortGiven : Type 0 where
  pub first : (doubt count : ℕ) (done : Result ⊤ ErrorCode) (port : Course Traffic) (w after : DeskWorld)
      → AreTaken (IsHonest doubt) done count port w after → IsHonest doubt → IsSome port.before.closed
      → HasTurns port w after
  pub decided : (p q : Course Traffic) (v w v_after w_after : DeskWorld) (ts us : List Turn)
      (m n : Option (List Enrolment)) (i j : ℕ) (t u : Turn) (r : Sent)
      → AreTurns p v v_after ts m → AreTurns q w w_after us n
      → slice_get ts i ≡ Some t → slice_get us j ≡ Some u → IsWhole t r → IsWhole u r
      → LookAlike (sender r) (world_met v ts i t) (world_met w us j u) → t.parting.sent ≡ u.parting.sent
  pub quiet : (port : Course Traffic) (w after : DeskWorld) (turns : List Turn)
      (last : Option (List Enrolment)) (operator : List ℕ) → AreTurns port w after turns last
      → All (λ t. caller t ≢ Some operator) turns
      → All (All (λ e. e.operator ≢ operator)) (map (λ t. t.newly_enrolled) turns ++ option_to_list last)
      → OwnAlike operator after w
  pub served : (doubt : ℕ) (done : Result ⊤ ErrorCode) (serve : ServeArgs) (port : Course Traffic)
      (w after : DeskWorld) (h : HasBegunServing (IsHonest doubt) done serve port w after) → IsHonest doubt
      → IsSome port.before.closed → HasTurns port h.begun after
  pub played : (doubt : ℕ) (done : Result ⊤ ErrorCode) (play : PlayArgs) (port : Course Traffic)
      (w after : DeskWorld) (h : AreInputsTaken (IsHonest doubt) done play port w after) → IsHonest doubt
      → IsSome port.before.closed → HasTurns port h.begun after
