-- The answers to requests, byte for byte, and why a desk failed to give one.
use Rattle.std.specs.Prelude.{ℕ, List, Option, None, codes, ◌≡◌, ◌≢◌, ℤ, Bool, false, Some, IfSome, Ok, Err, option_map, Result, ◌<◌, [], ◌∷◌, ◌++◌, length, map, take, Vec, ⊤}
use Rattle.std.specs.{Global.Global, Io.KnownBytes.Appends}
use Rattle.desk_rules.specs.declared.call.Asked.{Asked}
use Rattle.desk_store.specs.Changes.{HasRisen}
use Rattle.desk_run.specs.Verdicts.{Reported, replied, unknown_operator, no_such_plan, makes_change, reported_to, step, DeskWorld}
use Rattle.desk_run.specs.declared.fault.DeskFault.{DeskFault}
use Rattle.desk_run.specs.declared.fault.DeskFault.TheVariants as desk
use Rattle.request_parser.specs.{Routes.fault_allow, Routes.fault_status, Routes.fault_word, Messages.Reading, Requests.asked}
use Rattle.desk_writing.specs.ReplyText.{error_text, reply_text}
use Rattle.io_ends.specs.declared.{moment.Moment.Moment, serving.Served.Served, serving.Served.TheVariants.Answered, serving.Served.TheVariants.End}
use Rattle.desk_wire.specs.declared.{refusal.Refusal.Refusal, refusal.Refusal.TheVariants.Fault, refusal.Refusal.TheVariants.UnknownOperator, refusal.Refusal.TheVariants.NoSuchPlan, response.ServerError.ServerError, response.ServerError.TheVariants.OutOfMemory, response.ServerError.TheVariants.Store, response.Answer.Answer, answering.Response.Response}
use Rattle.desk_wire.specs.declared.{batch.Answers.Answers, batch.AnswersEnd.AnswersEnd, batch.AnswersEnd.TheVariants.All, batch.AnswersEnd.TheVariants.Broken, batch.AnswersEnd.TheVariants.NoMemory}

-- the status code (RFC 9110, section 15)
abbrev pub refusal_status : Refusal → ℕ
refusal_status (Fault fault) = fault_status fault
refusal_status UnknownOperator = 403
refusal_status NoSuchPlan = 404

-- the error code in the answer's body, `{"error":WORD}`
abbrev pub refusal_word : Refusal → List ℕ
refusal_word (Fault fault) = fault_word fault
refusal_word UnknownOperator = codes "unknown_operator"
refusal_word NoSuchPlan = codes "no_such_plan"

-- the methods that the answer lists, if its status is 405
abbrev pub refusal_allow : Refusal → Option (List ℕ)
refusal_allow (Fault fault) = fault_allow fault
refusal_allow UnknownOperator = None
refusal_allow NoSuchPlan = None

-- the whole answer to a request that is refused
unfoldable pub refusal_text : Refusal → List ℕ
refusal_text refusal = error_text (refusal_status refusal) (refusal_allow refusal) (refusal_word refusal)

-- the whole answer that says why the desk itself failed, with the status 500
abbrev pub server_error_text : ServerError → List ℕ
server_error_text OutOfMemory = error_text 500 None (codes "out_of_memory")
server_error_text Store = error_text 500 None (codes "store")

-- ==== The text that a desk answers to the bytes of one request, and what the request leaves
-- the bytes of the answer to a caller
unfoldable pub text : Reported → List ℕ
text (replied reply) = reply_text reply
text unknown_operator = refusal_text UnknownOperator
text no_such_plan = refusal_text NoSuchPlan

-- the status code that it begins with
unfoldable pub status : Reported → ℕ
status (replied reply) = 200
status unknown_operator = refusal_status UnknownOperator
status no_such_plan = refusal_status NoSuchPlan

-- the bytes of the answer in the world `w` at a moment: to what a request asks, or to the fault that it has
abbrev pub text_for : DeskWorld → ℤ → Reading Asked → List ℕ
text_for w moment (Ok a) = text (reported_to w a.operator moment a.call)
text_for w moment (Err fault) = refusal_text (Fault fault)

-- its status code
abbrev pub status_for : DeskWorld → ℤ → Reading Asked → ℕ
status_for w moment (Ok a) = status (reported_to w a.operator moment a.call)
status_for w moment (Err fault) = fault_status fault

-- the world that the request leaves: one with a fault leaves `w` as it was
abbrev pub world_after : DeskWorld → ℤ → Reading Asked → DeskWorld
world_after w moment (Ok a) = step w a.operator moment a.call
world_after w moment (Err fault) = w

-- whether the request makes a change: one with a fault makes none
abbrev pub makes_change_for : DeskWorld → ℤ → Reading Asked → Bool
makes_change_for w moment (Ok a) = makes_change w a.operator moment a.call
makes_change_for w moment (Err fault) = false

-- the answer, and the world after it, are those that the rules say
pub record IsDone (w : DeskWorld) (moment : ℤ) (reading : Reading Asked) (answer : List ℕ)
    (after : DeskWorld) : Type 0 where
  pub reported : answer ≡ text_for w moment reading
  pub left : after ≡ world_after w moment reading

-- the desk failed: the answer says why, and the world is as it was
pub record IsServerError (why : ServerError) (w : DeskWorld) (answer : List ℕ)
    (after : DeskWorld) : Type 0 where
  pub reported : answer ≡ server_error_text why
  pub left : after ≡ w

-- the answer and the world after it, by why the desk failed, if it did
abbrev pub IsAnsweredSo : Option ServerError → DeskWorld → ℤ → Reading Asked → List ℕ → DeskWorld → Type 0
IsAnsweredSo None w moment reading answer after = IsDone w moment reading answer after
IsAnsweredSo (Some why) w moment reading answer after = IsServerError why w answer after

-- the status code of that answer
abbrev pub status_or_500 : Option ServerError → DeskWorld → ℤ → Reading Asked → ℕ
status_or_500 None w moment reading = status_for w moment reading
status_or_500 (Some why) w moment reading = 500

-- whether a change was made: not if the desk failed
abbrev pub makes_change_unless_failed : Option ServerError → DeskWorld → ℤ → Reading Asked → Bool
makes_change_unless_failed None w moment reading = makes_change_for w moment reading
makes_change_unless_failed (Some why) w moment reading = false

-- the answer `made` to a request in the world `w`, where the desk didn't fail, and the world after it; its
-- status is never 500. `H` says that the store is honest
pub record IsMadeAnswer (H : Type 0) (w : DeskWorld) (moment : ℤ) (reading : Reading Asked)
    (after : DeskWorld)
    (made : Response) : Type 0 where
  pub bytes : H → IsDone w moment reading made.bytes.items after
  pub status : H → made.status ≡ status_for w moment reading
  pub change : H → made.made_change ≡ makes_change_for w moment reading
  pub other : made.status ≢ 500

-- the answer to a request in the world `w`, and the world after it. `H` says that the store is honest; what
-- is said of a desk that failed holds in any case
pub record IsAnswerReported (H : Type 0) (w : DeskWorld) (moment : ℤ) (reading : Reading Asked)
    (after : DeskWorld)
    (answer : Answer) : Type 0 where
  pub bytes : H → IsAnsweredSo answer.error w moment reading answer.bytes.items after
  pub status : H → answer.status ≡ status_or_500 answer.error w moment reading
  pub change : H → answer.made_change ≡ makes_change_unless_failed answer.error w moment reading
  pub failed : IfSome answer.error (λ why. IsServerError why w answer.bytes.items after)
  pub gave_up : answer.status ≡ 500 → answer.error ≢ None

-- the fault of the desk that an answer reports
abbrev pub desk_fault : ServerError → DeskFault
desk_fault OutOfMemory = desk.OutOfMemory
desk_fault Store = desk.Store

-- why the desk failed, if it did
abbrev pub failure_of : {V : Type 0} → Result V ServerError → Option DeskFault
failure_of (Ok v) = None
failure_of (Err why) = Some (desk_fault why)

-- the same by an answer, which reports it; without an answer, memory ran out
abbrev pub failure_reported : {E : Type 0} → Result Answer E → Option DeskFault
failure_reported (Ok answer) = option_map desk_fault answer.error
failure_reported (Err e) = Some desk.OutOfMemory

-- ==== The answers to requests, one after the other
-- a moment, and the bytes of a request that is sent then
abbrev pub Sent : Type 0
Sent = ℤ × List ℕ

-- the requests and the answers of the code, as lists of bytes
abbrev pub sent_in : List (Moment × Vec ℕ Global) → List Sent
sent_in requests = map (λ request. (request.0.second, request.1.items)) requests

abbrev pub texts_in : Answers → List (List ℕ)
texts_in answers = map (λ answer. answer.items) answers.answers.items

-- the answers to requests from the world `w` on: each is answered in the world that those before it leave
abbrev pub answers_to : DeskWorld → List Sent → List (List ℕ)
answers_to w [] = []
answers_to w (r ∷ rs) = text_for w r.0 (asked r.1) ∷ answers_to (world_after w r.0 (asked r.1)) rs

-- the world that all of them leave
abbrev pub world_left : DeskWorld → List Sent → DeskWorld
world_left w [] = w
world_left w (r ∷ rs) = world_left (world_after w r.0 (asked r.1)) rs

-- the first `n` requests have these answers, and `after` is the world that they leave
pub record AreFirst (w : DeskWorld) (requests : List Sent) (n : ℕ) (answers : List (List ℕ))
    (after : DeskWorld) : Type 0 where
  pub reported : answers ≡ answers_to w (take n requests)
  pub left : after ≡ world_left w (take n requests)

-- all requests have these answers, and `after` is the world that they leave
pub record AreAll (w : DeskWorld) (requests : List Sent) (answers : List (List ℕ)) (after : DeskWorld) :
    Type 0 where
  pub reported : answers ≡ answers_to w requests
  pub left : after ≡ world_left w requests

-- the first requests have these answers; memory ran out before the next one was carried out
pub record AreCutShort (w : DeskWorld) (requests : List Sent) (answers : List (List ℕ)) (after : DeskWorld) :
    Type 0 where
  pub first : AreFirst w requests (length answers) answers after
  pub cut : length answers < length requests

-- the first `count` requests have the answers `before`; one more answer says why the desk failed, and its
-- request changed nothing
pub record AreBroken (w : DeskWorld) (requests : List Sent) (answers : List (List ℕ)) (after : DeskWorld)
    : Type 0 where
  pub why : ServerError
  pub count : ℕ
  pub before : List (List ℕ)
  pub first : AreFirst w requests count before after
  pub last : answers ≡ before ++ server_error_text why ∷ []
  pub cut : count < length requests

-- the answers to a list of requests, by why there are no more
abbrev pub AreAnswers : AnswersEnd → DeskWorld → List Sent → List (List ℕ) → DeskWorld → Type 0
AreAnswers All w requests answers after = AreAll w requests answers after
AreAnswers Broken w requests answers after = AreBroken w requests answers after
AreAnswers NoMemory w requests answers after = AreCutShort w requests answers after

-- ==== Why a desk failed to answer a request
-- Memory ran out, or its store counted a fault.

-- if an answer says that the store failed, the store has counted a fault: its count rose from `old` to `new`
abbrev pub HasStoreCause : ServerError → ℕ → ℕ → Type 0
HasStoreCause OutOfMemory old new = ⊤
HasStoreCause Store old new = HasRisen old new

-- an answer said why the desk failed, and that is true. `IsSaid` says where the answer is; the store's count
-- of faults went from `old` to `new`
pub record HasFailed (IsSaid : List ℕ → Type 0) (old new : ℕ) : Type 0 where
  pub why : ServerError
  pub said : IsSaid (server_error_text why)
  pub cause : HasStoreCause why old new

-- `last` is the last of `answers`
abbrev pub IsLastAnswer : List (List ℕ) → List ℕ → Type 0
IsLastAnswer answers last = (before : List (List ℕ)) × (answers ≡ before ++ last ∷ [])

-- if a list of answers ended because the desk failed, its last answer says why, and that is true
abbrev pub HaveCause : Answers → ℕ → ℕ → Type 0
HaveCause answers old new = answers.ended ≡ Broken → HasFailed (IsLastAnswer (texts_in answers)) old new

-- `last` are the last bytes that were written to an output which had `out` and now has `now`
abbrev pub AppendsLast : Option (List ℕ) → Option (List ℕ) → List ℕ → Type 0
AppendsLast out now last = (before : List ℕ) × Appends out now (before ++ last)

-- a request was answered with the status 500
abbrev pub HasStatus500 : Served → Type 0
HasStatus500 (Answered status framed) = status ≡ 500
HasStatus500 End = ⊥
