-- A journal replayed at a desk's world, entry by entry, and what a desk writes to its journal.
use Rattle.std.specs.Prelude.{◌≡◌, ◌⊎◌, ⊤, ℕ, ℤ, pos, ◌+◌, ◌==◌, min, length, is_none, nat_le, nat_lt, ◌^◌, ◌-◌, List, [], ◌∷◌, ◌++◌, Bool, true, false, not, ◌&&◌, ◌||◌, if◌then◌else◌, Option, Some, None, Result, Ok, Err, codes, ◌≤◌, map}
use Rattle.std.specs.Str.{bytes_eq}
use Rattle.desk_rules.specs.{Limits.max_priority, Limits.max_spans, Limits.max_total_cells, Limits.is_operator_name, Limits.permitted_in, Outcome.no_terms, declared.terms.Terms.Terms, declared.permission.PermitFault.PermitFault}
use Rattle.desk_store.specs.{Changes.IsHonest, World.World, declared.store.PlanStore.Ghosts}
use Rattle.desk_run.specs.Verdicts.{DeskWorld, IsSettled, Parts, enrolled, world_of}
use Rattle.request_parser.specs.Requests.{asked}
use Rattle.desk_record.specs.{Record.EntryParts, declared.kind.Kind.Kind}
use Rattle.desk_record.specs.declared.kind.Kind.TheVariants as kind
use Rattle.desk_wire.specs.{Bytes.makes_change_for, Bytes.text_for, Bytes.world_after, Bytes.server_error_text, Bytes.Sent, Streams.Course}
use Rattle.desk_wire.specs.declared.response.ServerError.TheVariants as error
use Rattle.desk_replay.specs.declared.{fault.ReplayFault.ReplayFault, fault.ReplayFault.TheVariants.OutOfMemory, fault.ReplayFault.TheVariants.Store, fault.ReplayFault.TheVariants.NoRecord, fault.ReplayFault.TheVariants.NotNext, fault.ReplayFault.TheVariants.Differs, progress.UnansweredRequest.UnansweredRequest, progress.Progress.Progress}

-- ==== A journal replayed at a desk's world, entry by entry (docs/journal-format.md)
-- a request whose recorded answer is still to come
pub record AskingParts : Type 0 where
  pub second : ℕ
  pub request : List ℕ
  pub answer : List ℕ
  pub before : Option (List ℕ)
  pub reopened : Bool
  pub made_change : Bool

-- the state of a replay: the desk's world, and the progress
pub record State : Type 0 where
  pub world : DeskWorld
  pub record_number : Option ℕ
  pub permitted : List ℕ
  pub terms : Terms
  pub asking : Option AskingParts
  pub requests : ℕ
  pub changes : ℕ

-- the bytes of an optional vector
abbrev pub bytes_of : {V : Type 0} → (V → List ℕ) → Option V → Option (List ℕ)
bytes_of items None = None
bytes_of items (Some v) = Some (items v)

abbrev pub asking_shown : UnansweredRequest → AskingParts
asking_shown a = record {
  second = a.second;
  request = a.request.items;
  answer = a.answer.items;
  before = bytes_of (λ v. v.items) a.before;
  reopened = a.reopened;
  made_change = a.made_change;
}

abbrev pub asking_in : Option UnansweredRequest → Option AskingParts
asking_in None = None
asking_in (Some a) = Some (asking_shown a)

-- the state of a replay, by the desk's world and the progress
abbrev pub progress_state : DeskWorld → Progress → State
progress_state w p = record {
  world = w;
  record_number = p.record;
  permitted = p.permitted.items;
  terms = p.terms;
  asking = asking_in p.asking;
  requests = p.requests;
  changes = p.changes;
}

-- the state of a replay, by the desk and the progress
abbrev pub state_at : {S : Type 0} → (S → World) → Parts S → Progress → State
state_at content desk progress = progress_state (world_of content desk) progress

-- the outcome of an entry: the state after it, or why it can't be replayed
abbrev pub Outcome : Type 0
Outcome = Result State ReplayFault

-- the fault if the test is true, else the outcome `next`
abbrev pub refuse_if : Bool → ReplayFault → Outcome → Outcome
refuse_if test fault next = if test then Err fault else next

-- the greatest second that is a moment
abbrev pub last_moment : ℕ
last_moment = 253370764800

-- the version of the format
abbrev pub version : List ℕ
version = codes "1"

-- whether the journal file n may follow the last one; the first may have any number
abbrev pub follows : Option ℕ → ℕ → Bool
follows None n = true
follows (Some last) n = n == last + 1

-- the unanswered request, if there is one, has to be repeated by the journal file that begins
abbrev pub reopened : Option AskingParts → Option AskingParts
reopened None = None
reopened (Some a) = Some (record a { reopened = true })

-- the outcome of the entry with which the journal file n begins: all settings are removed
unfoldable pub begun : State → ℕ → List ℕ → Outcome
begun s n bytes =
    refuse_if (not (bytes_eq bytes version)) NoRecord
    (refuse_if (not (follows s.record_number n)) NotNext
    (Ok (record s {
      world = record s.world { terms = no_terms };
      record_number = Some n;
      permitted = [];
      terms = no_terms;
      asking = reopened s.asking;
    })))

-- the priorities `more` are permitted, if they may be
abbrev pub permitted_by : State → List ℕ → Result (List ℕ) PermitFault → Outcome
permitted_by s more (Err fault) = Err NoRecord
permitted_by s more (Ok permitted) =
    Ok (record s {
      world = record s.world { terms = record s.terms { permitted = permitted } };
      permitted = more;
      terms = record s.terms { permitted = permitted };
    })

-- the outcome of an entry that permits one more priority
unfoldable pub permitted : State → ℕ → Outcome
permitted s p =
    refuse_if (nat_lt max_priority p) NoRecord
    (permitted_by s (s.permitted ++ (p ∷ [])) (permitted_in (s.permitted ++ (p ∷ []))))

-- the outcome of an entry that limits the spans of an operator's live plans to n
unfoldable pub span_limit_outcome : State → ℕ → Outcome
span_limit_outcome s n =
    refuse_if (not (nat_le 1 n && nat_le n max_spans)) NoRecord
    (Ok (record s {
      world = record s.world { terms = record s.terms { spans = Some n } };
      terms = record s.terms { spans = Some n };
    }))

-- the outcome of an entry that limits the cells of all plans of an operator to n
unfoldable pub cell_limit_outcome : State → ℕ → Outcome
cell_limit_outcome s n =
    refuse_if (not (nat_le 1 n && nat_le n max_total_cells)) NoRecord
    (Ok (record s {
      world = record s.world { terms = record s.terms { cells = Some n } };
      terms = record s.terms { cells = Some n };
    }))

-- the outcome of an entry that enrols an operator
unfoldable pub listed : State → ℕ → List ℕ → Outcome
listed s ceiling name =
    refuse_if (not (is_operator_name name)) NoRecord
    (refuse_if (nat_lt max_priority ceiling) NoRecord
    (Ok (record s { world = enrolled s.world name ceiling })))

-- whether a request is the unanswered one that has to be repeated
abbrev pub same_asked : AskingParts → ℕ → List ℕ → Bool
same_asked a second request = a.reopened && ((a.second == second) && bytes_eq a.request request)

-- the first answer to a request that is repeated: `before`, or, at the first repetition, `answer`
abbrev pub first_of : Option (List ℕ) → List ℕ → List ℕ
first_of None answer = answer
first_of (Some before) answer = before

-- Some None for a new request, Some of the first answer for a repeated one; None if neither may come here
abbrev pub request_turn : Option AskingParts → ℕ → List ℕ → Option (Option (List ℕ))
request_turn None second request = Some None
request_turn (Some a) second request =
    if same_asked a second request then Some (Some (first_of a.before a.answer)) else None

-- the count of requests after one more; a repeated one isn't counted again. At most the greatest of 64 bits
abbrev pub counted : Option (List ℕ) → ℕ → ℕ
counted None n = min (n + 1) (2 ^ 64 - 1)
counted (Some before) n = n

-- whether the unanswered request, if there is one, changed the database so far
abbrev pub has_changed : Option AskingParts → Bool
has_changed None = false
has_changed (Some a) = a.made_change

-- the count of requests that changed the database, after one more, which counts if it did now and not before
abbrev pub with_change : Bool → Bool → ℕ → ℕ
with_change true now n = n
with_change false false n = n
with_change false true n = min (n + 1) (2 ^ 64 - 1)

-- the outcome of a request that is carried out at its second, by what `request_turn` says
abbrev pub asked_now : State → ℕ → List ℕ → Option (Option (List ℕ)) → Outcome
asked_now s second request None = Err NoRecord
asked_now s second request (Some before) =
    Ok (record s {
      world = world_after s.world (pos second) (asked request);
      asking = Some (record {
        second = second;
        request = request;
        answer = text_for s.world (pos second) (asked request);
        before = before;
        reopened = false;
        made_change = has_changed s.asking || makes_change_for s.world (pos second) (asked request);
      });
      requests = counted before s.requests;
      changes = with_change (has_changed s.asking) (makes_change_for s.world (pos second) (asked request))
          s.changes;
    })

-- the outcome of an entry of a request
unfoldable pub requested : State → ℕ → List ℕ → Outcome
requested s second request =
    refuse_if (nat_lt last_moment second) NoRecord
    (asked_now s second request (request_turn s.asking second request))

-- whether an answer is one of the two answers with the status 500, which say that the desk failed
abbrev pub is_failure : List ℕ → Bool
is_failure answer =
    bytes_eq answer (server_error_text error.OutOfMemory) || bytes_eq answer (server_error_text error.Store)

-- whether an answer is the first one to a repeated request
abbrev pub is_first : Option (List ℕ) → List ℕ → Bool
is_first None answer = false
is_first (Some before) answer = bytes_eq answer before

-- whether a recorded answer is the desk's, now or when the request was carried out first
abbrev pub is_expected_answer : AskingParts → List ℕ → Bool
is_expected_answer a answer = bytes_eq answer a.answer || is_first a.before answer

-- the outcome of a recorded answer to the unanswered request; after a 500 the request stays unanswered
abbrev pub answered_by : State → Option AskingParts → ℕ → List ℕ → Outcome
answered_by s None second answer = Err NoRecord
answered_by s (Some a) second answer =
    refuse_if (a.reopened || not (a.second == second)) NoRecord
    (if is_expected_answer a answer then Ok (record s { asking = None })
    else refuse_if (not (is_failure answer)) Differs (Ok s))

-- the outcome of an entry of an answer
unfoldable pub answer_outcome : State → ℕ → List ℕ → Outcome
answer_outcome s second answer = answered_by s s.asking second answer

-- the outcome `next` of an entry that may have no bytes
abbrev pub bare : List ℕ → Outcome → Outcome
bare bytes next = refuse_if (not (length bytes == 0)) NoRecord next

-- the outcome of an entry that isn't the first of its journal file
abbrev pub outcome_after_header : Kind → State → ℕ → List ℕ → Outcome
outcome_after_header kind.Record s n bytes = Err NoRecord
outcome_after_header kind.Permitted s n bytes = bare bytes (permitted s n)
outcome_after_header kind.Spans s n bytes = bare bytes (span_limit_outcome s n)
outcome_after_header kind.Cells s n bytes = bare bytes (cell_limit_outcome s n)
outcome_after_header kind.Operator s n bytes = listed s n bytes
outcome_after_header kind.Request s n bytes = requested s n bytes
outcome_after_header kind.Answer s n bytes = answer_outcome s n bytes

-- whether an entry is the first of a journal file
abbrev pub is_record : Kind → Bool
is_record kind.Record = true
is_record kind.Permitted = false
is_record kind.Spans = false
is_record kind.Cells = false
is_record kind.Operator = false
is_record kind.Request = false
is_record kind.Answer = false

-- the outcome of an entry
unfoldable pub taken : State → EntryParts → Outcome
taken s e =
    if is_record e.kind then begun s e.number e.bytes
    else refuse_if (is_none s.record_number) NoRecord (outcome_after_header e.kind s e.number e.bytes)

abbrev pub then_taken : (State → Outcome) → Outcome → Outcome
then_taken next (Ok s) = next s
then_taken next (Err fault) = Err fault

-- the outcome of entries, one after the other, up to the first that can't be replayed
unfoldable pub played : State → List EntryParts → Outcome
played s [] = Ok s
played s (e ∷ es) = then_taken (λ t. played t es) (taken s e)

-- a fault of the desk itself, which says nothing about the journal
abbrev pub IsDeskFault : ReplayFault → Type 0
IsDeskFault fault = (fault ≡ OutOfMemory) ⊎ (fault ≡ Store)

-- if the next start could find only the desk's content before, it finds only the new desk's content now
abbrev pub StaysSettled : {S : Type 0} → Ghosts S → Parts S → Parts S → Type 0
StaysSettled g old new = IsHonest (g.doubt new.store) → IsSettled g.content g.may_leave old
    → IsSettled g.content g.may_leave new

-- after Ok the outcome is the new state; after an error it is that fault, or the fault is the desk's own, and
-- the state is unchanged
abbrev pub GivesOutcome : Result ⊤ ReplayFault → Outcome → State → State → Type 0
GivesOutcome (Ok done) outcome old new = outcome ≡ Ok new
GivesOutcome (Err fault) outcome old new = (IsDeskFault fault ⊎ (outcome ≡ Err fault)) × (new ≡ old)

-- the result `done` and the new state are the outcome of `step` at the desk and the progress before
abbrev pub StepsAt :
    {S : Type 0} → (S → World) → Result ⊤ ReplayFault → (State → Outcome) → Course (Parts S) → Course Progress
    → Type 0
StepsAt content done step desk progress =
    GivesOutcome done (step (state_at content desk.before progress.before))
    (state_at content desk.before progress.before) (state_at content desk.after progress.after)

-- ==== What a desk writes to its journal for the requests that it answers
-- the second of a request, and its bytes
pub record TimedRequest : Type 0 where
  pub second : ℕ
  pub request : List ℕ

-- the request with its moment
abbrev pub sent : TimedRequest → Sent
sent r = (pos r.second, r.request)

-- the second of the request is a moment
abbrev pub IsTimely : TimedRequest → Type 0
IsTimely r = r.second ≤ last_moment

-- the entry of a request
abbrev pub asking_entry : TimedRequest → EntryParts
asking_entry r = record { kind = kind.Request; number = r.second; bytes = r.request }

-- the entry of the answer to a request at the world w
abbrev pub answering_entry : DeskWorld → TimedRequest → EntryParts
answering_entry w r = record {
  kind = kind.Answer;
  number = r.second;
  bytes = text_for w (pos r.second) (asked r.request);
}

-- the entries of requests: each request, and after it its answer at the world that those before it left
abbrev pub written : DeskWorld → List TimedRequest → List EntryParts
written w [] = []
written w (r ∷ rs) =
    asking_entry r ∷ answering_entry w r ∷ written (world_after w (pos r.second) (asked r.request)) rs
