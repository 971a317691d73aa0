-- What a desk wrote at a port is played again.
use Rattle.std.proofs.Common.{◌≡◌, ◌≤◌, ◌∙◌, ℕ, pos, List, [], ◌∷◌, ◌++◌, map, Bool, true, false, Option, Some, None, Result, Ok, Err, append_assoc, ap, refl, sym, arith, eq-eqb}
use Rattle.std.specs.Prelude.{◌||◌, IsSome, IsTrue, is_none, nat_lt}
use Rattle.std.specs.Str.{bytes_eq}
use Rattle.std.proofs.lemmas.Bool.Decides.{nat_tests}
use Rattle.std.proofs.lemmas.List.Elements.{All-head, All-tail}
use Rattle.std.proofs.lemmas.Slice.Eq.{bytes_eq-Decides}
use Rattle.desk_rules.specs.Limits.{max_priority, is_operator_name}
use Rattle.desk_record.specs.Record.{EntryParts, entries, entry}
use Rattle.request_parser.specs.Requests.{asked}
use Rattle.desk_run.specs.Verdicts.{enrolled}
use Rattle.desk_wire.specs.Bytes.{makes_change_for, text_for, world_after, server_error_text}
use Rattle.desk_wire.specs.declared.response.ServerError.{ServerError}
use Rattle.desk_wire.specs.declared.response.ServerError.TheVariants.{OutOfMemory, Store}
use Rattle.desk_cli.specs.Lines.{AreEnrolments}
use Rattle.desk_cli.specs.declared.line.Enrolment.{Enrolment}
use Rattle.desk_program.specs.Enrolling.{with_operators, AreNamed, answer_entry, operator_entry, request_entry}
use Rattle.desk_replay.specs.Replaying.{AskingParts, Outcome, State, counted, is_expected_answer, is_failure, last_moment, listed, played, requested, taken, answer_outcome, then_taken, with_change}

ok_same : {A E : Type 0} {x y : A} → ◌≡◌ {A = Result A E} (Ok x) (Ok y) → x ≡ y
ok_same e = cc

begun_is : (n : Option ℕ) → IsSome n → is_none n ≡ false
begun_is None h = cc
begun_is (Some n) h = refl

-- entries, and then others
pub played_then : (s t : State) (xs ys : List EntryParts) → played s xs ≡ Ok t
    → played s (xs ++ ys) ≡ played t ys
unfolding played
played_then s t [] ys first = ap (λ v. played v ys) (ok_same first)
played_then s t (x ∷ xs) ys first = by (taken s x) first (λ v h. played_then v t xs ys h)
  where
    by : (o : Outcome) → then_taken (λ v. played v xs) o ≡ Ok t
        → ((v : State) → played v xs ≡ Ok t → played v (xs ++ ys) ≡ played t ys)
        → then_taken (λ v. played v (xs ++ ys)) o ≡ played t ys
    by (Ok v) h more = more v h
    by (Err fault) h more = cc

pub played_one : (s t : State) (e : EntryParts) → taken s e ≡ Ok t → played s (e ∷ []) ≡ Ok t
unfolding played
played_one s t e is = ap (then_taken (λ v. played v [])) is

pub entries_then : (xs ys : List EntryParts) → entries (xs ++ ys) ≡ entries xs ++ entries ys
entries_then [] ys = refl
entries_then (x ∷ xs) ys =
    ap (λ v. entry x ++ v) (entries_then xs ys) ∙ sym (append_assoc (entry x) (entries xs) (entries ys))

-- ---- enrolments

is_low : (n : ℕ) → n ≤ max_priority → nat_lt max_priority n ≡ false
is_low n low = grind (arith, nat_tests)

is_listed : (s : State) (e : Enrolment) → IsSome s.record_number → e.ceiling ≤ max_priority
    → IsTrue (is_operator_name e.operator)
    → taken s (operator_entry e) ≡ Ok (record s { world = enrolled s.world e.operator e.ceiling })
unfolding taken listed
is_listed s e begun low name = rw (begun_is s.record_number begun, is_low e.ceiling low, name) refl

pub news_played : (s : State) (es : List Enrolment) → IsSome s.record_number → AreEnrolments es → AreNamed es
    → played s (map operator_entry es) ≡ Ok (record s { world = with_operators s.world es })
unfolding played
news_played s [] begun low named = refl
news_played s (e ∷ es) begun low named =
    ap (then_taken (λ v. played v (map operator_entry es)))
    (is_listed s e begun (All-head (λ x. x.ceiling ≤ max_priority) e es low) named.0)
    ∙ news_played (record s { world = enrolled s.world e.operator e.ceiling }) es begun
    (All-tail (λ x. x.ceiling ≤ max_priority) e es low) named.1

-- ---- a request with its answer

abbrev pub asking_of : State → ℕ → List ℕ → AskingParts
asking_of s second request = record {
  second = second;
  request = request;
  answer = text_for s.world (pos second) (asked request);
  before = None;
  reopened = false;
  made_change = makes_change_for s.world (pos second) (asked request);
}

abbrev pub asked_of : State → ℕ → List ℕ → State
asked_of s second request = record s {
  world = world_after s.world (pos second) (asked request);
  asking = Some (asking_of s second request);
  requests = counted None s.requests;
  changes = with_change false (makes_change_for s.world (pos second) (asked request)) s.changes;
}

abbrev pub after : State → ℕ → List ℕ → State
after s second request = record s {
  world = world_after s.world (pos second) (asked request);
  asking = None;
  requests = counted None s.requests;
  changes = with_change false (makes_change_for s.world (pos second) (asked request)) s.changes;
}

timely : (n : ℕ) → n ≤ last_moment → nat_lt last_moment n ≡ false
timely n low = grind (arith, nat_tests)

pub is_asked : (s : State) (second : ℕ) (request : List ℕ) → IsSome s.record_number → s.asking ≡ None
    → second ≤ last_moment → taken s (request_entry second request) ≡ Ok (asked_of s second request)
unfolding taken requested
is_asked s second request begun none low = rw (begun_is s.record_number begun, timely second low, none) refl

same : (xs : List ℕ) → bytes_eq xs xs ≡ true
same xs = (bytes_eq-Decides xs xs).1 refl

pub is_answered : (s : State) (second : ℕ) (request : List ℕ) → IsSome s.record_number
    → taken (asked_of s second request)
    (answer_entry second (text_for s.world (pos second) (asked request))) ≡ Ok (after s second request)
unfolding taken answer_outcome
is_answered s second request begun =
    rw (
      begun_is s.record_number begun,
      eq-eqb second second refl,
      same (text_for s.world (pos second) (asked request)),
    ) refl

pub pair_played : (s : State) (second : ℕ) (request : List ℕ) → IsSome s.record_number → s.asking ≡ None
    → second ≤ last_moment → played s (request_entry second request
    ∷ answer_entry second (text_for s.world (pos second) (asked request)) ∷ []) ≡ Ok (after s second request)
unfolding played
pair_played s second request begun none low =
    ap (then_taken (λ t. played t (answer_entry second (text_for s.world (pos second) (asked request)) ∷ [])))
    (is_asked s second request begun none low)
    ∙ ap (then_taken (λ t. played t [])) (is_answered s second request begun)

-- an answer that says that the desk failed is taken whatever the desk answers
or_true : (b : Bool) → (b || true) ≡ true
or_true true = refl
or_true false = refl

is_failure_text : (why : ServerError) → is_failure (server_error_text why) ≡ true
is_failure_text OutOfMemory = rw (same (server_error_text OutOfMemory)) refl
is_failure_text Store = rw (same (server_error_text Store)) (or_true (bytes_eq (server_error_text Store)
    (server_error_text OutOfMemory)))

pub failure_taken : (s : State) (second : ℕ) (request : List ℕ) (why : ServerError) → IsSome s.record_number
    → (t : State) × (taken (asked_of s second request) (answer_entry second (server_error_text why)) ≡ Ok t)
    × (t.world ≡ world_after s.world (pos second) (asked request))
unfolding taken answer_outcome
failure_taken s second request why begun =
    by (is_expected_answer (asking_of s second request) (server_error_text why)) refl
  where
    by : (alike : Bool) → is_expected_answer (asking_of s second request) (server_error_text why) ≡ alike
        → (t : State)
        × (taken (asked_of s second request) (answer_entry second (server_error_text why)) ≡ Ok t)
        × (t.world ≡ world_after s.world (pos second) (asked request))
    by true is = (
      after s second request,
      rw (begun_is s.record_number begun, eq-eqb second second refl, is) refl,
      refl,
    )
    by false is = (
      asked_of s second request,
      rw (begun_is s.record_number begun, eq-eqb second second refl, is, is_failure_text why) refl,
      refl,
    )
