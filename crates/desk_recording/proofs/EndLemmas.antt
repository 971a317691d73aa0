-- What is written down of connections is played again, however they ended.
use Rattle.std.proofs.Common.{◌≡◌, ◌≢◌, ◌<◌, ◌⊎◌, ◌∙◌, ℕ, ℤ, pos, nat_abs, List, [], ◌∷◌, ◌++◌, All, map, length, take, drop, Option, Some, None, IfSome, Result, Ok, Err, append-nil, append_assoc, ap, inl, inr, refl, subst, sym, arith}
use Rattle.std.specs.Prelude.{⊤}
use Rattle.std.proofs.lemmas.List.{take-append-drop}
use Rattle.std.proofs.lemmas.List.Elements.{All-cons, All-head, All-nil, All-tail}
use Rattle.io_ends.specs.Writing.{IsMoment}
use Rattle.desk_record.specs.Record.{EntryParts, entries, entry}
use Rattle.request_parser.specs.Messages.{Reading}
use Rattle.request_parser.specs.Requests.{asked}
use Rattle.desk_rules.specs.declared.call.Asked.{Asked}
use Rattle.desk_store.specs.World.{World}
use Rattle.desk_run.specs.Verdicts.{DeskWorld, enrolled, with_content, step}
use Rattle.desk_run.proofs.lemmas.Repeat.{step_again}
use Rattle.desk_wire.specs.Bytes.{world_after}
use Rattle.desk_wire.specs.Given.{IsCertain}
use Rattle.desk_wire.specs.Streams.{Course, passed, HasServed, IsRequest, request_len}
use Rattle.desk_cli.specs.Exits.{failure_at}
use Rattle.desk_cli.specs.Lines.{AreEnrolments}
use Rattle.desk_cli.specs.declared.failure.ErrorCode.{ErrorCode}
use Rattle.desk_cli.specs.declared.line.Enrolment.{Enrolment}
use Rattle.desk_program.specs.Enrolling.{AreEnrolled, with_operators, AreNamed, Ended, IsAnswerRecorded, IsRecorded, Noted, Open, Recorded, RecordsAnswer, RecordsNone, RecordsRequest, answer_entry, operator_entry, request_entry, with_answer, with_news, with_request}
use Rattle.desk_program.specs.Keeping.{IsFoundServed, IsLeftByNews, IsLeftUncertain}
use Rattle.desk_program.specs.Serving.{AreNoted, AreServed, AreTaken, EndsAfter, EndsDeskBy, Exchange, IsLastEnrolments, Traffic, outcome_of, passage_of}
use Rattle.desk_replay.specs.Replaying.{State, played, taken}
use Rattle.desk_recording.specs.Inputs.{AddsPlayed, CatchesUp, EndsAs, EndsFound, EndsPlayed, IsPlayedTo, IsUnanswered, caught_up, entries_of, known, pair_of}
use Rattle.desk_recording.proofs.ExchangeLemmas.{IsGivenUp, IsLeft, are_asked, is_certain, left_next, is_given_up, is_left, low_second, same_second, some_failure}
use Rattle.desk_recording.proofs.PlayedLemmas.{asked_of, entries_then, failure_taken, is_asked, news_played, played_one, played_then}
use Rattle.desk_recording.proofs.RecordLemmas.{all_enrolled, both_played, news_added, pair_added, served_known, reported_whole}

-- operators, and then others
with_both_operators : (w : DeskWorld) (xs ys : List Enrolment)
    → with_operators w (xs ++ ys) ≡ with_operators (with_operators w xs) ys
with_both_operators w [] ys = refl
with_both_operators w (x ∷ xs) ys = with_both_operators (enrolled w x.operator x.ceiling) xs ys

ends_as : (n : Noted) (now : Option Recorded) → RecordsNone (Some (Open n)) now → EndsAs n now
ends_as n now (inl same) = inl same
ends_as n now (inr cut) = inr (inr cut)

-- ---- what is found

-- what is left has caught up; and so has what is found, if that is the same
caught : (after : DeskWorld) (newly_enrolled : List Enrolment) (moment : ℤ) (request : List ℕ) (left : DeskWorld)
    → left ≡ caught_up after newly_enrolled moment request → (found : Option World) → found ≡ Some after.content
    → CatchesUp found after newly_enrolled moment request left
caught after newly_enrolled moment request left behind found is = record {
  content = after.content;
  is = is;
  behind = behind;
}

-- after no connection
none_found : (after : DeskWorld) (newly_enrolled : List Enrolment) (moment : ℤ) (request : List ℕ) (left : DeskWorld)
    (last : Option (List Enrolment)) → left ≡ caught_up after newly_enrolled moment request → (found : Option World)
    → IsFoundServed [] last after found
    → CatchesUp found after newly_enrolled moment request left ⊎ IsLeftByNews after found last
none_found after newly_enrolled moment request left last behind found (inl is) =
    inl (caught after newly_enrolled moment request left behind found is)
none_found after newly_enrolled moment request left last behind found (inr (inl none)) = absurd none
none_found after newly_enrolled moment request left last behind found (inr (inr some)) = inr some

-- after one connection, by what its request leaves if that isn't certain
one_found : (x : Exchange) (after : DeskWorld) (newly_enrolled : List Enrolment) (moment : ℤ) (request : List ℕ)
    (left : DeskWorld) → left ≡ caught_up after newly_enrolled moment request
    → ((found : Option World) → IsLeftUncertain after found x
    → CatchesUp found after newly_enrolled moment request left) → (found : Option World)
    → IsFoundServed (x ∷ []) None after found
    → CatchesUp found after newly_enrolled moment request left ⊎ IsLeftByNews after found None
one_found x after newly_enrolled moment request left behind next found (inl is) =
    inl (caught after newly_enrolled moment request left behind found is)
one_found x after newly_enrolled moment request left behind next found (inr (inl (inl some))) = inl (next found some)
one_found x after newly_enrolled moment request left behind next found (inr (inl (inr none))) = absurd none
one_found x after newly_enrolled moment request left behind next found (inr (inr none)) = absurd none

-- a request changes no terms, and asked twice in a row it leaves what it leaves once
on_its_terms : (w : DeskWorld) (moment : ℤ) (reading : Reading Asked)
    → with_content w.terms (world_after w moment reading).content ≡ world_after w moment reading
unfolding step
on_its_terms w moment (Ok a) = refl
on_its_terms w moment (Err fault) = refl

after_again : (w : DeskWorld) (moment : ℤ) (reading : Reading Asked)
    → world_after (world_after w moment reading) moment reading ≡ world_after w moment reading
after_again w moment (Ok a) = step_again w a.operator moment a.call
after_again w moment (Err fault) = refl

-- what an uncertain request leaves, asked again
abbrev Next : DeskWorld → ℤ → List ℕ → Exchange → Type 0
Next after moment request x = (found : Option World) → IsLeftUncertain after found x
    → (0 < length request) × (found ≡ Some (world_after after moment (asked request)).content)

again_found : (x : Exchange) (after : DeskWorld) (moment : ℤ) (b : ℕ) (request : List ℕ) (left : DeskWorld)
    → left ≡ world_after after moment (asked (b ∷ request)) → Next after moment (b ∷ request) x
    → (found : Option World) → IsLeftUncertain after found x
    → CatchesUp found after [] moment (b ∷ request) left
again_found x after moment b request left behind next found some = record {
  content = (world_after after moment (asked (b ∷ request))).content;
  is = (next found some).1;
  behind = behind ∙ sym (after_again after moment (asked (b ∷ request)))
      ∙ ap (λ v. world_after v moment (asked (b ∷ request)))
      (sym (on_its_terms after moment (asked (b ∷ request))));
}

-- one that was carried out leaves the same again
done_found : (x : Exchange) (listed after : DeskWorld) (moment : ℤ) (request : List ℕ) (left : DeskWorld)
    → left ≡ after → after ≡ world_after listed moment (asked request) → Next after moment request x
    → (found : Option World) → IsLeftUncertain after found x
    → CatchesUp found after [] (pos 0) [] left
done_found x listed after moment request left behind is next found some =
    caught after [] (pos 0) [] left behind found ((next found some).1 ∙ ap (λ v. Some v.content)
    (ap (λ v. world_after v moment (asked request)) is ∙ after_again listed moment (asked request) ∙ sym is))

-- no connection is taken
none_ends : (n : Noted) (now : Option Recorded) (s : State) (w left : DeskWorld)
    → RecordsNone (Some (Open n)) now → left ≡ w → IsPlayedTo s w → EndsPlayed n now [] None s left
unfolding played
none_ends n now s w left none same at = record {
  whole = [];
  others = [];
  split = refl;
  few = omega arith;
  rest = [];
  m = n;
  text_is = sym (append-nil n.text);
  ends = ends_as n now none;
  why = All-nil (IsUnanswered n now);
  left = s;
  plays = refl;
  newly_enrolled = [];
  moment = pos 0;
  request = [];
  behind = at.world ∙ sym same;
  finds = none_found left [] (pos 0) [] s.world None (at.world ∙ sym same);
}

-- news are brought, and no connection is taken then
news_end : (n : Noted) (now : Option Recorded) (newly_enrolled later : List Enrolment) (s : State) (w left : DeskWorld)
    → AreEnrolments newly_enrolled → AreNamed newly_enrolled → RecordsNone (Some (Open (with_news n newly_enrolled))) now
    → with_operators w newly_enrolled ≡ with_operators left later → IsPlayedTo s w
    → EndsPlayed n now [] (Some newly_enrolled) s left
news_end n now newly_enrolled later s w left small named none is at = record {
  whole = [];
  others = [];
  split = refl;
  few = omega arith;
  rest = map operator_entry newly_enrolled;
  m = with_news n newly_enrolled;
  text_is = refl;
  ends = ends_as (with_news n newly_enrolled) now none;
  why = All-nil (IsUnanswered (with_news n newly_enrolled) now);
  left = record s { world = with_operators s.world newly_enrolled };
  plays = news_played s newly_enrolled at.begun small named;
  newly_enrolled = later;
  moment = pos 0;
  request = [];
  behind = ap (λ v. with_operators v newly_enrolled) at.world ∙ is;
  finds = none_found left later (pos 0) [] (with_operators s.world newly_enrolled) (Some newly_enrolled)
      (ap (λ v. with_operators v newly_enrolled) at.world ∙ is);
}

last_news_end : (H : Type 0) (h : H) (done : Result ⊤ ErrorCode) (n : Noted) (now : Option Recorded)
    (newly_enrolled : List Enrolment) (s : State) (w left : DeskWorld) → IsLastEnrolments H (Some newly_enrolled) done w left
    → AreEnrolments newly_enrolled → AreNamed newly_enrolled → RecordsNone (Some (Open (with_news n newly_enrolled))) now → IsPlayedTo s w
    → EndsPlayed n now [] (Some newly_enrolled) s left
last_news_end H h (Ok d) n now newly_enrolled s w left last small named none at = absurd last
last_news_end H h (Err f) n now newly_enrolled s w left (inl some) small named none at =
    let listed = some.1 in
    news_end n now newly_enrolled (drop listed.count newly_enrolled) s w left small named none
    (ap (with_operators w) (sym (take-append-drop listed.count newly_enrolled))
    ∙ with_both_operators w (take listed.count newly_enrolled) (drop listed.count newly_enrolled)
    ∙ ap (λ v. with_operators v (drop listed.count newly_enrolled)) (sym (listed.left h))) at
last_news_end H h (Err f) n now newly_enrolled s w left (inr all) small named none at =
    news_end n now newly_enrolled [] s w left small named none (sym (all_enrolled H h newly_enrolled w left all.1)) at

-- one entry more
entry_last : (text : List ℕ) (xs : List EntryParts) (e : EntryParts)
    → text ++ entries (xs ++ e ∷ []) ≡ (text ++ entries xs) ++ entry e
entry_last text xs e =
    ap (λ v. text ++ v) (entries_then xs (e ∷ []) ∙ ap (λ v. entries xs ++ v) (append-nil (entry e)))
    ∙ sym (append_assoc text (entries xs) (entry e))

-- the operators of a connection are listed, and its request is asked
abbrev listed_state : State → List Enrolment → State
listed_state s newly_enrolled = record s { world = with_operators s.world newly_enrolled }

module _ (H : Type 0) (h : H) (newly_enrolled : List Enrolment) (moment : ℤ) (request : List ℕ) (s : State)
    (w listed : DeskWorld) (small : AreEnrolments newly_enrolled) (named : AreNamed newly_enrolled)
    (enrolled : AreEnrolled H newly_enrolled w listed) (range : IsMoment moment) (at : IsPlayedTo s w) where
  listed_world : (listed_state s newly_enrolled).world ≡ listed
  listed_world = ap (λ v. with_operators v newly_enrolled) at.world ∙ sym (all_enrolled H h newly_enrolled w listed enrolled)

  asked_world : world_after (listed_state s newly_enrolled).world (pos (nat_abs moment)) (asked request)
      ≡ world_after listed moment (asked request)
  asked_world = ap (λ m. world_after (listed_state s newly_enrolled).world m (asked request)) (same_second moment range)
      ∙ ap (λ v. world_after v moment (asked request)) listed_world

  asked_played : played s (map operator_entry newly_enrolled ++ request_entry (nat_abs moment) request ∷ [])
      ≡ Ok (asked_of (listed_state s newly_enrolled) (nat_abs moment) request)
  asked_played = played_then s (listed_state s newly_enrolled) (map operator_entry newly_enrolled)
      (request_entry (nat_abs moment) request ∷ []) (news_played s newly_enrolled at.begun small named)
      ∙ played_one (listed_state s newly_enrolled) (asked_of (listed_state s newly_enrolled) (nat_abs moment) request)
      (request_entry (nat_abs moment) request)
      (is_asked (listed_state s newly_enrolled) (nat_abs moment) request at.begun at.answered (low_second moment range))

-- the answer of a connection is lost: it is the last
lost_end : (H : Type 0) (h : H) (x : Exchange) (n : Noted) (now : Option Recorded) (moment : ℤ)
    (request : List ℕ) (s : State) (w listed left : DeskWorld) → AreEnrolments x.newly_enrolled → AreNamed x.newly_enrolled
    → AreEnrolled H x.newly_enrolled w listed → IsMoment moment → IsPlayedTo s w
    → now ≡ Some (Ended (with_request (with_news n x.newly_enrolled) moment request).text)
    → IsLeft listed moment request left → Next left moment request x
    → EndsPlayed n now (x ∷ []) None s left
lost_end H h x n now moment [] s w listed left small named enrolled range at is (inl same) next = record {
  whole = [];
  others = x ∷ [];
  split = refl;
  few = omega arith;
  rest = map operator_entry x.newly_enrolled;
  m = with_news n x.newly_enrolled;
  text_is = refl;
  ends = inr (inl is);
  why = All-cons (IsUnanswered (with_news n x.newly_enrolled) now) x [] (inl is)
      (All-nil (IsUnanswered (with_news n x.newly_enrolled) now));
  left = listed_state s x.newly_enrolled;
  plays = news_played s x.newly_enrolled at.begun small named;
  newly_enrolled = [];
  moment = pos 0;
  request = [];
  behind = listed_world H h x.newly_enrolled moment [] s w listed small named enrolled range at ∙ sym same;
  finds = one_found x left [] (pos 0) [] (listed_state s x.newly_enrolled).world
      (listed_world H h x.newly_enrolled moment [] s w listed small named enrolled range at ∙ sym same)
      (λ found some. absurd (omega (arith, (next found some).0)));
}
lost_end H h x n now moment [] s w listed left small named enrolled range at is (inr one) next =
    absurd (omega (arith, one.0))
lost_end H h x n now moment (b ∷ request) s w listed left small named enrolled range at is
    (inl same) next = record {
      whole = [];
      others = x ∷ [];
      split = refl;
      few = omega arith;
      rest = map operator_entry x.newly_enrolled ++ request_entry (nat_abs moment) (b ∷ request) ∷ [];
      m = with_request (with_news n x.newly_enrolled) moment (b ∷ request);
      text_is = sym (entry_last n.text (map operator_entry x.newly_enrolled)
          (request_entry (nat_abs moment) (b ∷ request)));
      ends = inr (inl is);
      why = All-cons (IsUnanswered (with_request (with_news n x.newly_enrolled) moment (b ∷ request)) now) x [] (inl is)
          (All-nil (IsUnanswered (with_request (with_news n x.newly_enrolled) moment (b ∷ request)) now));
      left = asked_of (listed_state s x.newly_enrolled) (nat_abs moment) (b ∷ request);
      plays = asked_played H h x.newly_enrolled moment (b ∷ request) s w listed small named enrolled range at;
      newly_enrolled = [];
      moment = moment;
      request = b ∷ request;
      behind = asked_world H h x.newly_enrolled moment (b ∷ request) s w listed small named enrolled range at
          ∙ ap (λ v. world_after v moment (asked (b ∷ request))) (sym same);
      finds = one_found x left [] moment (b ∷ request) _
          (asked_world H h x.newly_enrolled moment (b ∷ request) s w listed small named enrolled range at
          ∙ ap (λ v. world_after v moment (asked (b ∷ request))) (sym same))
          (again_found x left moment b request _
          (asked_world H h x.newly_enrolled moment (b ∷ request) s w listed small named enrolled range at
          ∙ ap (λ v. world_after v moment (asked (b ∷ request))) (sym same)) next);
    }
lost_end H h x n now moment (b ∷ request) s w listed left small named enrolled range at is
    (inr one) next = record {
      whole = [];
      others = x ∷ [];
      split = refl;
      few = omega arith;
      rest = map operator_entry x.newly_enrolled ++ request_entry (nat_abs moment) (b ∷ request) ∷ [];
      m = with_request (with_news n x.newly_enrolled) moment (b ∷ request);
      text_is = sym (entry_last n.text (map operator_entry x.newly_enrolled)
          (request_entry (nat_abs moment) (b ∷ request)));
      ends = inr (inl is);
      why = All-cons (IsUnanswered (with_request (with_news n x.newly_enrolled) moment (b ∷ request)) now) x [] (inl is)
          (All-nil (IsUnanswered (with_request (with_news n x.newly_enrolled) moment (b ∷ request)) now));
      left = asked_of (listed_state s x.newly_enrolled) (nat_abs moment) (b ∷ request);
      plays = asked_played H h x.newly_enrolled moment (b ∷ request) s w listed small named enrolled range at;
      newly_enrolled = [];
      moment = pos 0;
      request = [];
      behind = asked_world H h x.newly_enrolled moment (b ∷ request) s w listed small named enrolled range at
          ∙ sym one.1;
      finds = one_found x left [] (pos 0) [] _
          (asked_world H h x.newly_enrolled moment (b ∷ request) s w listed small named enrolled range at ∙ sym one.1)
          (done_found x listed left moment (b ∷ request) _
          (asked_world H h x.newly_enrolled moment (b ∷ request) s w listed small named enrolled range at ∙ sym one.1)
          one.1 next);
    }

-- its answer says that the desk failed: it is the last
failed_end : (H : Type 0) (h : H) (x : Exchange) (n : Noted) (now : Option Recorded) (moment : ℤ)
    (request answer : List ℕ) (s : State) (w listed left : DeskWorld) → AreEnrolments x.newly_enrolled
    → AreNamed x.newly_enrolled → AreEnrolled H x.newly_enrolled w listed → IsMoment moment → IsPlayedTo s w
    → now ≡ Some (Open (with_answer (with_request (with_news n x.newly_enrolled) moment request) answer))
    → IsGivenUp listed request answer left → failure_at x.served ≢ None → Next left moment request x
    → EndsPlayed n now (x ∷ []) None s left
failed_end H h x n now moment [] answer s w listed left small named enrolled range at is given fails next =
    absurd (omega (arith, given.some))
failed_end H h x n now moment (b ∷ request) [] s w listed left small named enrolled range at is given
    fails next =
    absurd (omega (arith, subst (λ a. 0 < length a) (sym given.reported) (some_failure given.why)))
failed_end H h x n now moment (b ∷ request)
    (c ∷ answer) s w listed left small named enrolled range at is given fails next =
    let m = with_answer (with_request (with_news n x.newly_enrolled) moment (b ∷ request)) (c ∷ answer) in
    let request_is = request_entry (nat_abs moment) (b ∷ request) in
    let answer_is = answer_entry (nat_abs moment) (c ∷ answer) in
    let asked_state = asked_of (listed_state s x.newly_enrolled) (nat_abs moment) (b ∷ request) in
    let taken_so = failure_taken (listed_state s x.newly_enrolled) (nat_abs moment) (b ∷ request) given.why at.begun in
    let behind_is : taken_so.0.world ≡ world_after left moment (asked (b ∷ request)) =
    taken_so.2 ∙ asked_world H h x.newly_enrolled moment (b ∷ request) s w listed small named enrolled range at
    ∙ ap (λ v. world_after v moment (asked (b ∷ request))) (sym given.left) in
    record {
      whole = [];
      others = x ∷ [];
      split = refl;
      few = omega arith;
      rest = (map operator_entry x.newly_enrolled ++ request_is ∷ []) ++ answer_is ∷ [];
      m = m;
      text_is = sym (entry_last n.text (map operator_entry x.newly_enrolled ++ request_is ∷ []) answer_is
          ∙ ap (λ v. v ++ entry answer_is) (entry_last n.text (map operator_entry x.newly_enrolled) request_is));
      ends = inl is;
      why = All-cons (IsUnanswered m now) x [] (inr fails) (All-nil (IsUnanswered m now));
      left = taken_so.0;
      plays = played_then s asked_state (map operator_entry x.newly_enrolled ++ request_is ∷ []) (answer_is ∷ [])
          (asked_played H h x.newly_enrolled moment (b ∷ request) s w listed small named enrolled range at)
          ∙ played_one asked_state taken_so.0 answer_is
          (subst (λ a. taken asked_state (answer_entry (nat_abs moment) a) ≡ Ok taken_so.0) (sym given.reported)
          taken_so.1);
      newly_enrolled = [];
      moment = moment;
      request = b ∷ request;
      behind = behind_is;
      finds = one_found x left [] moment (b ∷ request) taken_so.0.world behind_is
          (again_found x left moment b request taken_so.0.world behind_is next);
    }

-- one that is answered, and then others
parts_then : (a b c d : List EntryParts) → (a ++ (b ++ c)) ++ d ≡ (a ++ b) ++ (c ++ d)
parts_then a b c d = append_assoc a (b ++ c) d ∙ ap (λ v. a ++ v) (append_assoc b c d)
    ∙ sym (append_assoc a b (c ++ d))

-- a certain answer leaves nothing else to be found
then_found : (x : Exchange) (xs : List Exchange) (last : Option (List Enrolment)) (after : DeskWorld)
    (found : Option World) → IsCertain x.served → IsFoundServed (x ∷ xs) last after found
    → IsFoundServed xs last after found
then_found x xs last after found certain (inl is) = inl is
then_found x xs last after found certain (inr (inl (inl some))) = absurd (some.0 certain)
then_found x xs last after found certain (inr (inl (inr more))) = inr (inl more)
then_found x xs last after found certain (inr (inr newly_enrolled)) = inr (inr newly_enrolled)

then_ends : (x : Exchange) (xs : List Exchange) (last : Option (List Enrolment)) (n k : Noted)
    (now : Option Recorded) (s : State) (v left : DeskWorld) → IsCertain x.served
    → AddsPlayed n k.text (map operator_entry x.newly_enrolled
    ++ pair_of x.arrival.moment (known x.arrival.bytes) (known x.parting.sent)) s v
    → ((t : State) → IsPlayedTo t v → EndsPlayed k now xs last t left)
    → EndsPlayed n now (x ∷ xs) last s left
then_ends x xs last n k now s v left certain first then =
    let more = then first.left first.now in
    let pair = pair_of x.arrival.moment (known x.arrival.bytes) (known x.parting.sent) in
    let front = map operator_entry x.newly_enrolled ++ pair in
    let same = parts_then (map operator_entry x.newly_enrolled) pair (entries_of more.whole) more.rest in
    record {
      whole = x ∷ more.whole;
      others = more.others;
      split = ap (λ ys. x ∷ ys) more.split;
      few = more.few;
      rest = more.rest;
      m = more.m;
      text_is = more.text_is ∙ ap (λ t. t ++ entries (entries_of more.whole ++ more.rest)) first.text_is
          ∙ append_assoc n.text (entries front) (entries (entries_of more.whole ++ more.rest))
          ∙ ap (λ t. n.text ++ t) (sym (entries_then front (entries_of more.whole ++ more.rest)))
          ∙ ap (λ es. n.text ++ entries es) (sym same);
      ends = more.ends;
      why = more.why;
      left = more.left;
      plays = ap (played s) same
          ∙ played_then s first.left front (entries_of more.whole ++ more.rest) first.plays ∙ more.plays;
      newly_enrolled = more.newly_enrolled;
      moment = more.moment;
      request = more.request;
      behind = more.behind;
      finds = λ found is. more.finds found (then_found x xs last left found certain is);
    }

-- ---- all of them

-- the last alone may have ended the desk
abbrev OnlyLast : List Exchange → Option (List Enrolment) → Type 0
OnlyLast [] last = ⊤
OnlyLast (x ∷ xs) last = ((failure_at x.served ≡ None) × OnlyLast xs last)
    ⊎ ((failure_at x.served ≢ None) × (xs ≡ []) × (last ≡ None))

some_not_none : (e : ErrorCode) (r : Option ErrorCode) → r ≡ Some e → r ≢ None
some_not_none e r is none = let never : Some e ≡ None = sym is ∙ none in cc

only_last : (done : Result ⊤ ErrorCode) (count : ℕ) (xs : List Exchange) (last : Option (List Enrolment))
    → EndsAfter done count xs last → OnlyLast xs last
only_last (Ok d) count xs last ends = on xs ends.1
  where
    on : (ys : List Exchange) → All (λ x. failure_at x.served ≡ None) ys → OnlyLast ys last
    on [] all = tt
    on (y ∷ ys) all = inl (
      All-head (λ x. failure_at x.served ≡ None) y ys all,
      on ys (All-tail (λ x. failure_at x.served ≡ None) y ys all),
    )
only_last (Err f) count xs last ends = by xs ends
  where
    by : (ys : List Exchange) → EndsDeskBy f ys last → OnlyLast ys last
    by [] ends = tt
    by (y ∷ ys) (inl on) = inl (on.0, by ys on.1)
    by (y ∷ ys) (inr end) = inr (some_not_none f (failure_at y.served) end.0, end.1, end.2)

lost_last : (text : List ℕ) (xs : List Exchange) (last : Option (List Enrolment)) (now : Option Recorded)
    → AreNoted (Some (Ended text)) xs last now → (xs ≡ []) × (last ≡ None) × (now ≡ Some (Ended text))
lost_last text [] None now noted = (refl, refl, noted)
lost_last text [] (Some newly_enrolled) now noted = absurd noted.1
lost_last text (x ∷ xs) last now noted = absurd noted.3.newly_enrolled

last_left : (H : Type 0) (done : Result ⊤ ErrorCode) (xs : List Exchange) (last : Option (List Enrolment))
    (v between left : DeskWorld) → xs ≡ [] → last ≡ None → AreServed H xs v between
    → IsLastEnrolments H last done between left → left ≡ v
last_left H done [] None v between left empty without served is = is ∙ served
last_left H done [] (Some newly_enrolled) v between left empty without served is = cc
last_left H done (x ∷ xs) last v between left empty without served is = cc

module _ (H : Type 0) (h : H) (Ends : (request rest : List ℕ) → IsRequest request
    → request_len (request ++ rest) ≡ Some (length request)) where
  one_ends : (x : Exchange) (xs : List Exchange) (last : Option (List Enrolment)) (done : Result ⊤ ErrorCode)
      (n : Noted) (answered now : Option Recorded) (s : State) (w listed v between left : DeskWorld)
      (request : List ℕ) → AreEnrolments x.newly_enrolled → AreNamed x.newly_enrolled → AreEnrolled H x.newly_enrolled w listed
      → IsMoment x.arrival.moment → (0 < length request → IsRequest request)
      → x.arrival.bytes ≡ Some request → x.out ≡ Some [] → x.parting.outcome ≡ outcome_of x.served
      → HasServed H x.served (passage_of x) listed x.arrival.moment v
      → IsAnswerRecorded (with_request (with_news n x.newly_enrolled) x.arrival.moment request) answered x.parting.sent
      x.parting.outcome.is_answered
      ⊎ (answered ≡ Some (Ended (with_request (with_news n x.newly_enrolled) x.arrival.moment request).text))
      → IfSome answered (λ recorded. failure_at x.served ≢ None → now ≡ answered)
      → AreNoted answered xs last now → OnlyLast (x ∷ xs) last → AreServed H xs v between
      → IsLastEnrolments H last done between left
      → ((k : Noted) (t : State) → AreNoted (Some (Open k)) xs last now → OnlyLast xs last → IsPlayedTo t v
      → EndsPlayed k now xs last t left)
      → IsPlayedTo s w → EndsPlayed n now (x ∷ xs) last s left
  one_ends x xs last done n answered now s w listed v between left request small named enrolled range whole
      bytes out reported served (inl a) stays noted (inl on) others is rest at =
      let first = with_news n x.newly_enrolled in
      let then = with_answer (with_request first x.arrival.moment request) a.answer in
      then_ends x xs last n then now s v left (is_certain x.served on.0 (reported_whole x reported a.whole))
      (subst (λ b. AddsPlayed n then.text (map operator_entry x.newly_enrolled
      ++ pair_of x.arrival.moment (known b) (known x.parting.sent)) s v) (sym bytes)
      (subst (λ c. AddsPlayed n then.text (map operator_entry x.newly_enrolled
      ++ pair_of x.arrival.moment request (known c)) s v) (sym a.known)
      (both_played n first then (map operator_entry x.newly_enrolled)
      (pair_of x.arrival.moment request a.answer) s listed v
      (news_added H h n x.newly_enrolled s w listed small named enrolled at)
      (λ t here. pair_added first x.arrival.moment request a.answer t listed v range
      (are_asked H h Ends x.served request a.answer x.parting.unread listed x.arrival.moment v on.0
      (reported_whole x reported a.whole) whole
      (served_known H h Ends x listed v request a.answer bytes out a.known served)) here))))
      (λ t here. rest then t (subst (λ r. AreNoted r xs last now) a.added noted) on.1 here)
  one_ends x xs last done n answered now s w listed v between left request small named enrolled range whole
      bytes out reported served (inl a) stays noted (inr end) others is rest at =
      let same : left ≡ v = last_left H done xs last v between left end.1 end.2 others is in
      let now_is = subst (λ r. IfSome r (λ recorded. failure_at x.served ≢ None
      → now ≡ r)) a.added stays end.0 in
      subst (λ ys. EndsPlayed n now (x ∷ ys) last s left) (sym end.1)
      (subst (λ l. EndsPlayed n now (x ∷ []) l s left) (sym end.2)
      (failed_end H h x n now x.arrival.moment request a.answer s w listed left small named enrolled range at
      now_is (subst (IsGivenUp listed request a.answer) (sym same)
      (is_given_up H Ends x.served request a.answer x.parting.unread listed x.arrival.moment v end.0
      (reported_whole x reported a.whole) whole
      (served_known H h Ends x listed v request a.answer bytes out a.known served))) end.0
      (left_next Ends x request left bytes whole)))
  one_ends x xs last done n answered now s w listed v between left request small named enrolled range whole
      bytes out reported served (inr lost) stays noted only others is rest at =
      let end = lost_last (with_request (with_news n x.newly_enrolled) x.arrival.moment request).text xs last now
      (subst (λ r. AreNoted r xs last now) lost noted) in
      let same : left ≡ v = last_left H done xs last v between left end.0 end.1 others is in
      subst (λ ys. EndsPlayed n now (x ∷ ys) last s left) (sym end.0)
      (subst (λ l. EndsPlayed n now (x ∷ []) l s left) (sym end.1)
      (lost_end H h x n now x.arrival.moment request s w listed left small named enrolled range at end.2
      (subst (IsLeft listed x.arrival.moment request) (sym same)
      (is_left H h Ends x.served request x.parting.unread x.out x.parting.sent listed x.arrival.moment v whole
      (subst (λ b. HasServed H x.served (passed b x.parting.unread x.out x.parting.sent) listed
      x.arrival.moment v) bytes served))) (left_next Ends x request left bytes whole)))

  pub all_end : (xs : List Exchange) (last : Option (List Enrolment)) (done : Result ⊤ ErrorCode) (n : Noted)
      (now : Option Recorded) (s : State) (w between left : DeskWorld) → AreNoted (Some (Open n)) xs last now
      → AreServed H xs w between → IsLastEnrolments H last done between left → OnlyLast xs last
      → All (λ x. x.parting.outcome ≡ outcome_of x.served) xs → IsPlayedTo s w
      → EndsPlayed n now xs last s left
  all_end [] None done n now s w between left noted served is only reported at =
      none_ends n now s w left noted (is ∙ served) at
  all_end [] (Some newly_enrolled) done n now s w between left noted served is only reported at =
      last_news_end H h done n now newly_enrolled s w left
      (subst (λ v. IsLastEnrolments H (Some newly_enrolled) done v left) served is) noted.1.0 noted.1.1
      (subst (λ r. RecordsNone r now) noted.1.2 noted.2) at
  all_end (x ∷ xs) last done n now s w between left noted served is only reported at =
      let newly_enrolled = noted.3.newly_enrolled in
      let request : IsRecorded (with_news n x.newly_enrolled) noted.1 x.arrival.moment x.arrival.bytes =
      subst (λ r. RecordsRequest r noted.1 x.arrival.moment x.arrival.bytes) newly_enrolled.2 noted.3.request in
      one_ends x xs last done n noted.2 now s w served.0 served.1 between left request.request newly_enrolled.0 newly_enrolled.1
      served.2 request.range request.whole request.known
      (subst (λ r. IfSome r (λ _. x.out ≡ Some [])) newly_enrolled.2 noted.3.unsent)
      (All-head (λ x. x.parting.outcome ≡ outcome_of x.served) x xs reported) served.3
      (subst (λ r. RecordsAnswer r noted.2 x.parting.sent x.parting.outcome.is_answered) request.added
      noted.3.answer) noted.4 noted.5 only served.4 is
      (λ k t rest more here. all_end xs last done k now t served.1 between left rest served.4 is more
      (All-tail (λ x. x.parting.outcome ≡ outcome_of x.served) x xs reported) here) at

  -- connections that were taken, however they ended
  pub taken_end : (done : Result ⊤ ErrorCode) (count : ℕ) (port : Course Traffic) (w left : DeskWorld)
      (n : Noted) (s : State) → (taken : AreTaken {A = ⊤} H done count port w left)
      → port.before.recorded ≡ Some (Open n) → IsPlayedTo s w
      → EndsPlayed n port.after.recorded taken.exchanges taken.last s left
  taken_end done count port w left n s taken was at =
      all_end taken.exchanges taken.last done n port.after.recorded s w taken.between left
      (subst (λ r. AreNoted r taken.exchanges taken.last port.after.recorded) was taken.recorded) taken.served
      taken.untaken (only_last done count taken.exchanges taken.last taken.ends) taken.reported at

  -- and what is found then
  pub taken_found : (done : Result ⊤ ErrorCode) (count : ℕ) (port : Course Traffic) (w left : DeskWorld)
      (n : Noted) (s : State) (found : Option World) → (taken : AreTaken {A = ⊤} H done count port w left)
      → IsFoundServed taken.exchanges taken.last left found → port.before.recorded ≡ Some (Open n)
      → IsPlayedTo s w → EndsFound n port.after.recorded taken.exchanges taken.last s left found
  taken_found done count port w left n s found taken is was at =
      let ended = taken_end done count port w left n s taken was at in
      record { ended = ended; finds = ended.finds found is }
