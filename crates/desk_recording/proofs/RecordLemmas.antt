-- What is written down of connections, one after the other, is played again.
use Rattle.std.proofs.Common.{◌≡◌, ◌<◌, ◌⊎◌, ◌∙◌, ℕ, ℤ, pos, nat_abs, List, [], ◌∷◌, ◌++◌, All, map, length, true, Option, Some, None, IfSome, Ok, append-nil, append_assoc, ap, inl, inr, refl, subst, sym, arith}
use Rattle.std.specs.Prelude.{⊤}
use Rattle.std.proofs.lemmas.List.Elements.{All-head, All-tail}
use Rattle.io_ends.specs.Writing.{IsMoment}
use Rattle.desk_record.specs.Record.{EntryParts, entries, entry}
use Rattle.request_parser.specs.Requests.{asked}
use Rattle.desk_run.specs.Verdicts.{DeskWorld}
use Rattle.desk_wire.specs.Bytes.{text_for, world_after}
use Rattle.desk_wire.specs.Streams.{Course, passed, HasServed, IsRequest, request_len}
use Rattle.desk_cli.specs.Exits.{failure_at}
use Rattle.desk_cli.specs.Lines.{AreEnrolments}
use Rattle.desk_cli.specs.declared.line.Enrolment.{Enrolment}
use Rattle.desk_program.specs.Enrolling.{AreEnrolled, with_operators, AreNamed, Ended, IsAnswerRecorded, IsOpen, IsRecorded, Noted, Open, Recorded, RecordsAnswer, RecordsRequest, answer_entry, operator_entry, request_entry, with_answer, with_news, with_request}
use Rattle.desk_program.specs.Serving.{AreNoted, AreServed, AreTaken, Exchange, IsLastEnrolments, Traffic, is_answered, outcome_of, passage_of}
use Rattle.desk_replay.specs.Replaying.{State, played}
use Rattle.desk_recording.specs.Inputs.{AddsOpen, AddsPlayed, IsPlayedTo, entries_of, known, pair_of}
use Rattle.desk_recording.proofs.ExchangeLemmas.{AreAsked, are_asked, low_second, same_second, some_text}
use Rattle.desk_recording.proofs.PlayedLemmas.{after, entries_then, news_played, pair_played, played_then}

same_open : (n m : Noted) → Some (Open m) ≡ Some (Open n) → m ≡ n
same_open n m e = cc

-- nothing is added
none_played : (n m : Noted) (s : State) (w after : DeskWorld) → m ≡ n → after ≡ w → IsPlayedTo s w
    → AddsPlayed n m.text [] s after
unfolding played
none_played n m s w after same left now = record {
  text_is = ap (λ v. v.text) same ∙ sym (append-nil n.text);
  left = s;
  plays = refl;
  now = record { world = now.world ∙ sym left; begun = now.begun; answered = now.answered };
}

-- what is added, and then more
pub both_played : (n m k : Noted) (xs ys : List EntryParts) (s : State) (v w : DeskWorld)
    → AddsPlayed n m.text xs s v → ((t : State) → IsPlayedTo t v → AddsPlayed m k.text ys t w)
    → AddsPlayed n k.text (xs ++ ys) s w
both_played n m k xs ys s v w first then =
    let more = then first.left first.now in
    record {
      text_is = more.text_is ∙ ap (λ t. t ++ entries ys) first.text_is
          ∙ append_assoc n.text (entries xs) (entries ys)
          ∙ ap (λ t. n.text ++ t) (sym (entries_then xs ys));
      left = more.left;
      plays = played_then s first.left xs ys first.plays ∙ more.plays;
      now = more.now;
    }

-- enrolments are added
pub all_enrolled : (H : Type 0) (h : H) (es : List Enrolment) (w listed : DeskWorld)
    → AreEnrolled H es w listed
    → listed ≡ with_operators w es
all_enrolled H h [] w listed is = is
all_enrolled H h (e ∷ es) w listed is = is h

pub news_added : (H : Type 0) (h : H) (n : Noted) (es : List Enrolment) (s : State) (w listed : DeskWorld)
    → AreEnrolments es → AreNamed es → AreEnrolled H es w listed → IsPlayedTo s w
    → AddsPlayed n (with_news n es).text (map operator_entry es) s listed
news_added H h n es s w listed small named is now = record {
  text_is = refl;
  left = record s { world = with_operators s.world es };
  plays = news_played s es now.begun small named;
  now = record {
    world = ap (λ v. with_operators v es) now.world ∙ sym (all_enrolled H h es w listed is);
    begun = now.begun;
    answered = now.answered;
  };
}

-- a request and its answer are added, or nothing is
with_both : (n : Noted) (moment : ℤ) (request answer : List ℕ) → 0 < length request → 0 < length answer
    → (with_answer (with_request n moment request) answer).text ≡ n.text ++ entries (request_entry
    (nat_abs moment) request ∷ answer_entry (nat_abs moment) answer ∷ [])
with_both n moment [] answer some_request some_answer = absurd (omega (arith, some_request))
with_both n moment (b ∷ request) [] some_request some_answer = absurd (omega (arith, some_answer))
with_both n moment (b ∷ request) (c ∷ answer) some_request some_answer =
    append_assoc n.text (entry (request_entry (nat_abs moment) (b ∷ request)))
    (entry (answer_entry (nat_abs moment) (c ∷ answer)))
    ∙ ap (λ t. n.text ++ (entry (request_entry (nat_abs moment) (b ∷ request)) ++ t))
    (sym (append-nil (entry (answer_entry (nat_abs moment) (c ∷ answer)))))

pub pair_added : (n : Noted) (moment : ℤ) (request answer : List ℕ) (s : State) (w left : DeskWorld)
    → IsMoment moment → AreAsked w moment request answer left → IsPlayedTo s w
    → AddsPlayed n (with_answer (with_request n moment request) answer).text (pair_of moment request answer) s
    left
pair_added n moment [] answer s w left range (inl none) now =
    subst (λ a. AddsPlayed n (with_answer n a).text [] s left) (sym none.1)
    (none_played n n s w left refl none.2 now)
pair_added n moment [] answer s w left range (inr one) now = absurd (omega (arith, one.0))
pair_added n moment (b ∷ request) answer s w left range (inl none) now = let no = none.0 in cc
pair_added n moment (b ∷ request) answer s w left range (inr one) now =
    let second = same_second moment range in
    let reported : answer ≡ text_for s.world (pos (nat_abs moment)) (asked (b ∷ request)) =
    one.1 ∙ ap (λ m. text_for w m (asked (b ∷ request))) (sym second)
    ∙ ap (λ v. text_for v (pos (nat_abs moment)) (asked (b ∷ request))) (sym now.world) in
    record {
      text_is = with_both n moment (b ∷ request) answer one.0
          (subst (λ a. 0 < length a) (sym one.1) (some_text w moment (asked (b ∷ request))));
      left = after s (nat_abs moment) (b ∷ request);
      plays = subst (λ a. played s (request_entry (nat_abs moment) (b ∷ request)
          ∷ answer_entry (nat_abs moment) a ∷ []) ≡ Ok (after s (nat_abs moment) (b ∷ request))) (sym reported)
          (pair_played s (nat_abs moment) (b ∷ request) now.begun now.answered (low_second moment range));
      now = record {
        world = ap (λ m. world_after s.world m (asked (b ∷ request))) second
            ∙ ap (λ v. world_after v moment (asked (b ∷ request))) now.world ∙ sym one.2;
        begun = now.begun;
        answered = refl;
      };
    }

-- ---- connections

-- once a record has ended, nothing is added, and it isn't open again
not_opened : (text : List ℕ) (xs : List Exchange) (last : Option (List Enrolment)) (m : Noted)
    → AreNoted (Some (Ended text)) xs last (Some (Open m)) → ⊥
not_opened text [] None m noted = cc
not_opened text [] (Some newly_enrolled) m noted = noted.1
not_opened text (x ∷ xs) last m noted = noted.3.newly_enrolled

-- what was recorded stays known
abbrev IsKnown : Option Recorded → Type 0
IsKnown now = (r : Recorded) × (now ≡ Some r)

stays_known : (xs : List Exchange) (r : Recorded) (now : Option Recorded) → AreNoted (Some r) xs None now
    → IsKnown now
stays_known [] (Ended text) now same = (Ended text, same)
stays_known [] (Open n) now (inl same) = (Open n, same)
stays_known [] (Open n) now (inr cut) =
    (Ended (with_request (with_news n cut.newly_enrolled) cut.moment cut.request).text, cut.ended)
stays_known (x ∷ xs) (Ended text) now noted = absurd noted.3.newly_enrolled
stays_known (x ∷ xs) (Open n) now noted =
    let asked : IsRecorded (with_news n x.newly_enrolled) noted.1 x.arrival.moment x.arrival.bytes =
    subst (λ r. RecordsRequest r noted.1 x.arrival.moment x.arrival.bytes) noted.3.newly_enrolled.2 noted.3.request in
    by (with_request (with_news n x.newly_enrolled) x.arrival.moment asked.request) (subst (λ r. RecordsAnswer r noted.2
    x.parting.sent x.parting.outcome.is_answered) asked.added noted.3.answer)
    (λ r is. stays_known xs r now (subst (λ v. AreNoted v xs None now) is noted.5)) where
      by : (k : Noted) → IsAnswerRecorded k noted.2 x.parting.sent x.parting.outcome.is_answered
          ⊎ (noted.2 ≡ Some (Ended k.text)) → ((r : Recorded) → noted.2 ≡ Some r → IsKnown now) → IsKnown now
      by k (inl a) more = more (Open (with_answer k a.answer)) a.added
      by k (inr ended) more = more (Ended k.text) ended

-- and if the record hasn't ended, more is recorded
stays_open : (xs : List Exchange) (r : Recorded) (now : Option Recorded) → AreNoted (Some r) xs None now
    → IsOpen now → (m : Noted) × (now ≡ Some (Open m))
stays_open xs r None noted is =
    let known = (stays_known xs r None noted).1 in cc
stays_open xs r (Some (Open m)) noted is = (m, refl)
stays_open xs r (Some (Ended text)) noted is = absurd is

pub reported_whole : (x : Exchange) → x.parting.outcome ≡ outcome_of x.served
    → x.parting.outcome.is_answered ≡ true
    → is_answered x.served ≡ true
reported_whole x reported whole = sym (ap (λ o. o.is_answered) reported) ∙ whole

-- a desk that goes on has listed the operators of all news
none_last : (H : Type 0) (last : Option (List Enrolment)) (w left : DeskWorld)
    → IsLastEnrolments {A = ⊤} H last (Ok tt) w left → (last ≡ None) × (left ≡ w)
none_last H None w left is = (refl, is)
none_last H (Some newly_enrolled) w left is = absurd is

module _ (H : Type 0) (h : H) (Ends : (request rest : List ℕ) → IsRequest request
    → request_len (request ++ rest) ≡ Some (length request)) where
  -- what is known of the bytes of a connection
  pub served_known : (x : Exchange) (w left : DeskWorld) (request answer : List ℕ)
      → x.arrival.bytes ≡ Some request → x.out ≡ Some [] → x.parting.sent ≡ Some answer
      → HasServed H x.served (passage_of x) w x.arrival.moment left
      → HasServed H x.served (passed (Some request) x.parting.unread (Some []) (Some answer)) w
      x.arrival.moment left
  served_known x w left request answer bytes out sent served =
      subst (λ b. HasServed H x.served (passed b x.parting.unread (Some []) (Some answer)) w x.arrival.moment
      left) bytes
      (subst (λ o. HasServed H x.served (passed x.arrival.bytes x.parting.unread o (Some answer)) w
      x.arrival.moment left) out
      (subst (λ v. HasServed H x.served (passed x.arrival.bytes x.parting.unread x.out v) w x.arrival.moment
      left) sent served))

  -- one connection, and then others
  one_then : (x : Exchange) (xs : List Exchange) (n m : Noted) (s : State) (w listed between left : DeskWorld)
      (answered : Option Recorded) (request : List ℕ) → AreEnrolments x.newly_enrolled → AreNamed x.newly_enrolled
      → AreEnrolled H x.newly_enrolled w listed → IsMoment x.arrival.moment → (0 < length request → IsRequest request)
      → x.arrival.bytes ≡ Some request → x.out ≡ Some [] → failure_at x.served ≡ None
      → x.parting.outcome ≡ outcome_of x.served
      → HasServed H x.served (passage_of x) listed x.arrival.moment between
      → IsAnswerRecorded (with_request (with_news n x.newly_enrolled) x.arrival.moment request) answered x.parting.sent
      x.parting.outcome.is_answered
      ⊎ (answered ≡ Some (Ended (with_request (with_news n x.newly_enrolled) x.arrival.moment request).text))
      → AreNoted answered xs None (Some (Open m))
      → ((k : Noted) (t : State) → AreNoted (Some (Open k)) xs None (Some (Open m)) → IsPlayedTo t between
      → AddsPlayed k m.text (entries_of xs) t left)
      → IsPlayedTo s w → AddsPlayed n m.text (entries_of (x ∷ xs)) s left
  one_then x xs n m s w listed between left answered request small named enrolled range whole bytes out none
      reported served (inl a) noted rest now =
      let first = with_news n x.newly_enrolled in
      let then = with_answer (with_request first x.arrival.moment request) a.answer in
      subst (λ b. AddsPlayed n m.text (map operator_entry x.newly_enrolled
      ++ (pair_of x.arrival.moment (known b) (known x.parting.sent) ++ entries_of xs)) s left) (sym bytes)
      (subst (λ v. AddsPlayed n m.text (map operator_entry x.newly_enrolled
      ++ (pair_of x.arrival.moment request (known v) ++ entries_of xs)) s left) (sym a.known)
      (both_played n first m (map operator_entry x.newly_enrolled)
      (pair_of x.arrival.moment request a.answer ++ entries_of xs) s listed left
      (news_added H h n x.newly_enrolled s w listed small named enrolled now)
      (λ t at. both_played first then m (pair_of x.arrival.moment request a.answer) (entries_of xs) t between
      left (pair_added first x.arrival.moment request a.answer t listed between range
      (are_asked H h Ends x.served request a.answer x.parting.unread listed x.arrival.moment between none
      (reported_whole x reported a.whole) whole
      (served_known x listed between request a.answer bytes out a.known served)) at)
      (λ u here. rest then u (subst (λ r. AreNoted r xs None (Some (Open m))) a.added noted) here))))
  one_then x xs n m s w listed between left answered request small named enrolled range whole bytes out none
      reported served (inr ended) noted rest now =
      absurd (not_opened (with_request (with_news n x.newly_enrolled) x.arrival.moment request).text xs None m
      (subst (λ r. AreNoted r xs None (Some (Open m))) ended noted))

  pub all_added : (xs : List Exchange) (n m : Noted) (s : State) (w left : DeskWorld)
      → AreNoted (Some (Open n)) xs None (Some (Open m)) → AreServed H xs w left
      → All (λ x. failure_at x.served ≡ None) xs → All (λ x. x.parting.outcome ≡ outcome_of x.served) xs
      → IsPlayedTo s w → AddsPlayed n m.text (entries_of xs) s left
  all_added [] n m s w left (inl same) served none reported now =
      none_played n m s w left (same_open n m same) served now
  all_added [] n m s w left (inr cut) served none reported now =
      let never : Some (Open m) ≡ Some (Ended (with_request
      (with_news n cut.newly_enrolled) cut.moment cut.request).text)
      = cut.ended in cc
  all_added (x ∷ xs) n m s w left noted served none reported now =
      let newly_enrolled = noted.3.newly_enrolled in
      let request : IsRecorded (with_news n x.newly_enrolled) noted.1 x.arrival.moment x.arrival.bytes =
      subst (λ r. RecordsRequest r noted.1 x.arrival.moment x.arrival.bytes) newly_enrolled.2 noted.3.request in
      one_then x xs n m s w served.0 served.1 left noted.2 request.request newly_enrolled.0 newly_enrolled.1 served.2
      request.range
      request.whole request.known (subst (λ r. IfSome r (λ _. x.out ≡ Some [])) newly_enrolled.2 noted.3.unsent)
      (All-head (λ x. failure_at x.served ≡ None) x xs none)
      (All-head (λ x. x.parting.outcome ≡ outcome_of x.served) x xs reported) served.3
      (subst (λ r. RecordsAnswer r noted.2 x.parting.sent x.parting.outcome.is_answered) request.added
      noted.3.answer) noted.5
      (λ k t rest at. all_added xs k m t served.1 left rest served.4
      (All-tail (λ x. failure_at x.served ≡ None) x xs none)
      (All-tail (λ x. x.parting.outcome ≡ outcome_of x.served) x xs reported) at) now

  -- connections that were taken
  pub taken_added : (count : ℕ) (port : Course Traffic) (w left : DeskWorld) (n : Noted) (s : State)
      → (taken : AreTaken {A = ⊤} H (Ok tt) count port w left) → port.before.recorded ≡ Some (Open n)
      → IsPlayedTo s w → AddsOpen n port.after.recorded (entries_of taken.exchanges) s left
  taken_added count port w left n s taken was now =
      let xs = taken.exchanges in
      let goes = none_last H taken.last taken.between left taken.untaken in
      let noted = subst (λ r. AreNoted r xs None port.after.recorded) was
      (subst (λ l. AreNoted port.before.recorded xs l port.after.recorded) goes.0 taken.recorded) in
      let here = stays_open xs (Open n) port.after.recorded noted
      (taken.stays_open (subst IsOpen (sym was) tt)) in
      record {
        m = here.0;
        is = here.1;
        adds = subst (AddsPlayed n here.0.text (entries_of xs) s) (sym goes.1)
            (all_added xs n here.0 s w taken.between
            (subst (AreNoted (Some (Open n)) xs None) here.1 noted) taken.served taken.ends.1 taken.reported now);
      }
