-- What the clients of a port were sent, turn by turn, and what that leaves.
use Rattle.std.proofs.Common.{◌≡◌, ◌≢◌, ◌∙◌, ℕ, zero, suc, Bool, true, false, cond, List, [], ◌∷◌, ◌++◌, length, map, take, Option, None, Some, IfSome, Result, Ok, Err, All, Less, Equal, Greater, inl, inr, refl, ap, sym, subst}
use Rattle.std.specs.Prelude.{IsSome, option_and_then, option_map, option_to_list}
use Rattle.std.specs.Io.KnownBytes.{Appends, Keeps}
use Rattle.std.specs.List.{find, slice_get}
use Rattle.std.specs.Ordering.{is_eq, match_ordering}
use Rattle.std.specs.declared.cmp.Ordering.{Ordering}
use Rattle.std.proofs.lemmas.List.Elements.{All-head, All-tail, All-take}
use Rattle.std.proofs.Math.Seq.{take-length}
use Rattle.desk_store.specs.World.{Listed, World, ceiling_of, own, text_cmp}
use Rattle.desk_store.specs.Changes.{list_operator, with_operator}
use Rattle.request_parser.specs.Requests.{asked}
use Rattle.desk_run.specs.Verdicts.{DeskWorld, enrolled, side}
use Rattle.desk_run.specs.Calls.{OwnAlike}
use Rattle.desk_run.proofs.lemmas.TwoRun.{same_name}
use Rattle.io_ends.specs.declared.serving.Served.{Served}
use Rattle.io_ends.specs.declared.serving.Served.TheVariants.{Answered, End}
use Rattle.io_ends.specs.declared.serving.ServeFault.{ServeFault}
use Rattle.io_ends.specs.declared.serving.ServeFault.TheVariants.{Read, Write, CutShort, OutOfMemory}
use Rattle.desk_wire.specs.declared.response.ServerError.{ServerError}
use Rattle.desk_wire.specs.Bytes.{Sent, IsAnsweredSo, text_for}
use Rattle.desk_wire.specs.Headline.{LookAlike, sender}
use Rattle.desk_wire.specs.Streams.{HasServed, IsTaken, IsUntouched, Course, course}
use Rattle.desk_wire.proofs.HeadlineLemmas.{headline, same_text}
use Rattle.desk_cli.specs.declared.failure.ErrorCode.{ErrorCode}
use Rattle.desk_cli.specs.declared.line.Enrolment.{Enrolment}
use Rattle.desk_program.specs.Enrolling.{AreEnrolled, with_operators}
use Rattle.desk_program.specs.PortGiven.{IsWhole, AreTurns, HasTurns, IsGiven, IsSent, ListsLast, Sends, Turn, caller, left_by, sent_in, world_by, world_met}
use Rattle.desk_program.specs.Serving.{AreServed, AreTaken, Exchange, Grows, IsAskedToListen, IsLastEnrolments, Parting, Traffic, is_answered, outcome_of, passage_of}

-- ---- what one client was sent

sent_is : (out sent : Option (List ℕ)) (text : List ℕ) → out ≡ Some [] → Appends out sent text → sent ≡ Some text
sent_is out sent text fresh h = by sent (subst (λ o. Appends o sent text) fresh h) where
  by : (sent : Option (List ℕ)) → Appends (Some []) sent text → sent ≡ Some text
  by None g = absurd g
  by (Some bytes) g = ap Some g

unsent_is : (out sent : Option (List ℕ)) → out ≡ Some [] → Keeps out sent → sent ≡ Some []
unsent_is out sent fresh h = by sent (subst (λ o. Keeps o sent) fresh h) where
  by : (sent : Option (List ℕ)) → Keeps (Some []) sent → sent ≡ Some []
  by None g = absurd g
  by (Some bytes) g = ap Some g

abbrev turn_of : Exchange → Option (List ℕ) → Turn
turn_of x request =
    record { newly_enrolled = x.newly_enrolled; arrival = x.arrival; parting = x.parting; request = request }

-- the turn of an exchange, by the world just before its request
record IsTurn (w : DeskWorld) (x : Exchange) (between : DeskWorld) : Type 0 where
  request : Option (List ℕ)
  given : IsGiven w (turn_of x request) request
  left : between ≡ left_by w (sent_in (turn_of x request))

module _ (w : DeskWorld) (x : Exchange) (between : DeskWorld) where
  by_why : (why : Option ServerError) (request answer : List ℕ)
      → IsTaken x.arrival.bytes x.parting.unread request
      → IsAnsweredSo why w x.arrival.moment (asked request) answer between → Sends x.parting answer
      → IsTurn w x between
  by_why None request answer taken done sends = record {
    request = Some request;
    given = (taken, subst (Sends x.parting) done.reported sends);
    left = done.left;
  }
  by_why (Some why) request answer taken failed sends = record {
    request = None;
    given = inr (why, subst (Sends x.parting) failed.reported sends);
    left = failed.left;
  }

  by_none : x.out ≡ Some [] → IsUntouched x.out x.parting.sent w between → IsTurn w x between
  by_none fresh h = record {
    request = None;
    given = inl (unsent_is x.out x.parting.sent fresh h.written);
    left = h.left;
  }

  by_served : (H : Type 0) → H → (served : Result Served ServeFault)
      → x.parting.outcome.is_answered ≡ is_answered served → x.out ≡ Some []
      → HasServed H served (passage_of x) w x.arrival.moment between → IsTurn w x between
  by_served H p (Ok (Answered status framed)) reported fresh h =
      by_why h.why h.request h.answer h.taken (h.replied.reported p)
      (subst (λ whole. IsSent whole x.parting.sent h.answer) (sym reported)
      (sent_is x.out x.parting.sent h.answer fresh h.written))
  by_served H p (Ok End) reported fresh h = by_none fresh h.1
  by_served H p (Err (Write fault)) reported fresh h =
      by_why h.why h.request h.answer h.taken (h.replied.reported p)
      (subst (λ whole. IsSent whole x.parting.sent h.answer) (sym reported)
      (fault.sent, h.off.short, sent_is x.out x.parting.sent (take fault.sent h.answer) fresh h.off.written))
  by_served H p (Err CutShort) reported fresh h = by_none fresh h.1
  by_served H p (Err Read) reported fresh h = by_none fresh h
  by_served H p (Err OutOfMemory) reported fresh h = by_none fresh h

-- ---- what all of them were sent

-- the operators of news are listed
all_listed : (H : Type 0) → H → (es : List Enrolment) (w listed : DeskWorld) → AreEnrolled H es w listed
    → listed ≡ with_operators w es
all_listed H p [] w listed h = h
all_listed H p (e ∷ es) w listed h = h p

record InTurns (w : DeskWorld) (xs : List Exchange) (between : DeskWorld) : Type 0 where
  turns : List Turn
  arrivals : map (λ t. t.arrival) turns ≡ map (λ x. x.arrival) xs
  partings : map (λ t. t.parting) turns ≡ map (λ x. x.parting) xs
  newly_enrolled : map (λ t. t.newly_enrolled) turns ≡ map (λ x. x.newly_enrolled) xs
  given : (i : ℕ) (t : Turn) → slice_get turns i ≡ Some t → IsGiven (world_met w turns i t) t t.request
  left : between ≡ world_by w turns

one_more : (w listed mid between : DeskWorld) (x : Exchange) (xs : List Exchange)
    → listed ≡ with_operators w x.newly_enrolled → IsTurn listed x mid → InTurns mid xs between
    → InTurns w (x ∷ xs) between
one_more w listed mid between x xs is one rest = record {
  turns = t ∷ rest.turns;
  arrivals = ap (λ ys. x.arrival ∷ ys) rest.arrivals;
  partings = ap (λ ys. x.parting ∷ ys) rest.partings;
  newly_enrolled = ap (λ ys. x.newly_enrolled ∷ ys) rest.newly_enrolled;
  given = given;
  left = rest.left ∙ ap (λ v. world_by v rest.turns) next;
} where
  t : Turn
  t = turn_of x one.request

  next : mid ≡ left_by (with_operators w x.newly_enrolled) (sent_in t)
  next = one.left ∙ ap (λ v. left_by v (sent_in t)) is

  given : (i : ℕ) (u : Turn) → slice_get (t ∷ rest.turns) i ≡ Some u
      → IsGiven (world_met w (t ∷ rest.turns) i u) u u.request
  given zero u e =
      let same : t ≡ u = cc in
      subst (λ z. IsGiven (with_operators w z.newly_enrolled) z z.request) same
      (subst (λ v. IsGiven v t one.request) is one.given)
  given (suc k) u e =
      subst (λ v. IsGiven (with_operators (world_by v (take k rest.turns)) u.newly_enrolled) u u.request) next
      (rest.given k u e)

in_turns : (H : Type 0) → H → (xs : List Exchange) (w between : DeskWorld)
    → All (λ x. x.parting.outcome ≡ outcome_of x.served) xs → All (λ x. x.out ≡ Some []) xs
    → AreServed H xs w between → InTurns w xs between
in_turns H p [] w between reported fresh h = record {
  turns = [];
  arrivals = refl;
  partings = refl;
  newly_enrolled = refl;
  given = λ i t e. cc;
  left = h;
}
in_turns H p (x ∷ xs) w between reported fresh h =
    one_more w h.0 h.1 between x xs (all_listed H p x.newly_enrolled w h.0 h.2)
    (by_served h.0 x h.1 H p x.served
    (ap (λ o. o.is_answered) (All-head (λ z. z.parting.outcome ≡ outcome_of z.served) x xs reported))
    (All-head (λ z. z.out ≡ Some []) x xs fresh) h.3)
    (in_turns H p xs h.1 between (All-tail (λ z. z.parting.outcome ≡ outcome_of z.served) x xs reported)
    (All-tail (λ z. z.out ≡ Some []) x xs fresh) h.4)

-- at a port that reports what it closes nothing was sent before
all_fresh : (closed : Option (List Parting)) → IsSome closed → (xs : List Exchange)
    → All (λ x. IfSome closed (λ partings. x.out ≡ Some [])) xs → All (λ x. x.out ≡ Some []) xs
all_fresh None some xs h = let shut : IsSome {T = List Parting} None = some in cc
all_fresh (Some partings) some xs h = h

last_listed : {A : Type 0} (H : Type 0) → H → (last : Option (List Enrolment)) (done : Result A ErrorCode)
    (w after : DeskWorld) → IsLastEnrolments H last done w after → ListsLast last w after
last_listed H p None done w after h = h
last_listed H p (Some newly_enrolled) (Ok d) w after h = absurd h
last_listed H p (Some newly_enrolled) (Err f) w after (inl broken) =
    (broken.1.count, broken.1.left p)
last_listed H p (Some newly_enrolled) (Err f) w after (inr denied) =
    (length newly_enrolled, all_listed H p newly_enrolled w after denied.1 ∙ ap (with_operators w) (sym (take-length newly_enrolled)))

pub port_turns : {A : Type 0} (H : Type 0) (done : Result A ErrorCode) (count : ℕ) (port : Course Traffic)
    (w after : DeskWorld) → AreTaken H done count port w after → H → IsSome port.before.closed
    → HasTurns port w after
port_turns H done count port w after h p reports =
    let run = in_turns H p h.exchanges w h.between h.reported
    (all_fresh port.before.closed reports h.exchanges h.fresh) h.served in (
      run.turns,
      h.last,
      record {
        taken = subst (Grows port.before.taken port.after.taken) (sym run.arrivals) h.taken;
        closed = subst (Grows port.before.closed port.after.closed) (sym run.partings) h.closed;
        newly_enrolled = subst (λ newly_enrolled. Grows port.before.newly_enrolled port.after.newly_enrolled (newly_enrolled ++ option_to_list h.last))
            (sym run.newly_enrolled) h.newly_enrolled;
        given = run.given;
        left = subst (λ v. ListsLast h.last v after) run.left
            (last_listed H p h.last done h.between after h.untaken);
      },
    )

-- the turns since a port was asked to listen
pub listening_turns : (port : Course Traffic) (listening : Traffic) (number : ℕ) (w after : DeskWorld)
    → IsAskedToListen port.before listening number → HasTurns (course listening port.after) w after
    → HasTurns port w after
listening_turns port listening number w after is h = (
  h.0,
  h.1,
  record {
    taken = subst (λ old. Grows old port.after.taken (map (λ t. t.arrival) h.0)) is.1.1 h.2.taken;
    closed = subst (λ old. Grows old port.after.closed (map (λ t. t.parting) h.0)) is.1.2 h.2.closed;
    newly_enrolled = subst (λ old. Grows old port.after.newly_enrolled (map (λ t. t.newly_enrolled) h.0 ++ option_to_list h.1)) is.1.3 h.2.newly_enrolled;
    given = h.2.given;
    left = h.2.left;
  },
)

-- ---- equal bytes

-- what was sent of a request that was answered whole
sent_whole : (w : DeskWorld) (t : Turn) (r : Sent) → IsGiven w t t.request → IsWhole t r
    → t.parting.sent ≡ Some (text_for w r.0 (asked r.1))
sent_whole w t r h whole = by t.request refl h where
  by : (request : Option (List ℕ)) → t.request ≡ request → IsGiven w t request
      → t.parting.sent ≡ Some (text_for w r.0 (asked r.1))
  by None is g =
      let none : option_map (λ bytes. (t.arrival.moment, bytes)) None ≡ Some r =
      ap (option_map (λ bytes. (t.arrival.moment, bytes))) (sym is) ∙ whole.sent in
      cc
  by (Some bytes) is g =
      let same : Some (t.arrival.moment, bytes) ≡ Some r =
      ap (option_map (λ bytes. (t.arrival.moment, bytes))) (sym is) ∙ whole.sent in
      let both : (t.arrival.moment, bytes) ≡ r = cc in
      subst (λ whole. IsSent whole t.parting.sent (text_for w t.arrival.moment (asked bytes))) whole.answered
      g.1
      ∙ ap (λ s. Some (text_for w s.0 (asked s.1))) both

pub port_alike : (p q : Course Traffic) (v w v_after w_after : DeskWorld) (ts us : List Turn)
    (m n : Option (List Enrolment)) (i j : ℕ) (t u : Turn) (r : Sent)
    → AreTurns p v v_after ts m → AreTurns q w w_after us n
    → slice_get ts i ≡ Some t → slice_get us j ≡ Some u → IsWhole t r → IsWhole u r
    → LookAlike (sender r) (world_met v ts i t) (world_met w us j u) → t.parting.sent ≡ u.parting.sent
port_alike p q v w v_after w_after ts us m n i j t u r g h is there first then alike =
    sent_whole (world_met v ts i t) t r (g.given i t is) first
    ∙ ap Some (same_text (world_met v ts i t) (world_met w us j u) r.0 (asked r.1) alike)
    ∙ sym (sent_whole (world_met w us j u) u r (h.given j u there) then)

-- ---- who sent nothing

-- the ceiling of an operator that is not the one that is listed
module _ (o name : List ℕ) (ceiling : ℕ) (other : name ≢ o) where
  abbrev is_its : Listed → Bool
  is_its l = is_eq (text_cmp o l.name)

  other_test : (n : List ℕ) → name ≡ n → is_eq (text_cmp o n) ≡ false
  other_test n same = by (is_eq (text_cmp o n)) refl where
    by : (b : Bool) → is_eq (text_cmp o n) ≡ b → b ≡ false
    by true e = absurd (other (same ∙ sym (same_name o n e)))
    by false e = refl

  passed_over : (l : Listed) (ls : List Listed) → is_its l ≡ false → find is_its (l ∷ ls) ≡ find is_its ls
  passed_over l ls e = ap (λ b. cond b (Some l) (find is_its ls)) e

  found_still : (ls : List Listed) → find is_its (list_operator name ceiling ls) ≡ find is_its ls
  found_still [] = passed_over (record { name = name; ceiling = ceiling }) [] (other_test name refl)
  found_still (l ∷ ls) = by_order (text_cmp name l.name) refl (found_still ls) where
    new : Listed
    new = record { name = name; ceiling = ceiling }

    by_order : (n : Ordering) → text_cmp name l.name ≡ n
        → find is_its (list_operator name ceiling ls) ≡ find is_its ls
        → find is_its (match_ordering n (new ∷ l ∷ ls) (new ∷ ls) (l ∷ list_operator name ceiling ls))
        ≡ find is_its (l ∷ ls)
    by_order Less e ih = passed_over new (l ∷ ls) (other_test name refl)
    by_order Equal e ih =
        passed_over new ls (other_test name refl)
        ∙ sym (passed_over l ls (other_test l.name (same_name name l.name (ap is_eq e))))
    by_order Greater e ih = ap (cond (is_its l) (Some l)) ih

  own_still : (w : World) → own (with_operator w name ceiling) o ≡ own w o
  unfolding own with_operator ceiling_of
  own_still w = λ i. record {
    ceiling = option_map (λ l. l.ceiling) (found_still w.operators i);
    plans = (own w o).plans;
  }

  enrolled_other : (w : DeskWorld) → OwnAlike o (enrolled w name ceiling) w
  enrolled_other w = λ i. record { own = own_still w.content i; terms = w.terms }

module _ (o : List ℕ) where
  abbrev Spares : List Enrolment → Type 0
  Spares es = All (λ e. e.operator ≢ o) es

  news_quiet : (es : List Enrolment) (w : DeskWorld) → Spares es → OwnAlike o (with_operators w es) w
  news_quiet [] w h = refl
  news_quiet (e ∷ es) w h =
      news_quiet es (enrolled w e.operator e.ceiling) (All-tail (λ x. x.operator ≢ o) e es h)
      ∙ enrolled_other o e.operator e.ceiling (All-head (λ x. x.operator ≢ o) e es h) w

  sent_quiet : (w : DeskWorld) (sent : Option Sent) → option_and_then sender sent ≢ Some o
      → OwnAlike o (left_by w sent) w
  sent_quiet w None other = refl
  sent_quiet w (Some r) other = headline.others w (r ∷ []) 0 r o refl other

  last_quiet : (last : Option (List Enrolment)) (w after : DeskWorld) → All Spares (option_to_list last)
      → ListsLast last w after → OwnAlike o after w
  last_quiet None w after h left = ap (λ v. side v o) left
  last_quiet (Some newly_enrolled) w after h left =
      ap (λ v. side v o) left.1
      ∙ news_quiet (take left.0 newly_enrolled) w
      (All-take (λ x. x.operator ≢ o) left.0 newly_enrolled (All-head Spares newly_enrolled [] h))

  turns_quiet : (last : Option (List Enrolment)) (ts : List Turn) (w after : DeskWorld)
      → All (λ t. caller t ≢ Some o) ts → All Spares (map (λ t. t.newly_enrolled) ts ++ option_to_list last)
      → ListsLast last (world_by w ts) after → OwnAlike o after w
  turns_quiet last [] w after others h left = last_quiet last w after h left
  turns_quiet last (t ∷ ts) w after others h left =
      let listed = with_operators w t.newly_enrolled in
      let rest = map (λ t. t.newly_enrolled) ts ++ option_to_list last in
      turns_quiet last ts (left_by listed (sent_in t)) after
      (All-tail (λ z. caller z ≢ Some o) t ts others) (All-tail Spares t.newly_enrolled rest h) left
      ∙ sent_quiet listed (sent_in t) (All-head (λ z. caller z ≢ Some o) t ts others)
      ∙ news_quiet t.newly_enrolled w (All-head Spares t.newly_enrolled rest h)

pub port_quiet : (port : Course Traffic) (w after : DeskWorld) (turns : List Turn)
    (last : Option (List Enrolment)) (o : List ℕ) → AreTurns port w after turns last
    → All (λ t. caller t ≢ Some o) turns
    → All (All (λ e. e.operator ≢ o)) (map (λ t. t.newly_enrolled) turns ++ option_to_list last) → OwnAlike o after w
port_quiet port w after turns last o h others spared = turns_quiet o last turns w after others spared h.left
