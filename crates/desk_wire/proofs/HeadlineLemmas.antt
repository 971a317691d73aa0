-- The answer to a request by what its operator owns and what others hold, at any place of a list.
use Rattle.std.proofs.Common.{◌≡◌, ◌≢◌, ◌+◌, ℕ, zero, suc, ℤ, Bool, true, false, Option, None, Some, Ok, Err}
use Rattle.std.proofs.Common.{List, [], ◌∷◌, length, refl, sym, ap, ◌∙◌, arith}
use Rattle.std.specs.List.{AllZip, slice_get}
use Rattle.std.specs.Ordering.{is_eq}
use Rattle.desk_rules.specs.declared.call.Asked.{Asked}
use Rattle.desk_store.specs.World.{text_cmp}
use Rattle.desk_run.specs.Verdicts.{DeskWorld, Side, side, held_in, side_left, step}
use Rattle.request_parser.specs.Messages.{Reading}
use Rattle.request_parser.specs.Requests.{asked}
use Rattle.desk_run.specs.Calls.{OwnAlike, HoldAlike, is_from, beside, along}
use Rattle.desk_run.proofs.lemmas.Side.{Levels, IsSeenBy, IsKeptBy, after_all, everywhere}
use Rattle.desk_run.proofs.lemmas.Side.{same_found, same_last, quiet_is}
use Rattle.desk_run.proofs.lemmas.Step.{own_stays, others_stay}
use Rattle.desk_run.proofs.lemmas.TwoRun.{report, keep, seen, kept, same_name, reported_alike}
use Rattle.desk_wire.specs.declared.refusal.Refusal.TheVariants.{Fault}
use Rattle.desk_wire.specs.Bytes.{text, text_for, world_after, refusal_text, Sent, answers_to, world_left}
use Rattle.desk_wire.specs.Headline.{operator_in, sender, LookAlike, OwnsAlike, world_at, Headline}
use Rattle.desk_wire.specs.Given.{left, requests_of, met_by, IsSameFor}

-- the answer to what is asked, and what is left to its operator, by what the operator owns and what others
-- hold
abbrev report_by : Side → Levels → ℤ → Reading Asked → List ℕ
report_by mine levels moment (Ok a) = text (report mine levels (moment, a))
report_by mine levels moment (Err fault) = refusal_text (Fault fault)

abbrev keep_by : Side → Levels → ℤ → Reading Asked → Side
keep_by mine levels moment (Ok a) = keep mine levels (moment, a)
keep_by mine levels moment (Err fault) = mine

reported_by : (o : List ℕ) (w : DeskWorld) (moment : ℤ) (reading : Reading Asked)
    → is_from o (operator_in reading) ≡ true
    → text_for w moment reading ≡ report_by (side w o) (held_in w o) moment reading
reported_by o w moment (Ok a) e = ap text (seen o w (moment, a) e)
reported_by o w moment (Err fault) e = cc

kept_by : (o : List ℕ) (w : DeskWorld) (moment : ℤ) (reading : Reading Asked)
    → is_from o (operator_in reading) ≡ true
    → side (world_after w moment reading) o ≡ keep_by (side w o) (held_in w o) moment reading
kept_by o w moment (Ok a) e = (kept o).mine w (moment, a) e
kept_by o w moment (Err fault) e = refl

others_by : (o : List ℕ) (w : DeskWorld) (moment : ℤ) (reading : Reading Asked)
    → is_from o (operator_in reading) ≡ false → OwnAlike o (world_after w moment reading) w
others_by o w moment (Ok a) e = (kept o).others w (moment, a) e
others_by o w moment (Err fault) e = refl

-- the same of requests
abbrev report_sent : Side → Levels → Sent → List ℕ
report_sent mine levels r = report_by mine levels r.0 (asked r.1)

abbrev keep_sent : Side → Levels → Sent → Side
keep_sent mine levels r = keep_by mine levels r.0 (asked r.1)

abbrev text_at : DeskWorld → Sent → List ℕ
text_at w r = text_for w r.0 (asked r.1)

seen_sent : (o : List ℕ) → IsSeenBy sender o text_at report_sent
seen_sent o w r e = reported_by o w r.0 (asked r.1) e

kept_sent : (o : List ℕ) → IsKeptBy sender o left keep_sent
kept_sent o = record {
  mine = λ w r e. kept_by o w r.0 (asked r.1) e;
  others = λ w r e. others_by o w r.0 (asked r.1) e;
}

answers_along : (w : DeskWorld) (rs : List Sent) → answers_to w rs ≡ along left text_at w rs
answers_along w [] = refl
answers_along w (r ∷ rs) = ap (λ xs. text_at w r ∷ xs) (answers_along (left w r) rs)

left_all : (w : DeskWorld) (rs : List Sent) → world_left w rs ≡ after_all left w rs
left_all w [] = refl
left_all w (r ∷ rs) = left_all (left w r) rs

pub same_for : (o : List ℕ) (v w : DeskWorld) (rs ss : List Sent) → OwnAlike o v w
    → requests_of o rs ≡ requests_of o ss → AllZip (HoldAlike o) (met_by o v rs) (met_by o w ss)
    → IsSameFor o v rs w ss
same_for o v w rs ss mine asked held = record {
  answers =
      ap (beside sender o rs) (answers_along v rs)
      ∙ same_found sender o left keep_sent kept text_at report_sent (seen_sent o) v w rs ss mine asked held
      ∙ sym (ap (beside sender o ss) (answers_along w ss));
  owned = same_found sender o left keep_sent kept _ keep_sent kept.mine v w rs ss mine asked held;
  at_end =
      ap (λ u. side u o) (left_all v rs)
      ∙ same_last sender o left keep_sent kept v w rs ss mine asked held
      ∙ sym (ap (λ u. side u o) (left_all w ss));
} where
  kept : IsKeptBy sender o left keep_sent
  kept = kept_sent o

-- an operator that sends nothing owns what it did
pub quiet : (o : List ℕ) (w : DeskWorld) (rs : List Sent) → requests_of o rs ≡ [] → OwnAlike o
    (world_left w rs) w
quiet o w rs none =
    ap (λ u. side u o) (left_all w rs) ∙ quiet_is sender o left keep_sent (kept_sent o) w rs none

-- each request has an answer, that at the world before it
pub one_each : (w : DeskWorld) (rs : List Sent) → length (answers_to w rs) ≡ length rs
one_each w [] = refl
one_each w (r ∷ rs) = ap suc (one_each (left w r) rs)

pub answer_at : (w : DeskWorld) (rs : List Sent) (i : ℕ) (r : Sent) → slice_get rs i ≡ Some r
    → slice_get (answers_to w rs) i ≡ Some (text_at (world_at w rs i) r)
answer_at w [] i r e = cc
answer_at w (q ∷ rs) zero r e = let same : q ≡ r = cc in ap (λ s. Some (text_at w s)) same
answer_at w (q ∷ rs) (suc k) r e = answer_at (left w q) rs k r e

world_next : (w : DeskWorld) (rs : List Sent) (i : ℕ) (r : Sent) → slice_get rs i ≡ Some r
    → world_at w rs (i + 1) ≡ left (world_at w rs i) r
world_next w rs i r e =
    let next : i + 1 ≡ suc i = omega arith in
    ap (world_at w rs) next ∙ by_place w rs i e where
      by_place : (w : DeskWorld) (rs : List Sent) (i : ℕ) → slice_get rs i ≡ Some r
          → world_at w rs (suc i) ≡ left (world_at w rs i) r
      by_place w [] i e = cc
      by_place w (q ∷ rs) zero e = let same : q ≡ r = cc in ap (left w) same
      by_place w (q ∷ rs) (suc k) e = by_place (left w q) rs k e

-- worlds that look alike to the operator give the same answer, and leave it the same
pub same_text : (v w : DeskWorld) (moment : ℤ) (reading : Reading Asked) → LookAlike (operator_in reading) v w
    → text_for v moment reading ≡ text_for w moment reading
same_text v w moment (Ok a) alike = ap text (reported_alike v w (moment, a) alike.0 alike.1)
same_text v w moment (Err fault) alike = refl

same_left : (v w : DeskWorld) (moment : ℤ) (reading : Reading Asked) → LookAlike (operator_in reading) v w
    → OwnsAlike (operator_in reading) (world_after v moment reading) (world_after w moment reading)
same_left v w moment (Ok a) alike =
    own_stays v a.operator moment a.call
    ∙ (λ i. side_left (alike.0 i) (everywhere a.operator v w alike.1 i) moment a.call)
    ∙ sym (own_stays w a.operator moment a.call)
same_left v w moment (Err fault) alike = tt

-- the answer to a fault
fault_text : (v w : DeskWorld) (m n : ℤ) (reading : Reading Asked) → operator_in reading ≡ None
    → text_for v m reading ≡ text_for w n reading
fault_text v w m n (Ok a) nobody = cc
fault_text v w m n (Err fault) nobody = refl

-- whom the request does not name
unnamed : (o : List ℕ) (w : DeskWorld) (moment : ℤ) (reading : Reading Asked) → operator_in reading ≢ Some o
    → OwnAlike o (world_after w moment reading) w
unnamed o w moment (Ok a) other = by_test (is_eq (text_cmp o a.operator)) refl where
  by_test : (b : Bool) → is_eq (text_cmp o a.operator) ≡ b → OwnAlike o (step w a.operator moment a.call) w
  by_test true e = absurd (other (ap Some (sym (same_name o a.operator e))))
  by_test false e = others_stay w a.operator o moment a.call e
unnamed o w moment (Err fault) other = refl

pub headline : Headline
headline = record {
  each = one_each;
  decided = λ v w rs ss i j r e f alike.
      answer_at v rs i r e
      ∙ ap Some (same_text (world_at v rs i) (world_at w ss j) r.0 (asked r.1) alike)
      ∙ sym (answer_at w ss j r f);
  owned = λ v w rs ss i j r e f alike.
      owns_next (sender r) (world_next v rs i r e) (world_next w ss j r f)
      (same_left (world_at v rs i) (world_at w ss j) r.0 (asked r.1) alike);
  nobodys = λ v w rs ss i j r s e f same nobody.
      answer_at v rs i r e
      ∙ ap Some (fault_text (world_at v rs i) (world_at w ss j) r.0 s.0 (asked r.1) nobody
      ∙ ap (λ bytes. text_for (world_at w ss j) s.0 (asked bytes)) same)
      ∙ sym (answer_at w ss j s f);
  others = λ w rs i r o e other.
      ap (λ u. side u o) (world_next w rs i r e) ∙ unnamed o (world_at w rs i) r.0 (asked r.1) other;
} where
  owns_next : (name : Option (List ℕ)) {v v' w w' : DeskWorld} → v' ≡ v → w' ≡ w → OwnsAlike name v w
      → OwnsAlike name v' w'
  owns_next None left_v left_w h = tt
  owns_next (Some o) left_v left_w h = ap (λ u. side u o) left_v ∙ h ∙ sym (ap (λ u. side u o) left_w)
