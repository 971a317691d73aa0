-- Laws of two runs of calls, with their proofs: what an operator is answered, and what it owns.
use Rattle.std.proofs.Common.{◌≡◌, ℕ, true, List, [], ◌∷◌, refl, sym, ap, subst, ◌∙◌}
use Rattle.std.specs.List.{AllZip}
use Rattle.std.specs.Ordering.{is_eq}
use Rattle.std.proofs.lemmas.Map.Lookups.{exact_bytes}
use Rattle.desk_store.specs.World.{own, text_cmp}
use Rattle.desk_store.proofs.lemmas.Order.{is_equal}
use Rattle.desk_run.specs.Verdicts.{DeskWorld, Side, side, held_in, Reported, verdict, side_left, reported_to, step}
use Rattle.desk_run.specs.Calls.{reported_in, world_after_calls, OwnAlike, HoldAlike, beside, along, TimedCall, caller, world_after_call, calls_of, met_by_calls, AreCallsSameFor}
use Rattle.desk_run.proofs.lemmas.Step.{own_stays, others_stay}
use Rattle.desk_run.proofs.lemmas.Side.{everywhere, Levels, IsSeenBy, IsKeptBy, after_all, same_found, same_last}

pub same_name : (o name : List ℕ) → is_eq (text_cmp o name) ≡ true → o ≡ name
same_name o name e = exact_bytes o name (is_equal (text_cmp o name) e)

-- what is reported, and what is left to its operator, by its side and what others hold
abbrev pub report : Side → Levels → TimedCall → Reported
report mine levels call = (verdict mine.terms mine.own levels call.0 call.1.call).reported

abbrev pub keep : Side → Levels → TimedCall → Side
keep mine levels call = side_left mine levels call.0 call.1.call

abbrev pub reported_at : DeskWorld → TimedCall → Reported
reported_at w call = reported_to w call.1.operator call.0 call.1.call

pub seen : (o : List ℕ) → IsSeenBy caller o reported_at report
unfolding reported_to
seen o w call e =
    ap (λ name. (verdict w.terms (own w.content name) (held_in w name) call.0 call.1.call).reported)
    (sym (same_name o call.1.operator e))

pub kept : (o : List ℕ) → IsKeptBy caller o world_after_call keep
kept o = record {
  mine = mine;
  others = λ w call e. others_stay w call.1.operator o call.0 call.1.call e;
} where
  mine : IsSeenBy caller o (λ w call. side (world_after_call w call) o) keep
  mine w call e =
      subst (λ name. side (step w name call.0 call.1.call) o ≡ keep (side w o) (held_in w o) call)
      (same_name o call.1.operator e) (own_stays w o call.0 call.1.call)

-- a call of an operator to which two worlds look alike is answered the same
pub reported_alike : (v w : DeskWorld) (call : TimedCall) → OwnAlike call.1.operator v w
    → HoldAlike call.1.operator v w → reported_at v call ≡ reported_at w call
unfolding reported_to
reported_alike v w call own_same held_same = λ i.
    report (own_same i) (everywhere call.1.operator v w held_same i) call

reported_along : (w : DeskWorld) (calls : List TimedCall) → reported_in w calls
    ≡ along world_after_call reported_at w calls
reported_along w [] = refl
reported_along w (call ∷ calls) = ap (λ ts. reported_at w call ∷ ts) (reported_along (world_after_call w call) calls)

left_all : (w : DeskWorld) (calls : List TimedCall) → world_after_calls w calls
    ≡ after_all world_after_call w calls
left_all w [] = refl
left_all w (call ∷ calls) = left_all (world_after_call w call) calls

pub same_for : (o : List ℕ) (v w : DeskWorld) (calls others : List TimedCall) → OwnAlike o v w
    → calls_of o calls ≡ calls_of o others
    → AllZip (HoldAlike o) (met_by_calls o v calls) (met_by_calls o w others)
    → AreCallsSameFor o v calls w others
same_for o v w calls others own_same asked held = record {
  reported =
      ap (beside caller o calls) (reported_along v calls)
      ∙ same_found caller o world_after_call keep (kept o) reported_at report (seen o) v w calls others own_same
      asked held
      ∙ sym (ap (beside caller o others) (reported_along w others));
  owned = same_found caller o world_after_call keep (kept o) _ keep (kept o).mine v w calls others own_same
      asked held;
  at_end =
      ap (λ u. side u o) (left_all v calls)
      ∙ same_last caller o world_after_call keep (kept o) v w calls others own_same asked held
      ∙ sym (ap (λ u. side u o) (left_all w others));
}
