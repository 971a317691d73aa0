-- What a desk answers one operator, by its side of the desk's world.
use Rattle.std.proofs.Common.{◌≡◌, ◌≢◌, ℕ, ℤ, List, [], ◌∷◌, map, Option, Some, None, Result, Ok, Err, refl, sym, ap, subst, ◌∙◌}
use Rattle.std.proofs.Common.{Less, Equal, Greater}
use Rattle.std.specs.Prelude.{IfSome, IsSome, OnOk, cond, is_some}
use Rattle.std.specs.Option.{unwrap_or}
use Rattle.std.specs.declared.cmp.Ordering.{Ordering}
use Rattle.std.specs.Ordering.{is_eq, match_ordering}
use Rattle.std.specs.List.{find}
use Rattle.std.specs.Cmp.Lexicographic.{nat_list_cmp_total}
use Rattle.std.proofs.lemmas.Cmp.{tied_itself}
use Rattle.volume4d.specs.Volume.{Point}
use Rattle.volume4d.specs.Sweep.{Spot}
use Rattle.desk_rules.specs.declared.call.Call.{Call}
use Rattle.desk_rules.specs.declared.call.Call.TheVariants as call
use Rattle.desk_rules.specs.declared.decide.Effect.TheVariants as effect
use Rattle.desk_rules.specs.declared.plan.PlanRow.{PlanRow}
use Rattle.desk_rules.specs.declared.plan.PutCall.{PutCall}
use Rattle.desk_rules.specs.declared.plan.States.{States}
use Rattle.desk_rules.specs.declared.terms.Terms.{Terms}
use Rattle.desk_rules.specs.declared.transition.Step.{Step}
use Rattle.desk_rules.specs.declared.transition.Step.TheVariants.{Refuse, Check, Report, Shut, Keep}
use Rattle.desk_rules.specs.declared.words.Note.{Note}
use Rattle.desk_rules.specs.declared.words.Note.TheVariants as note
use Rattle.desk_rules.specs.declared.words.PlanResult.TheVariants as result
use Rattle.desk_rules.specs.declared.words.PlanStatus.TheVariants as status
use Rattle.desk_rules.specs.declared.words.Style.{Style}
use Rattle.desk_rules.specs.declared.words.Style.TheVariants as style
use Rattle.desk_rules.specs.Outcome.{outcome_under, refused_result, step_effect, step_status, styled_effect, verdict_from, step_from, ReplyParts}
use Rattle.desk_rules.specs.Outcome as said
use Rattle.desk_store.specs.Changes.{put_row}
use Rattle.desk_store.specs.World.{Own, ceiling_of, has_id, own, stored_of, text_cmp}
use Rattle.desk_run.specs.declared.fault.DeskFault.{DeskFault}
use Rattle.desk_run.specs.Calls.{fault_in, HoldAlike, OwnAlike}
use Rattle.desk_run.specs.Verdicts.{DeskWorld, held_in, side, Reported, enrolled_ruling, plans_left, put_outcome, replied, row_asked, ruling_under, shown_plan, side_left, step, reported_to, verdict, world_with_plans}
use Rattle.desk_run.proofs.lemmas.Side.{everywhere}
use Rattle.desk_run.proofs.lemmas.Step.{own_stays}
use Rattle.desk_examples.specs.Desks.{IsPlanListed, IsPlanned, rows_in}

-- what is said in what is reported, if something is
abbrev pub said_of : Reported → ReplyParts
said_of (replied reply) = reply
said_of Reported.unknown_operator = said.ready
said_of Reported.no_such_plan = said.ready

same_reported :
    (v w : DeskWorld) (o : List ℕ) (moment : ℤ) (asked : Call) → OwnAlike o v w → HoldAlike o v w
    → reported_to v o moment asked ≡ reported_to w o moment asked
unfolding reported_to
same_reported v w o moment asked own_same held_same =
    λ i. (verdict (own_same i).terms (own_same i).own (everywhere o v w held_same i) moment asked).reported

-- what an operator is answered at two desks that look alike to it
pub same_reply :
    (v w : DeskWorld) (o : List ℕ) (moment : ℤ) (asked : Call) {one other : ReplyParts} → OwnAlike o v w
    → HoldAlike o v w → reported_to v o moment asked ≡ replied one → reported_to w o moment asked ≡ replied other
    → one ≡ other
same_reply v w o moment asked own_same held_same reported too =
    ap said_of (sym reported ∙ same_reported v w o moment asked own_same held_same ∙ too)

-- ---- a question

no_effect :
    (asked : PutCall) (stored : Option States) (conflict : Option Spot) (n : Option Note)
    → asked.style ≡ style.Hypothetical → (verdict_from asked stored conflict n).effect ≡ effect.Nothing
no_effect asked stored conflict (Some n) is = refl
no_effect asked stored conflict None is =
    ap (λ s. styled_effect s (step_effect (step_from stored asked))) is

-- a question leaves a desk's world as it was
pub nothing_changed :
    (w : DeskWorld) (o : List ℕ) (moment : ℤ) (asked : PutCall) → asked.style ≡ style.Hypothetical
    → step w o moment (call.Put asked) ≡ w
unfolding step verdict own enrolled_ruling put_outcome outcome_under
nothing_changed w o moment asked is =
    ap (λ v. record w { content = v }) (by_ceiling (ceiling_of o w.content)) where
      by_ceiling :
          (c : Option ℕ) → world_with_plans w.content o
          (ruling_under c w.terms (own w.content o) (held_in w o) moment (call.Put asked)).plans
          ≡ w.content
      by_ceiling None = refl
      by_ceiling (Some c) =
          ap (λ e. world_with_plans w.content o (plans_left e asked (own w.content o).plans))
          (no_effect asked _ _ _ is)

-- a call that leaves the world as it was if it succeeds, as it does if it fails
pub unchanged :
    {A : Type 0} (r : Result A DeskFault) {new old after : DeskWorld} → OnOk r (new ≡ after)
    → IfSome (fault_in r) (λ _. new ≡ old) → after ≡ old → new ≡ old
unchanged (Ok x) ok failed same = ok ∙ same
unchanged (Err e) ok failed same = failed

-- ---- a plan, and a list

refused_never : (n : Note) → refused_result n ≢ result.Completed
refused_never note.Style e = cc
refused_never note.State e = cc
refused_never note.Closed e = cc
refused_never note.NotPlanned e = cc
refused_never note.Ended e = cc
refused_never note.Horizon e = cc
refused_never note.Priority e = cc
refused_never note.PlansLimit e = cc
refused_never note.SpansLimit e = cc
refused_never note.CellsLimit e = cc
refused_never note.Conflict e = cc

saved_as : (s : Style) → s ≢ style.Hypothetical → styled_effect s effect.Save ≡ effect.Save
saved_as style.Hypothetical other = absurd (other refl)
saved_as style.IfAllowed other = refl
saved_as style.InReality other = refl

saved_by :
    (s : Style) (taken : Step) → s ≢ style.Hypothetical → step_status taken ≢ status.NotPlanned
    → step_status taken ≢ status.Closed → styled_effect s (step_effect taken) ≡ effect.Save
saved_by s (Refuse n) other planned live = absurd (planned refl)
saved_by s (Check given) other planned live = saved_as s other
saved_by s (Report given) other planned live = saved_as s other
saved_by s Shut other planned live = absurd (live refl)
saved_by s Keep other planned live = absurd (live refl)

-- what leaves a plan is saved
saved :
    (asked : PutCall) (stored : Option States) (conflict : Option Spot) (n : Option Note)
    → asked.style ≢ style.Hypothetical
    → (verdict_from asked stored conflict n).result ≡ result.Completed
    → (verdict_from asked stored conflict n).status ≢ status.NotPlanned
    → (verdict_from asked stored conflict n).status ≢ status.Closed
    → (verdict_from asked stored conflict n).effect ≡ effect.Save
saved asked stored conflict (Some n) other done planned live = absurd (refused_never n done)
saved asked stored conflict None other done planned live =
    saved_by asked.style (step_from stored asked) other planned live

-- a row that is put is found by its id
put_found : (row : PlanRow) (rows : List PlanRow) → stored_of row.id (put_row row rows) ≡ Some row
unfolding stored_of
put_found row [] = ap (λ n. cond (is_eq n) (Some row) None) (tied_itself nat_list_cmp_total row.id)
put_found row (r ∷ rs) = by_order (text_cmp row.id r.id) refl (put_found row rs) where
  found : (rest : List PlanRow) → find (has_id row.id) (row ∷ rest) ≡ Some row
  found rest = ap (λ n. cond (is_eq n) (Some row) (find (has_id row.id) rest))
      (tied_itself nat_list_cmp_total row.id)

  by_order : (n : Ordering) → text_cmp row.id r.id ≡ n → find (has_id row.id) (put_row row rs) ≡ Some row
      → find (has_id row.id) (match_ordering n (row ∷ r ∷ rs) (row ∷ rs) (r ∷ put_row row rs)) ≡ Some row
  by_order Less e ih = found (r ∷ rs)
  by_order Equal e ih = found rs
  by_order Greater e ih = ap (λ n. cond (is_eq n) (Some r) (find (has_id row.id) (put_row row rs))) e ∙ ih

rows_shown :
    (permitted : List ℕ) (all : List PlanRow) (others : Point → Option ℕ) (rows : List PlanRow)
    → map (λ s. s.row) (map (shown_plan permitted all others) rows) ≡ rows
rows_shown permitted all others [] = refl
rows_shown permitted all others (row ∷ rows) = ap (λ rs. row ∷ rs) (rows_shown permitted all others rows)

-- an operator's plans are those that are listed to it
listed_rows :
    (terms : Terms) (mine : Own) (others : Point → Option ℕ) (moment : ℤ) (listed : ReplyParts)
    → IsSome mine.ceiling → (verdict terms mine others moment call.List).reported ≡ replied listed
    → rows_in listed ≡ mine.plans
unfolding verdict enrolled_ruling
listed_rows terms mine others moment listed enrolled reported = by_ceiling mine.ceiling enrolled reported where
  by_ceiling : (c : Option ℕ) → IsSome c
      → (ruling_under c terms mine others moment call.List).reported ≡ replied listed
      → rows_in listed ≡ mine.plans
  by_ceiling None some reported = cc
  by_ceiling (Some c) some reported =
      ap (λ t. rows_in (said_of t)) (sym reported) ∙ rows_shown terms.permitted mine.plans others mine.plans

-- what an operator has after a request to plan that leaves a plan
record HasSaved (mine : Own) (plans : Option (List PlanRow)) (asked : PutCall) : Type 0 where
  enrolled : IsSome mine.ceiling
  put : plans ≡ Some (put_row (row_asked asked) mine.plans)

has_saved :
    (terms : Terms) (mine : Own) (others : Point → Option ℕ) (moment : ℤ) (asked : PutCall)
    (planned : ReplyParts) → asked.style ≢ style.Hypothetical → IsPlanned planned
    → (verdict terms mine others moment (call.Put asked)).reported ≡ replied planned
    → HasSaved mine (verdict terms mine others moment (call.Put asked)).plans asked
unfolding verdict enrolled_ruling put_outcome outcome_under
has_saved terms mine others moment asked planned other is reported = by_ceiling mine.ceiling refl reported where
  by_ceiling : (c : Option ℕ) → mine.ceiling ≡ c
      → (ruling_under c terms mine others moment (call.Put asked)).reported ≡ replied planned
      → HasSaved mine (ruling_under c terms mine others moment (call.Put asked)).plans asked
  by_ceiling None e reported = cc
  by_ceiling (Some c) e reported =
      let left : IsPlanned (said_of (ruling_under (Some c) terms mine others moment (call.Put asked)).reported)
      = subst (λ t. IsPlanned (said_of t)) (sym reported) is in
      record {
        enrolled = ap is_some e;
        put = ap (λ effect. plans_left effect asked mine.plans)
            (saved asked _ _ _ other left.completed left.planned left.live);
      }

-- what was planned is listed
pub listed_after :
    (w : DeskWorld) (o : List ℕ) (moment later : ℤ) (asked : PutCall) (planned listed : ReplyParts)
    → asked.style ≢ style.Hypothetical → reported_to w o moment (call.Put asked) ≡ replied planned
    → reported_to (step w o moment (call.Put asked)) o later call.List ≡ replied listed → IsPlanned planned
    → IsPlanListed asked listed
unfolding reported_to side_left
listed_after w o moment later asked planned listed other reported list is =
    ap (stored_of asked.id) (rows ∙ plans) ∙ put_found (row_asked asked) (own w.content o).plans where
      after : DeskWorld
      after = step w o moment (call.Put asked)

      has : HasSaved (own w.content o)
          (verdict w.terms (own w.content o) (held_in w o) moment (call.Put asked)).plans asked
      has = has_saved w.terms (own w.content o) (held_in w o) moment asked planned other is reported

      stays : side after o ≡ side_left (side w o) (held_in w o) moment (call.Put asked)
      stays = own_stays w o moment (call.Put asked)

      plans : (own after.content o).plans ≡ put_row (row_asked asked) (own w.content o).plans
      plans = ap (λ s. s.own.plans) stays ∙ ap (λ p. unwrap_or p (own w.content o).plans) has.put

      enrolled : IsSome (own after.content o).ceiling
      enrolled = ap (λ s. is_some s.own.ceiling) stays ∙ has.enrolled

      rows : rows_in listed ≡ (own after.content o).plans
      rows = listed_rows after.terms (own after.content o) (held_in after o) later listed enrolled list
