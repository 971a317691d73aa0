-- Requests to plan: a verdict's change is one that a store takes.
use Rattle.std.proofs.Common.{◌≡◌, ℕ, ℤ, ◌<◌, Bool, true, false, ◌&&◌, not, List, [], ◌∷◌, length, Option, Some, None, refl, ap, inl, inr, arith}
use Rattle.std.specs.Prelude.{nat_le, nat_lt, is_some, is_none, IsSome, ◌≤◌}
use Rattle.std.proofs.lemmas.Bool.Decides.{nat_tests}
use Rattle.desk_rules.specs.declared.plan.PlanRow.{PlanRow}
use Rattle.desk_rules.specs.declared.plan.PutCall.{PutCall}
use Rattle.desk_rules.specs.declared.plan.States.{States}
use Rattle.desk_rules.specs.declared.decide.Standing.{Standing}
use Rattle.desk_rules.specs.declared.terms.Terms.{Terms}
use Rattle.desk_run.specs.Verdicts.{standing_of}
use Rattle.desk_rules.specs.declared.words.Note.{Note}
use Rattle.desk_rules.specs.declared.words.Style.{Style}
use Rattle.desk_rules.specs.declared.words.Style.TheVariants as style
use Rattle.desk_rules.specs.declared.words.Note.TheVariants as note
use Rattle.desk_rules.specs.declared.words.Usage.{Usage}
use Rattle.desk_rules.specs.declared.words.Usage.TheVariants as usage
use Rattle.desk_rules.specs.declared.words.Aircraft.{Aircraft}
use Rattle.desk_rules.specs.declared.words.Aircraft.TheVariants as aircraft
use Rattle.desk_rules.specs.declared.transition.Step.{Step}
use Rattle.desk_rules.specs.declared.transition.Step.TheVariants.{Refuse, Check, Report, Shut, Keep}
use Rattle.desk_rules.specs.declared.decide.Effect.{Effect}
use Rattle.desk_rules.specs.declared.decide.Effect.TheVariants as effect
use Rattle.volume4d.specs.Sweep.{Spot}
use Rattle.desk_rules.specs.Outcome.{states_of, step_from, step_from_none, is_offered, outcome_under, note_from, first_note, note_where, refusal_of, is_check, has_ended, is_beyond_horizon, is_stored, step_effect, styled_effect, verdict_from}
use Rattle.desk_rules.specs.Limits.{max_plans, max_priority}
use Rattle.desk_store.specs.World.{World, ceiling_of, stored_of, plans_of}
use Rattle.desk_store.specs.Changes.{HasRoom, IsFitting}
use Rattle.desk_run.specs.Calls.{IsFittingIf, change_after}

no_first : (x : Option Note) (xs : List (Option Note)) → first_note (x ∷ xs) ≡ None → (x ≡ None)
    × (first_note xs ≡ None)
no_first None xs e = (refl, e)
no_first (Some n) xs e = cc

not_noted : (b : Bool) (n : Note) → note_where b n ≡ None → b ≡ false
not_noted true n e = cc
not_noted false n e = refl

-- the sixth of a list of which no note is first, and the fifth
sixth : (a b c d f g : Option Note) (more : List (Option Note))
    → first_note (a ∷ b ∷ c ∷ d ∷ f ∷ g ∷ more) ≡ None → g ≡ None
sixth a b c d f g more e =
    let p = no_first a (b ∷ c ∷ d ∷ f ∷ g ∷ more) e in
    let q = no_first b (c ∷ d ∷ f ∷ g ∷ more) p.1 in
    let r = no_first c (d ∷ f ∷ g ∷ more) q.1 in
    let s = no_first d (f ∷ g ∷ more) r.1 in
    let t = no_first f (g ∷ more) s.1 in
    (no_first g more t.1).0

fifth : (a b c d f : Option Note) (more : List (Option Note))
    → first_note (a ∷ b ∷ c ∷ d ∷ f ∷ more) ≡ None → f ≡ None
fifth a b c d f more e =
    let p = no_first a (b ∷ c ∷ d ∷ f ∷ more) e in
    let q = no_first b (c ∷ d ∷ f ∷ more) p.1 in
    let r = no_first c (d ∷ f ∷ more) q.1 in
    let s = no_first d (f ∷ more) r.1 in
    (no_first f more s.1).0

-- where nothing is noted, the priority of a stored request is within the ceiling
within_ceiling : (asked : PutCall) (moment : ℤ) (stored : Option States) (standing : Standing)
    (blocked : Bool) → note_from asked moment stored standing blocked ≡ None
    → (is_stored (step_from stored asked) && nat_lt standing.ceiling asked.priority) ≡ false
unfolding note_from
within_ceiling asked moment stored standing blocked e =
    let next = step_from stored asked in
    not_noted (is_stored next && nat_lt standing.ceiling asked.priority) note.Priority
    (fifth (note_where (not (is_offered asked.style asked.usage asked.aircraft)) note.Style)
    (refusal_of next)
    (note_where (is_check next && has_ended asked.area moment) note.Ended)
    (note_where (is_check next && is_beyond_horizon asked.area moment) note.Horizon)
    (note_where (is_stored next && nat_lt standing.ceiling asked.priority) note.Priority)
    (note_where (is_stored next && (is_none stored && nat_le max_plans standing.own_rows)) note.PlansLimit
    ∷ note_where (is_stored next && standing.excess.spans) note.SpansLimit
    ∷ note_where (is_stored next && standing.excess.cells) note.CellsLimit
    ∷ note_where (is_check next && blocked) note.Conflict ∷ []) e)

-- where nothing is noted, a stored request is no plan too many
within_limit : (asked : PutCall) (moment : ℤ) (stored : Option States) (standing : Standing)
    (blocked : Bool) → note_from asked moment stored standing blocked ≡ None
    → (is_stored (step_from stored asked) && (is_none stored && nat_le max_plans standing.own_rows)) ≡ false
unfolding note_from
within_limit asked moment stored standing blocked e =
    let next = step_from stored asked in
    not_noted (is_stored next && (is_none stored && nat_le max_plans standing.own_rows)) note.PlansLimit
    (sixth (note_where (not (is_offered asked.style asked.usage asked.aircraft)) note.Style)
    (refusal_of next)
    (note_where (is_check next && has_ended asked.area moment) note.Ended)
    (note_where (is_check next && is_beyond_horizon asked.area moment) note.Horizon)
    (note_where (is_stored next && nat_lt standing.ceiling asked.priority) note.Priority)
    (note_where (is_stored next && (is_none stored && nat_le max_plans standing.own_rows)) note.PlansLimit)
    (note_where (is_stored next && standing.excess.spans) note.SpansLimit
    ∷ note_where (is_stored next && standing.excess.cells) note.CellsLimit
    ∷ note_where (is_check next && blocked) note.Conflict ∷ []) e)

saves_stored : (s : Style) (t : Step) → styled_effect s (step_effect t) ≡ effect.Save → is_stored t
    ≡ true
saves_stored style.Hypothetical t e = cc
saves_stored style.IfAllowed (Refuse n) e = cc
saves_stored style.IfAllowed (Check s) e = refl
saves_stored style.IfAllowed (Report s) e = refl
saves_stored style.IfAllowed Shut e = cc
saves_stored style.IfAllowed Keep e = cc
saves_stored style.InReality (Refuse n) e = cc
saves_stored style.InReality (Check s) e = refl
saves_stored style.InReality (Report s) e = refl
saves_stored style.InReality Shut e = cc
saves_stored style.InReality Keep e = cc

saved_within : (asked : PutCall) (moment : ℤ) (stored : Option States) (standing : Standing)
    (spot : Option Spot) → (outcome_under asked moment stored standing spot).effect ≡ effect.Save
    → (is_none stored && nat_le max_plans standing.own_rows) ≡ false
unfolding outcome_under
saved_within asked moment stored standing spot =
    by_note (note_from asked moment stored standing (is_some spot)) refl where
      by_note : (n : Option Note) → note_from asked moment stored standing (is_some spot) ≡ n
          → (verdict_from asked stored spot n).effect ≡ effect.Save
          → (is_none stored && nat_le max_plans standing.own_rows)
          ≡ false
      by_note (Some n) f e = cc
      by_note None f e = rw (saves_stored asked.style (step_from stored asked) e) at
          (within_limit asked moment stored standing (is_some spot) f)

saved_under : (asked : PutCall) (moment : ℤ) (stored : Option States) (standing : Standing)
    (spot : Option Spot) → (outcome_under asked moment stored standing spot).effect ≡ effect.Save
    → nat_lt standing.ceiling asked.priority ≡ false
unfolding outcome_under
saved_under asked moment stored standing spot =
    by_note (note_from asked moment stored standing (is_some spot)) refl where
      by_note : (n : Option Note) → note_from asked moment stored standing (is_some spot) ≡ n
          → (verdict_from asked stored spot n).effect ≡ effect.Save → nat_lt standing.ceiling asked.priority
          ≡ false
      by_note (Some n) f e = cc
      by_note None f e = rw (saves_stored asked.style (step_from stored asked) e) at
          (within_ceiling asked moment stored standing (is_some spot) f)

room_by : (w : World) (operator id : List ℕ) → (is_none (states_of (stored_of id (plans_of operator w)))
    && nat_le max_plans (length (plans_of operator w))) ≡ false → HasRoom w operator id
room_by w operator id e = by_stored (stored_of id (plans_of operator w)) refl e where
  by_stored : (r : Option PlanRow) → stored_of id (plans_of operator w) ≡ r
      → (is_none (states_of r) && nat_le max_plans (length (plans_of operator w))) ≡ false
      → HasRoom w operator id
  by_stored None f g = inr (below (length (plans_of operator w)) g) where
    below : (n : ℕ) → nat_le max_plans n ≡ false → n < max_plans
    below n h = grind (arith, nat_tests)
  by_stored (Some x) f g = inl (ap is_some f)

-- only a stored plan is shut
shut_stored : (s : Style) (t : Step) → styled_effect s (step_effect t) ≡ effect.Shut → t ≡ Shut
shut_stored style.Hypothetical t e = cc
shut_stored style.IfAllowed (Refuse n) e = cc
shut_stored style.IfAllowed (Check s) e = cc
shut_stored style.IfAllowed (Report s) e = cc
shut_stored style.IfAllowed Shut e = refl
shut_stored style.IfAllowed Keep e = cc
shut_stored style.InReality (Refuse n) e = cc
shut_stored style.InReality (Check s) e = cc
shut_stored style.InReality (Report s) e = cc
shut_stored style.InReality Shut e = refl
shut_stored style.InReality Keep e = cc

none_is_shut : (want : Usage) (craft : Aircraft) → step_from_none want craft ≡ Shut → ⊥
none_is_shut usage.Planned aircraft.Nominal e = cc
none_is_shut usage.Planned aircraft.OffNominal e = cc
none_is_shut usage.Planned aircraft.Contingent e = cc
none_is_shut usage.InUse aircraft.Nominal e = cc
none_is_shut usage.InUse aircraft.OffNominal e = cc
none_is_shut usage.InUse aircraft.Contingent e = cc
none_is_shut usage.Closed craft e = cc

stored_if_shut : (stored : Option States) (asked : PutCall) → step_from stored asked ≡ Shut
    → IsSome stored
stored_if_shut None asked e = absurd (none_is_shut asked.usage asked.aircraft e)
stored_if_shut (Some row) asked e = refl

shut_is_stored : (asked : PutCall) (moment : ℤ) (stored : Option States) (standing : Standing)
    (spot : Option Spot) → (outcome_under asked moment stored standing spot).effect ≡ effect.Shut
    → IsSome stored
unfolding outcome_under
shut_is_stored asked moment stored standing spot =
    by_note (note_from asked moment stored standing (is_some spot)) where
      by_note : (n : Option Note) → (verdict_from asked stored spot n).effect ≡ effect.Shut
          → IsSome stored
      by_note (Some n) e = cc
      by_note None e = stored_if_shut stored asked (shut_stored asked.style (step_from stored asked) e)

-- a plan that has states is stored
stored_by : (stored : Option PlanRow) → IsSome (states_of stored) → IsSome stored
stored_by None e = e
stored_by (Some row) e = refl

-- the change of a verdict is one that a store takes
pub change_fits : (w : World) (o : List ℕ) (asked : PutCall) (moment : ℤ) (terms : Terms) (ceiling : ℕ)
    (spot : Option Spot)
    → ceiling_of o w ≡ Some ceiling → ceiling ≤ max_priority
    → IsFittingIf w (change_after (outcome_under asked moment (states_of (stored_of asked.id (plans_of o w)))
    (standing_of terms (plans_of o w) ceiling asked) spot).effect o asked)
unfolding IsFitting
change_fits w o asked moment terms ceiling spot listed low =
    by_effect (outcome_under asked moment stored standing spot).effect refl where
      stored : Option States
      stored = states_of (stored_of asked.id (plans_of o w))

      standing : Standing
      standing = standing_of terms (plans_of o w) ceiling asked

      is_listed : IsSome (ceiling_of o w)
      is_listed = ap is_some listed

      below : (p : ℕ) → nat_lt ceiling p ≡ false → p ≤ max_priority
      below p e = grind (arith, nat_tests)

      by_effect : (e : Effect) → (outcome_under asked moment stored standing spot).effect ≡ e
          → IsFittingIf w (change_after e o asked)
      by_effect effect.Nothing f = tt
      by_effect effect.Save f = (
        room_by w o asked.id (saved_within asked moment stored standing spot f),
        below asked.priority
            (saved_under asked moment stored standing spot f),
        is_listed,
      )
      by_effect effect.Shut f = (
        is_listed,
        stored_by (stored_of asked.id (plans_of o w))
            (shut_is_stored asked moment stored standing spot f),
      )
