-- Outcomes: which of what they are given they don't depend on.
use Rattle.std.proofs.Common.{◌≡◌, ℕ, ℤ, Bool, true, false, ◌&&◌, not, [], ◌∷◌, Option, Some, None, refl, sym, ap, ◌∙◌}
use Rattle.std.specs.Prelude.{⊤, nat_le, nat_lt, is_none, is_some, cond}
use Rattle.desk_rules.specs.declared.plan.PutCall.{PutCall}
use Rattle.desk_rules.specs.declared.plan.States.{States}
use Rattle.desk_rules.specs.declared.decide.Standing.{Standing}
use Rattle.desk_rules.specs.declared.words.Note.{Note}
use Rattle.desk_rules.specs.declared.words.Note.TheVariants as note
use Rattle.desk_rules.specs.declared.words.Usage.{Usage}
use Rattle.desk_rules.specs.declared.words.Usage.TheVariants as usage
use Rattle.desk_rules.specs.declared.words.Aircraft.{Aircraft}
use Rattle.desk_rules.specs.declared.words.Aircraft.TheVariants as aircraft
use Rattle.desk_rules.specs.declared.transition.Step.{Step}
use Rattle.desk_rules.specs.declared.transition.Step.TheVariants.{Refuse, Check, Report, Shut, Keep}
use Rattle.volume4d.specs.Sweep.{Spot}
use Rattle.desk_rules.specs.Outcome.{step_from, step_from_none, step_from_planned, step_from_use, step_from_contingency, step_from_closed, step_from_states, is_offered, outcome_under, note_from, first_note, note_where, refusal_of, is_check, has_ended, is_beyond_horizon, is_stored, shown_conflict, verdict_from}
use Rattle.desk_rules.specs.Limits.{max_plans}

-- the number of an operator's plans counts only if no plan is stored
pub outcome_counts : (put : PutCall) (moment : ℤ) (stored : Option States) (standing : Standing) (n : ℕ)
    (conflict : Option Spot) → (stored ≡ None → standing.own_rows ≡ n)
    → outcome_under put moment stored standing conflict
    ≡ outcome_under put moment stored (record standing { own_rows = n }) conflict
unfolding outcome_under note_from
outcome_counts put moment None standing n conflict same =
    ap (λ k. outcome_under put moment None (record standing { own_rows = k }) conflict) (same refl)
outcome_counts put moment (Some had) standing n conflict same = refl

-- a step that refuses does so with a note beside which no conflict is shown
abbrev ShowsNone : Step → Type 0
ShowsNone (Refuse n) = (conflict : Option Spot) → shown_conflict n conflict ≡ None
ShowsNone (Check s) = ⊤
ShowsNone (Report s) = ⊤
ShowsNone Shut = ⊤
ShowsNone Keep = ⊤

none_shows_none : (want : Usage) (craft : Aircraft) → ShowsNone (step_from_none want craft)
none_shows_none usage.Planned aircraft.Nominal = tt
none_shows_none usage.Planned aircraft.OffNominal = λ c. refl
none_shows_none usage.Planned aircraft.Contingent = λ c. refl
none_shows_none usage.InUse aircraft.Nominal = tt
none_shows_none usage.InUse aircraft.OffNominal = λ c. refl
none_shows_none usage.InUse aircraft.Contingent = λ c. refl
none_shows_none usage.Closed craft = λ c. refl

planned_shows_none : (want : Usage) (craft : Aircraft) → ShowsNone (step_from_planned want craft)
planned_shows_none usage.Planned aircraft.Nominal = tt
planned_shows_none usage.Planned aircraft.OffNominal = λ c. refl
planned_shows_none usage.Planned aircraft.Contingent = λ c. refl
planned_shows_none usage.InUse aircraft.Nominal = tt
planned_shows_none usage.InUse aircraft.OffNominal = tt
planned_shows_none usage.InUse aircraft.Contingent = tt
planned_shows_none usage.Closed craft = tt

use_shows_none : (want : Usage) (craft : Aircraft) → ShowsNone (step_from_use want craft)
use_shows_none usage.Planned craft = λ c. refl
use_shows_none usage.InUse aircraft.Nominal = tt
use_shows_none usage.InUse aircraft.OffNominal = tt
use_shows_none usage.InUse aircraft.Contingent = tt
use_shows_none usage.Closed craft = tt

contingency_shows_none : (want : Usage) (craft : Aircraft)
    → ShowsNone (step_from_contingency want craft)
contingency_shows_none usage.Planned craft = λ c. refl
contingency_shows_none usage.InUse aircraft.Nominal = λ c. refl
contingency_shows_none usage.InUse aircraft.OffNominal = λ c. refl
contingency_shows_none usage.InUse aircraft.Contingent = tt
contingency_shows_none usage.Closed craft = tt

closed_shows_none : (want : Usage) → ShowsNone (step_from_closed want)
closed_shows_none usage.Planned = λ c. refl
closed_shows_none usage.InUse = λ c. refl
closed_shows_none usage.Closed = tt

states_show_none : (had : Usage) (stored : Aircraft) (want : Usage) (craft : Aircraft)
    → ShowsNone (step_from_states had stored want craft)
states_show_none usage.Planned stored want craft = planned_shows_none want craft
states_show_none usage.InUse aircraft.Nominal want craft = use_shows_none want craft
states_show_none usage.InUse aircraft.OffNominal want craft = use_shows_none want craft
states_show_none usage.InUse aircraft.Contingent want craft = contingency_shows_none want craft
states_show_none usage.Closed stored want craft = closed_shows_none want

shows_none : (stored : Option States) (put : PutCall) → ShowsNone (step_from stored put)
shows_none None put = none_shows_none put.usage put.aircraft
shows_none (Some had) put = states_show_none had.usage had.aircraft put.usage put.aircraft

-- the first note by the tests of the list of refusals
abbrev noted : Step → Bool → Bool → Bool → Bool → Bool → Bool → Bool → Bool → Option Note
noted next offered ended beyond above full spans cells blocked =
    first_note (note_where (not offered) note.Style
    ∷ refusal_of next
    ∷ note_where (is_check next && ended) note.Ended
    ∷ note_where (is_check next && beyond) note.Horizon
    ∷ note_where (is_stored next && above) note.Priority
    ∷ note_where (is_stored next && full) note.PlansLimit
    ∷ note_where (is_stored next && spans) note.SpansLimit
    ∷ note_where (is_stored next && cells) note.CellsLimit
    ∷ note_where (is_check next && blocked) note.Conflict
    ∷ [])

-- where a note is first without a conflict, or the step is no check, a conflict changes nothing
settled_by : (put : PutCall) (stored : Option States) (conflict : Option Spot) (next : Step)
    (offered ended beyond above full spans cells blocked : Bool) → ShowsNone next
    → (is_none (noted next offered ended beyond above full spans cells false) && is_check next) ≡ false
    → verdict_from put stored conflict (noted next offered ended beyond above full spans cells blocked)
    ≡ verdict_from put stored None (noted next offered ended beyond above full spans cells false)
settled_by put stored conflict next false ended beyond above full spans cells blocked shows e = refl
settled_by put stored conflict (Refuse n) true ended beyond above full spans cells blocked shows e =
    ap (λ m. record (verdict_from put stored None (Some n)) { meeting = m })
    (shows conflict ∙ sym (shows None))
settled_by put stored conflict (Check s) true true beyond above full spans cells blocked shows e = refl
settled_by put stored conflict (Check s) true false true above full spans cells blocked shows e = refl
settled_by put stored conflict (Check s) true false false true full spans cells blocked shows e = refl
settled_by put stored conflict (Check s) true false false false true spans cells blocked shows e = refl
settled_by put stored conflict (Check s) true false false false false true cells blocked shows e = refl
settled_by put stored conflict (Check s) true false false false false false true blocked shows e = refl
settled_by put stored conflict (Check s) true false false false false false false blocked shows e = cc
settled_by put stored conflict (Report s) true ended beyond true full spans cells blocked shows e = refl
settled_by put stored conflict (Report s) true ended beyond false true spans cells blocked shows e = refl
settled_by put stored conflict (Report s) true ended beyond false false true cells blocked shows e = refl
settled_by put stored conflict (Report s) true ended beyond false false false true blocked shows e = refl
settled_by put stored conflict (Report s) true ended beyond false false false false blocked shows e = refl
settled_by put stored conflict Shut true ended beyond above full spans cells blocked shows e = refl
settled_by put stored conflict Keep true ended beyond above full spans cells blocked shows e = refl

note_is : (put : PutCall) (stored : Option States) (conflict : Option Spot) (n : Option Note)
    → (verdict_from put stored conflict n).note ≡ n
note_is put stored conflict None = refl
note_is put stored conflict (Some n) = refl

-- an outcome that is refused with no conflict, or of a request that isn't checked, is the same with any
pub settled : (put : PutCall) (moment : ℤ) (stored : Option States) (standing : Standing)
    (conflict : Option Spot)
    → (is_none (outcome_under put moment stored standing None).note && is_check (step_from stored put))
    ≡ false
    → outcome_under put moment stored standing conflict
    ≡ outcome_under put moment stored standing None
unfolding outcome_under note_from
settled put moment stored standing conflict e =
    settled_by put stored conflict (step_from stored put) (is_offered put.style put.usage put.aircraft)
    (has_ended put.area moment) (is_beyond_horizon put.area moment) (nat_lt standing.ceiling put.priority)
    (is_none stored && nat_le max_plans standing.own_rows) standing.excess.spans standing.excess.cells
    (is_some conflict)
    (shows_none stored put)
    (ap (λ n. is_none n && is_check (step_from stored put))
    (sym (note_is put stored None (note_from put moment stored standing false))) ∙ e)

-- a conflict that is asked for only if it is needed gives the outcome with that conflict
pub outcome_if_needed : (put : PutCall) (moment : ℤ) (stored : Option States) (standing : Standing)
    (needed : Bool) (conflict meeting : Option Spot)
    → (needed ≡ false → (other : Option Spot) → outcome_under put moment stored standing other
    ≡ outcome_under put moment stored standing None) → meeting ≡ cond needed conflict None
    → outcome_under put moment stored standing meeting
    ≡ outcome_under put moment stored standing conflict
outcome_if_needed put moment stored standing true conflict meeting settles is =
    ap (outcome_under put moment stored standing) is
outcome_if_needed put moment stored standing false conflict meeting settles is =
    ap (outcome_under put moment stored standing) is ∙ sym (settles refl conflict)
