-- The first of a list of reasons to refuse.
use Rattle.std.proofs.Common.{◌≡◌, ℤ, Bool, true, false, ◌&&◌, not, [], ◌∷◌, Option, Some, None, refl, ◌∙◌}
use Rattle.std.specs.Prelude.{nat_le, nat_lt, is_none}
use Rattle.desk_rules.specs.declared.plan.PutCall.{PutCall}
use Rattle.desk_rules.specs.declared.plan.States.{States}
use Rattle.desk_rules.specs.declared.words.Note.{Note}
use Rattle.desk_rules.specs.declared.words.Note.TheVariants as note
use Rattle.desk_rules.specs.declared.words.PlanStatus.{PlanStatus}
use Rattle.desk_rules.specs.declared.transition.Step.TheVariants.{Check, Report}
use Rattle.desk_rules.specs.declared.decide.Standing.{Standing}
use Rattle.desk_rules.specs.Limits.{max_plans}
use Rattle.desk_rules.specs.Outcome.{first_note, note_where, note_from, refusal_of, is_check, is_stored, has_ended, is_beyond_horizon, is_offered, step_from}

-- a reason among the first four is first, whatever follows
first_of_four : (a b c d e : Option Note) (n : Note) → first_note (a ∷ b ∷ c ∷ d ∷ []) ≡ Some n
    → first_note (a ∷ b ∷ c ∷ d ∷ e ∷ []) ≡ Some n
first_of_four (Some m) b c d e n is = is
first_of_four None (Some m) c d e n is = is
first_of_four None None (Some m) d e n is = is
first_of_four None None None (Some m) e n is = is
first_of_four None None None None e n is = cc

-- a limit that a checked request breaks, which is neither over nor too far ahead, is what refuses it
pub checked_limit : (call : PutCall) (moment : ℤ) (stored : Option States) (standing : Standing)
    (blocked : Bool) (s : PlanStatus) (n : Note)
    → is_offered call.style call.usage call.aircraft ≡ true → step_from stored call ≡ Check s
    → has_ended call.area moment ≡ false → is_beyond_horizon call.area moment ≡ false
    → first_note (note_where (nat_lt standing.ceiling call.priority) note.Priority
    ∷ note_where (is_none stored && nat_le max_plans standing.own_rows) note.PlansLimit
    ∷ note_where standing.excess.spans note.SpansLimit
    ∷ note_where standing.excess.cells note.CellsLimit ∷ []) ≡ Some n
    → note_from call moment stored standing blocked ≡ Some n
unfolding note_from
checked_limit call moment stored standing blocked s n offered is ended beyond e =
    (λ i. first_note (note_where (not (offered i)) note.Style
    ∷ refusal_of (is i)
    ∷ note_where (is_check (is i) && ended i) note.Ended
    ∷ note_where (is_check (is i) && beyond i) note.Horizon
    ∷ note_where (is_stored (is i) && nat_lt standing.ceiling call.priority) note.Priority
    ∷ note_where (is_stored (is i) && (is_none stored && nat_le max_plans standing.own_rows)) note.PlansLimit
    ∷ note_where (is_stored (is i) && standing.excess.spans) note.SpansLimit
    ∷ note_where (is_stored (is i) && standing.excess.cells) note.CellsLimit
    ∷ note_where (is_check (is i) && blocked) note.Conflict
    ∷ []))
    ∙ first_of_four (note_where (nat_lt standing.ceiling call.priority) note.Priority)
    (note_where (is_none stored && nat_le max_plans standing.own_rows) note.PlansLimit)
    (note_where standing.excess.spans note.SpansLimit) (note_where standing.excess.cells note.CellsLimit)
    (note_where blocked note.Conflict) n e

none_last : (a b c d : Option Note)
    → first_note (a ∷ b ∷ c ∷ d ∷ None ∷ []) ≡ first_note (a ∷ b ∷ c ∷ d ∷ [])
none_last (Some m) b c d = refl
none_last None (Some m) c d = refl
none_last None None (Some m) d = refl
none_last None None None (Some m) = refl
none_last None None None None = refl

-- a report is refused by the first limit that it breaks, if it breaks one
pub reported_limits : (call : PutCall) (moment : ℤ) (stored : Option States) (standing : Standing)
    (blocked : Bool) (s : PlanStatus)
    → is_offered call.style call.usage call.aircraft ≡ true → step_from stored call ≡ Report s
    → note_from call moment stored standing blocked
    ≡ first_note (note_where (nat_lt standing.ceiling call.priority) note.Priority
    ∷ note_where (is_none stored && nat_le max_plans standing.own_rows) note.PlansLimit
    ∷ note_where standing.excess.spans note.SpansLimit
    ∷ note_where standing.excess.cells note.CellsLimit ∷ [])
unfolding note_from
reported_limits call moment stored standing blocked s offered is =
    (λ i. first_note (note_where (not (offered i)) note.Style
    ∷ refusal_of (is i)
    ∷ note_where (is_check (is i) && has_ended call.area moment) note.Ended
    ∷ note_where (is_check (is i) && is_beyond_horizon call.area moment) note.Horizon
    ∷ note_where (is_stored (is i) && nat_lt standing.ceiling call.priority) note.Priority
    ∷ note_where (is_stored (is i) && (is_none stored && nat_le max_plans standing.own_rows)) note.PlansLimit
    ∷ note_where (is_stored (is i) && standing.excess.spans) note.SpansLimit
    ∷ note_where (is_stored (is i) && standing.excess.cells) note.CellsLimit
    ∷ note_where (is_check (is i) && blocked) note.Conflict
    ∷ []))
    ∙ none_last (note_where (nat_lt standing.ceiling call.priority) note.Priority)
    (note_where (is_none stored && nat_le max_plans standing.own_rows) note.PlansLimit)
    (note_where standing.excess.spans note.SpansLimit) (note_where standing.excess.cells note.CellsLimit)
