-- Stored plans and their states, and the outcome of a request to plan, on a desk's terms.
use Rattle.std.specs.Prelude.{ℕ, List, Bool, true, false, ◌&&◌, cond, Option, map, Some, None, nat_lt, [], ℤ, pos, ◌+ℤ◌, int_le, int_lt, nat_le, ◌∷◌, not, is_some, is_none}
use Rattle.std.specs.{List.filter, List.list_any, Option.option_map}
use Rattle.volume4d.specs.{Volume.Point, Volume.area_has, Volume.area_cells, Volume.area_spans, Volume.Block, Slab.greatest, Sweep.Spot}
use Rattle.desk_rules.specs.declared.{plan.PlanRow.PlanRow, plan.States.States, plan.PutCall.PutCall, words.Usage.Usage, words.Aircraft.Aircraft, words.Style.Style, words.PlanStatus.PlanStatus, words.PlanResult.PlanResult, words.Note.Note}
use Rattle.desk_rules.specs.declared.{transition.Step.Step, transition.Step.TheVariants.Refuse, transition.Step.TheVariants.Check, transition.Step.TheVariants.Report, transition.Step.TheVariants.Shut, transition.Step.TheVariants.Keep, terms.Terms.Terms, terms.Excess.Excess, decide.Standing.Standing, decide.Verdict.Verdict, decide.Effect.Effect}
use Rattle.desk_rules.specs.declared.{reply.PutReply.PutReply, reply.Reply.Reply, reply.Shown.Shown}
use Rattle.desk_rules.specs.declared.words.Usage.TheVariants as usage
use Rattle.desk_rules.specs.declared.words.Aircraft.TheVariants as aircraft
use Rattle.desk_rules.specs.declared.words.Style.TheVariants as style
use Rattle.desk_rules.specs.declared.words.PlanStatus.TheVariants as status
use Rattle.desk_rules.specs.declared.words.Note.TheVariants as note
use Rattle.desk_rules.specs.declared.words.PlanResult.TheVariants as result
use Rattle.desk_rules.specs.declared.decide.Effect.TheVariants as effect
use Rattle.desk_rules.specs.Limits.{max_plans, max_ahead}
use Rattle.desk_rules.specs.declared.reply.Reply.TheVariants as reply

-- a plan is live while it is planned or in use
abbrev pub is_live : Usage → Bool
is_live usage.Planned = true
is_live usage.InUse = true
is_live usage.Closed = false

-- a live plan holds the points of its area
unfoldable pub row_holds : PlanRow → Point → Bool
row_holds row x = is_live row.usage && area_has row.area x

-- a live plan takes the spans of its area, a closed one none
abbrev pub row_spans : PlanRow → ℕ
row_spans row = cond (is_live row.usage) (area_spans row.area) 0

-- a plan has the cells of its area, live or closed
abbrev pub row_cells : PlanRow → ℕ
row_cells row = area_cells row.area

-- the greatest priority of the plans that hold the point, or None
unfoldable pub top_priority : List PlanRow → Point → Option ℕ
top_priority rows x = greatest (map (λ r. r.priority) (filter (λ r. row_holds r x) rows))

-- ==== The states of a plan: those of InterUSS flight_planning v1 (usage_state, uas_state,
-- flight_plan_status), and which may follow which at this desk

-- the states of a plan
abbrev pub states_in : PlanRow → States
states_in row = record { usage = row.usage; aircraft = row.aircraft }

-- the states of a stored plan, or of no plan
abbrev pub states_of : Option PlanRow → Option States
states_of stored = option_map states_in stored

-- the status of a plan in use
abbrev pub status_in_use : Aircraft → PlanStatus
status_in_use aircraft.Nominal = status.OkToFly
status_in_use aircraft.OffNominal = status.OffNominal
status_in_use aircraft.Contingent = status.OffNominal

-- the status of a plan in these states
abbrev pub status_of_states : Usage → Aircraft → PlanStatus
status_of_states usage.Planned craft = status.Planned
status_of_states usage.InUse craft = status_in_use craft
status_of_states usage.Closed craft = status.Closed

-- the status by the states of a stored plan, or of no plan
abbrev pub status_from : Option States → PlanStatus
status_from None = status.NotPlanned
status_from (Some stored) = status_of_states stored.usage stored.aircraft

-- the status of a stored plan, or of no plan
abbrev pub status_of : Option PlanRow → PlanStatus
status_of stored = status_from (states_of stored)

-- whether a style is offered for requested states: InReality is for an aircraft off its plan, and for closing
abbrev pub is_offered : Style → Usage → Aircraft → Bool
is_offered style.Hypothetical want craft = true
is_offered style.IfAllowed want craft = true
is_offered style.InReality usage.Planned craft = false
is_offered style.InReality usage.InUse aircraft.Nominal = false
is_offered style.InReality usage.InUse aircraft.OffNominal = true
is_offered style.InReality usage.InUse aircraft.Contingent = true
is_offered style.InReality usage.Closed craft = true

-- The state table: a row for each state of the stored plan, a column for the requested states.

-- the step to the requested states, if no plan is stored
abbrev pub step_from_none : Usage → Aircraft → Step
step_from_none usage.Planned aircraft.Nominal = Check status.Planned
step_from_none usage.Planned aircraft.OffNominal = Refuse note.State
step_from_none usage.Planned aircraft.Contingent = Refuse note.State
step_from_none usage.InUse aircraft.Nominal = Check status.OkToFly
step_from_none usage.InUse aircraft.OffNominal = Refuse note.State
step_from_none usage.InUse aircraft.Contingent = Refuse note.State
step_from_none usage.Closed craft = Refuse note.NotPlanned

-- if the stored plan is planned
abbrev pub step_from_planned : Usage → Aircraft → Step
step_from_planned usage.Planned aircraft.Nominal = Check status.Planned
step_from_planned usage.Planned aircraft.OffNominal = Refuse note.State
step_from_planned usage.Planned aircraft.Contingent = Refuse note.State
step_from_planned usage.InUse aircraft.Nominal = Check status.OkToFly
step_from_planned usage.InUse aircraft.OffNominal = Report status.OffNominal
step_from_planned usage.InUse aircraft.Contingent = Report status.OffNominal
step_from_planned usage.Closed craft = Shut

-- if the stored plan is in use, and its aircraft is Nominal or OffNominal
abbrev pub step_from_use : Usage → Aircraft → Step
step_from_use usage.Planned craft = Refuse note.State
step_from_use usage.InUse aircraft.Nominal = Check status.OkToFly
step_from_use usage.InUse aircraft.OffNominal = Report status.OffNominal
step_from_use usage.InUse aircraft.Contingent = Report status.OffNominal
step_from_use usage.Closed craft = Shut

-- if the stored plan is in use and its aircraft Contingent: only closing ends that
abbrev pub step_from_contingency : Usage → Aircraft → Step
step_from_contingency usage.Planned craft = Refuse note.State
step_from_contingency usage.InUse aircraft.Nominal = Refuse note.State
step_from_contingency usage.InUse aircraft.OffNominal = Refuse note.State
step_from_contingency usage.InUse aircraft.Contingent = Report status.OffNominal
step_from_contingency usage.Closed craft = Shut

-- if the stored plan is closed
abbrev pub step_from_closed : Usage → Step
step_from_closed usage.Planned = Refuse note.Closed
step_from_closed usage.InUse = Refuse note.Closed
step_from_closed usage.Closed = Keep

-- the step from the states of a stored plan (the first two) to the requested ones (the last two)
abbrev pub step_from_states : Usage → Aircraft → Usage → Aircraft → Step
step_from_states usage.Planned stored want craft = step_from_planned want craft
step_from_states usage.InUse aircraft.Nominal want craft = step_from_use want craft
step_from_states usage.InUse aircraft.OffNominal want craft = step_from_use want craft
step_from_states usage.InUse aircraft.Contingent want craft = step_from_contingency want craft
step_from_states usage.Closed stored want craft = step_from_closed want

-- the step for a request, from the states of a stored plan or from no plan
abbrev pub step_from : Option States → PutCall → Step
step_from None call = step_from_none call.usage call.aircraft
step_from (Some stored) call = step_from_states stored.usage stored.aircraft call.usage call.aircraft

-- the step for a request, from a stored plan or from no plan
abbrev pub step_of : Option PlanRow → PutCall → Step
step_of stored call = step_from (states_of stored) call

-- ==== The terms on which a desk plans: its administrator names them, and no request changes them
-- no priority is permitted, and an operator's plans may have any number of spans and of cells
abbrev pub no_terms : Terms
no_terms = record { permitted = []; spans = None; cells = None }

-- whether a count is more than a limit; None is no limit
abbrev pub exceeds : Option ℕ → ℕ → Bool
exceeds None count = false
exceeds (Some most) count = nat_lt most count

-- which limits of the terms are exceeded by `spans` spans of live plans and `cells` cells of all plans
abbrev pub excess_of : Terms → ℕ → ℕ → Excess
excess_of terms spans cells = record { spans = exceeds terms.spans spans; cells = exceeds terms.cells cells }

-- no limit is exceeded
abbrev pub no_excess : Excess
no_excess = record { spans = false; cells = false }

-- ==== The outcome of a request to plan: of this desk's own list of reasons to refuse, the first that applies
-- some volume's end is at or before the moment
unfoldable pub has_ended : List Block → ℤ → Bool
has_ended area moment = list_any (λ v. int_le v.window.end moment) area

-- some volume starts more than 2,592,000 s after the moment
unfoldable pub is_beyond_horizon : List Block → ℤ → Bool
is_beyond_horizon area moment = list_any (λ v. int_lt (moment +ℤ pos max_ahead) v.window.start) area

-- the state table's note, if it refuses
abbrev pub refusal_of : Step → Option Note
refusal_of (Refuse n) = Some n
refusal_of (Check s) = None
refusal_of (Report s) = None
refusal_of Shut = None
refusal_of Keep = None

-- whether the later refusals apply: all of them to a check (`is_check`); those of the ceiling and of the
-- numbers of plans, spans and cells also to a report (`is_stored`); none to closing
abbrev pub is_check : Step → Bool
is_check (Refuse n) = false
is_check (Check s) = true
is_check (Report s) = false
is_check Shut = false
is_check Keep = false

-- whether the step stores the requested plan
abbrev pub is_stored : Step → Bool
is_stored (Refuse n) = false
is_stored (Check s) = true
is_stored (Report s) = true
is_stored Shut = false
is_stored Keep = false

-- the first note of the list
abbrev pub first_note : List (Option Note) → Option Note
first_note [] = None
first_note (None ∷ notes) = first_note notes
first_note (Some n ∷ notes) = Some n

-- the note if the test is true, else None
abbrev pub note_where : Bool → Note → Option Note
note_where true n = Some n
note_where false n = None

-- the first refusal that applies to a request at a moment, or None: by the states of the stored plan, the
-- operator's standing, and whether the requested area has a conflict
unfoldable pub note_from : PutCall → ℤ → Option States → Standing → Bool → Option Note
note_from call moment stored standing blocked =
    let step = step_from stored call in
    first_note (note_where (not (is_offered call.style call.usage call.aircraft)) note.Style
    ∷ refusal_of step
    ∷ note_where (is_check step && has_ended call.area moment) note.Ended
    ∷ note_where (is_check step && is_beyond_horizon call.area moment) note.Horizon
    ∷ note_where (is_stored step && nat_lt standing.ceiling call.priority) note.Priority
    ∷ note_where (is_stored step && (is_none stored && nat_le max_plans standing.own_rows)) note.PlansLimit
    ∷ note_where (is_stored step && standing.excess.spans) note.SpansLimit
    ∷ note_where (is_stored step && standing.excess.cells) note.CellsLimit
    ∷ note_where (is_check step && blocked) note.Conflict
    ∷ [])

-- the result of a refused request: an unsupported style is NotSupported, all else Rejected
abbrev pub refused_result : Note → PlanResult
refused_result note.Style = result.NotSupported
refused_result note.State = result.Rejected
refused_result note.Closed = result.Rejected
refused_result note.NotPlanned = result.Rejected
refused_result note.Ended = result.Rejected
refused_result note.Horizon = result.Rejected
refused_result note.Priority = result.Rejected
refused_result note.PlansLimit = result.Rejected
refused_result note.SpansLimit = result.Rejected
refused_result note.CellsLimit = result.Rejected
refused_result note.Conflict = result.Rejected

-- the conflict is named only beside its own note
abbrev pub shown_conflict : Note → Option Spot → Option Spot
shown_conflict note.Style conflict = None
shown_conflict note.State conflict = None
shown_conflict note.Closed conflict = None
shown_conflict note.NotPlanned conflict = None
shown_conflict note.Ended conflict = None
shown_conflict note.Horizon conflict = None
shown_conflict note.Priority conflict = None
shown_conflict note.PlansLimit conflict = None
shown_conflict note.SpansLimit conflict = None
shown_conflict note.CellsLimit conflict = None
shown_conflict note.Conflict conflict = conflict

-- the status after a step, and below its effect; no request with the step Refuse is carried out
abbrev pub step_status : Step → PlanStatus
step_status (Refuse n) = status.NotPlanned
step_status (Check s) = s
step_status (Report s) = s
step_status Shut = status.Closed
step_status Keep = status.Closed

abbrev pub step_effect : Step → Effect
step_effect (Refuse n) = effect.Nothing
step_effect (Check s) = effect.Save
step_effect (Report s) = effect.Save
step_effect Shut = effect.Shut
step_effect Keep = effect.Nothing

-- a hypothetical request changes nothing
abbrev pub styled_effect : Style → Effect → Effect
styled_effect style.Hypothetical e = effect.Nothing
styled_effect style.IfAllowed e = e
styled_effect style.InReality e = e

-- the verdict for a note, or for None: a refusal leaves the stored plan and gives its status
abbrev pub verdict_from : PutCall → Option States → Option Spot → Option Note → Verdict
verdict_from call stored conflict (Some n) =
    record {
      result = refused_result n;
      status = status_from stored;
      note = Some n;
      meeting = shown_conflict n conflict;
      effect = effect.Nothing;
    }
verdict_from call stored conflict None =
    record {
      result = result.Completed;
      status = step_status (step_from stored call);
      note = None;
      meeting = None;
      effect = styled_effect call.style (step_effect (step_from stored call));
    }

-- the outcome of a request at a moment, given the states of the operator's plan with its id, the
-- operator's standing and the conflict of the requested area
unfoldable pub outcome_under : PutCall → ℤ → Option States → Standing → Option Spot → Verdict
outcome_under call moment stored standing conflict =
    verdict_from call stored conflict (note_from call moment stored standing (is_some conflict))

-- the same, given the stored plan itself, the number of the operator's plans and its ceiling, at a desk
-- without limits on spans and cells
unfoldable pub outcome : PutCall → ℤ → Option PlanRow → ℕ → ℕ → Option Spot → Verdict
outcome call moment stored own_rows ceiling conflict =
    outcome_under call moment (states_of stored)
    (record { own_rows = own_rows; ceiling = ceiling; excess = no_excess }) conflict

-- a reply whose plans are a list
pub data ReplyParts : Type 0 where
  ready : ReplyParts
  plans : List Shown → ReplyParts
  plan : Shown → ReplyParts
  answered : PutReply → ReplyParts
  cleared : ℕ → ReplyParts

-- what a reply says: its kind, and its plans, result or count
abbrev pub said_in : Reply → ReplyParts
said_in reply.Ready = ready
said_in (reply.Plans shown) = plans shown.items
said_in (reply.Plan shown) = plan shown
said_in (reply.Answered given) = answered given
said_in (reply.Cleared count) = cleared count
