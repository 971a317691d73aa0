-- Desks: what one answers to a call, and what the call leaves.
use Rattle.std.specs.Prelude.{◌≡◌, ◌⊎◌, ℕ, List, [], Option, refl, ℤ, ◌+◌, length, ◌∷◌, map, Bool, not, cond, is_some, Some, None}
use Rattle.std.specs.{Coded.Coded, Coded.code_by, Coded.coded×, Coded.coded_list, Coded.coded_option, Coded.coded_ℕ, List.filter, List.list_any, Option.unwrap_or}
use Rattle.volume4d.specs.{Volume.Point, Volume.Block, Volume.area_cells, Volume.area_spans, Sweep.Spot}
use Rattle.desk_rules.specs.declared.{terms.Terms.Terms, terms.Excess.Excess, plan.PlanRow.PlanRow, plan.PutCall.PutCall, decide.Standing.Standing, decide.Verdict.Verdict, decide.Effect.Effect, call.Asked.Asked, call.Call.Call, reply.Shown.Shown}
use Rattle.desk_rules.specs.{Outcome.no_terms, Outcome.is_live, Outcome.states_of, Outcome.status_of, Outcome.excess_of, Outcome.outcome_under, Outcome.ReplyParts, Conflict.conflict, Conflict.share_a_point}
use Rattle.desk_rules.specs.declared.words.PlanResult.TheVariants as result
use Rattle.desk_rules.specs.declared.words.PlanStatus.TheVariants as status
use Rattle.desk_rules.specs.declared.decide.Effect.TheVariants as effect
use Rattle.desk_rules.specs.declared.call.Call.TheVariants as call
use Rattle.desk_rules.specs.Outcome as said
use Rattle.desk_store.specs.World.{World, Own, own, held, LeavesNoMore, LeavesOnly, held_at, cells_beside, plans_of, spans_beside, stored_of}
use Rattle.desk_store.specs.Changes.{with_operator, put_row, close_row, with_plans}

-- the parts of a desk: its store and its terms
pub record Parts (S : Type 0) : Type 0 where
  pub store : S
  pub terms : Terms

-- terms, and parts of a desk, as codes, which the model of `Desk` needs
abbrev pub terms_code : Coded Terms
terms_code =
    code_by (List ℕ × (Option ℕ × Option ℕ))
    (coded× (coded_list coded_ℕ) (coded× (coded_option coded_ℕ) (coded_option coded_ℕ)))
    (λ t. (t.permitted, (t.spans, t.cells))) (λ p. record { permitted = p.0; spans = p.1.0; cells = p.1.1 })
    (λ _. refl)

abbrev pub parts_code : {S : Type 0} → Coded S → Coded (Parts S)
parts_code {S} store =
    code_by (S × Terms) (coded× store terms_code) (λ d. (d.store, d.terms))
    (λ p. record { store = p.0; terms = p.1 }) (λ _. refl)

-- a desk's world: the content of its store, and its terms, which no request changes
pub record DeskWorld : Type 0 where
  pub content : World
  pub terms : Terms

-- the world of a new desk: no operators, no plans, and no terms
abbrev pub new_world : DeskWorld
new_world = record { content = record { operators = []; plans = [] }; terms = no_terms }

-- the world of these terms and this content
abbrev pub with_content : Terms → World → DeskWorld
with_content terms content = record { content = content; terms = terms }

-- the world of a desk; `content` gives the content of its store
abbrev pub world_of : {S : Type 0} → (S → World) → Parts S → DeskWorld
world_of content d = with_content d.terms (content d.store)

-- an operator's side of a desk: what it owns there, and the desk's terms
pub record Side : Type 0 where
  pub own : Own
  pub terms : Terms

abbrev pub side : DeskWorld → List ℕ → Side
side w operator = record { own = own w.content operator; terms = w.terms }

-- the greatest priority that operators other than this one hold at a point
abbrev pub held_in : DeskWorld → List ℕ → Point → Option ℕ
held_in w operator = held w.content operator

-- the world with the operator of this name enrolled with this ceiling
abbrev pub enrolled : DeskWorld → List ℕ → ℕ → DeskWorld
enrolled w name ceiling = record w { content = with_operator w.content name ceiling }

-- a start can find nothing but the content of the desk's store: what was changed is durable
abbrev pub IsSettled : {S : Type 0} → (S → World) → (S → Option World → Type 0) → Parts S → Type 0
IsSettled content may_leave d = LeavesOnly (content d.store) (may_leave d.store)

-- the desk `new` is settled; or its world is that of `old`, and a start can find no more than before
abbrev pub IsSettledOrSame :
    {S : Type 0} → (S → World) → (S → Option World → Type 0) → Parts S → Parts S → Type 0
IsSettledOrSame content may_leave old new = IsSettled content may_leave new
    ⊎ ((world_of content new ≡ world_of content old)
    × LeavesNoMore (may_leave old.store) (may_leave new.store))

-- ==== What a desk answers to a call and what it leaves, by its terms, what the operator owns and others hold
-- what a caller is answered: a reply, that the operator is not enrolled, or that it has no such plan
pub data Reported : Type 0 where
  replied : ReplyParts → Reported
  unknown_operator : Reported
  no_such_plan : Reported

-- the ruling on a call: what the caller is answered, and the operator's plans afterwards, or `None` if they
-- stay as they were
pub record Ruling : Type 0 where
  pub reported : Reported
  pub plans : Option (List PlanRow)

-- which limits a request to plan exceeds: by the spans of the operator's other live plans and those of the
-- requested area, and by the cells of all its other plans and those of the area
abbrev pub excess_asked : Terms → List PlanRow → PutCall → Excess
excess_asked terms rows asked =
    excess_of terms (spans_beside asked.id rows + area_spans asked.area)
    (cells_beside asked.id rows + area_cells asked.area)

-- an operator's standing for the request `asked`: how many plans it has, its ceiling, which limits it exceeds
abbrev pub standing_of : Terms → List PlanRow → ℕ → PutCall → Standing
standing_of terms rows ceiling asked =
    record { own_rows = length rows; ceiling = ceiling; excess = excess_asked terms rows asked }

-- the verdict on the request `asked` at a moment: `mine` is what its operator owns, `others` the greatest
-- priority that others hold at a point
unfoldable pub put_outcome : Terms → Own → (Point → Option ℕ) → ℕ → ℤ → PutCall → Verdict
put_outcome terms mine others ceiling moment asked =
    outcome_under asked moment (states_of (stored_of asked.id mine.plans))
    (standing_of terms mine.plans ceiling asked)
    (conflict terms.permitted asked.area (held_at mine.plans others asked.id) asked.priority)

-- the same in the world `w`
abbrev pub put_verdict_in : Terms → World → List ℕ → ℕ → ℤ → PutCall → Verdict
put_verdict_in terms w operator ceiling moment asked =
    put_outcome terms (own w operator) (held w operator) ceiling moment asked

-- the conflict that the operator's plan `id` has in the world `w` with this area and priority, if it has one
abbrev pub conflict_in : List ℕ → World → List ℕ → List ℕ → List Block → ℕ → Option Spot
conflict_in permitted w operator id area priority =
    conflict permitted area (held_at (plans_of operator w) (held w operator) id) priority

-- the plan that a request asks for
abbrev pub row_asked : PutCall → PlanRow
row_asked asked = record {
  id = asked.id;
  priority = asked.priority;
  usage = asked.usage;
  aircraft = asked.aircraft;
  area = asked.area;
}

-- the operator's plans after an effect of the request `asked`; `None` if they stay as they were
abbrev pub plans_left : Effect → PutCall → List PlanRow → Option (List PlanRow)
plans_left effect.Nothing asked rows = None
plans_left effect.Save asked rows = Some (put_row (row_asked asked) rows)
plans_left effect.Shut asked rows = Some (close_row asked.id rows)

-- the ruling by the verdict `v` on the request `asked` of an operator with the plans `rows`
abbrev pub put_ruling : Verdict → PutCall → List PlanRow → Ruling
put_ruling v asked rows =
    record {
      reported =
          replied
          (said.answered
          (record { result = v.result; status = v.status; note = v.note; meeting = v.meeting }));
      plans = plans_left v.effect asked rows;
    }

-- an answer that changes nothing
abbrev pub ruling_alone : Reported → Ruling
ruling_alone reported = record { reported = reported; plans = None }

-- the ruling on a DELETE of the plan `id`, stored as `row`: it is closed, whatever its state was
abbrev pub delete_ruling : List PlanRow → List ℕ → Option PlanRow → Ruling
delete_ruling rows id None = ruling_alone no_such_plan
delete_ruling rows id (Some row) =
    record {
      reported =
          replied
          (said.answered
          (record { result = result.Completed; status = status.Closed; note = None; meeting = None }));
      plans = Some (close_row id rows);
    }

-- the conflict of a live plan's area at its own priority; a closed plan has none
abbrev pub conflict_shown : List ℕ → List PlanRow → (Point → Option ℕ) → PlanRow → Option Spot
conflict_shown permitted rows others row =
    cond (is_live row.usage) (conflict permitted row.area (held_at rows others row.id) row.priority) None

-- the plan `row` as it is shown to its operator, which has the plans `rows`; `others` is what others hold
abbrev pub shown_plan : List ℕ → List PlanRow → (Point → Option ℕ) → PlanRow → Shown
shown_plan permitted rows others row =
    record {
      row = row;
      status = status_of (Some row);
      conflict = conflict_shown permitted rows others row;
    }

-- `conflict_shown` of an operator's plan in the world `w`; below, `shown_plan` of one there
abbrev pub conflict_shown_in : List ℕ → World → List ℕ → PlanRow → Option Spot
conflict_shown_in permitted w operator row =
    conflict_shown permitted (plans_of operator w) (held w operator) row

abbrev pub shown_in : List ℕ → World → List ℕ → PlanRow → Shown
shown_in permitted w operator row = shown_plan permitted (plans_of operator w) (held w operator) row

-- the ruling on a List: all plans of the operator are shown, in their order, by id
abbrev pub list_ruling : List ℕ → List PlanRow → (Point → Option ℕ) → Ruling
list_ruling permitted rows others =
    ruling_alone (replied (said.plans (map (shown_plan permitted rows others) rows)))

-- the ruling on a Show: the plan is shown, if there is one
abbrev pub show_ruling : List ℕ → List PlanRow → (Point → Option ℕ) → Option PlanRow → Ruling
show_ruling permitted rows others None = ruling_alone no_such_plan
show_ruling permitted rows others (Some row) =
    ruling_alone (replied (said.plan (shown_plan permitted rows others row)))

-- whether the plan `row`, closed or not, shares a point with `extent`
abbrev pub is_in : Block → PlanRow → Bool
is_in extent row = share_a_point (extent ∷ []) row.area

-- the ruling on a clear: the plans that share a point with `extent` are removed, closed ones too, and their
-- number is reported
abbrev pub clear_ruling : List PlanRow → Block → Ruling
clear_ruling rows extent =
    record {
      reported = replied (said.cleared (length (filter (is_in extent) rows)));
      plans = cond (list_any (is_in extent) rows) (Some (filter (λ row. not (is_in extent row)) rows)) None;
    }

-- the ruling on a call of an operator that is enrolled with this ceiling
unfoldable pub enrolled_ruling : Terms → Own → (Point → Option ℕ) → ℕ → ℤ → Call → Ruling
enrolled_ruling terms mine others ceiling moment call.Status = ruling_alone (replied said.ready)
enrolled_ruling terms mine others ceiling moment call.List = list_ruling terms.permitted mine.plans others
enrolled_ruling terms mine others ceiling moment (call.Show id) =
    show_ruling terms.permitted mine.plans others (stored_of id mine.plans)
enrolled_ruling terms mine others ceiling moment (call.Put asked) =
    put_ruling (put_outcome terms mine others ceiling moment asked) asked mine.plans
enrolled_ruling terms mine others ceiling moment (call.Delete id) =
    delete_ruling mine.plans id (stored_of id mine.plans)
enrolled_ruling terms mine others ceiling moment (call.Clear extent) = clear_ruling mine.plans extent

-- the ruling on a call of an operator, which has a ceiling exactly if it is enrolled
abbrev pub ruling_under : Option ℕ → Terms → Own → (Point → Option ℕ) → ℤ → Call → Ruling
ruling_under None terms mine others moment asked = ruling_alone unknown_operator
ruling_under (Some ceiling) terms mine others moment asked =
    enrolled_ruling terms mine others ceiling moment asked

-- the same, with the ceiling among what the operator owns
unfoldable pub verdict : Terms → Own → (Point → Option ℕ) → ℤ → Call → Ruling
verdict terms mine others moment asked = ruling_under mine.ceiling terms mine others moment asked

-- what an operator owns once a ruling has replaced its plans, and its side of the desk after a call
abbrev pub own_left : Own → Option (List PlanRow) → Own
own_left mine plans = record mine { plans = unwrap_or plans mine.plans }

unfoldable pub side_left : Side → (Point → Option ℕ) → ℤ → Call → Side
side_left mine others moment asked =
    record mine { own = own_left mine.own (verdict mine.terms mine.own others moment asked).plans }

-- the world `w` with the operator's plans replaced by `rows`, if there are any such
abbrev pub world_with_plans : World → List ℕ → Option (List PlanRow) → World
world_with_plans w operator None = w
world_with_plans w operator (Some rows) = with_plans w operator rows

-- the ruling on a call in a desk's world: it depends only on the desk's terms, on what the operator owns and
-- on what others hold
abbrev pub ruling_in : DeskWorld → List ℕ → ℤ → Call → Ruling
ruling_in w operator moment asked = verdict w.terms (own w.content operator) (held_in w operator) moment asked

-- what the caller of a call at a moment is answered
unfoldable pub reported_to : DeskWorld → List ℕ → ℤ → Call → Reported
reported_to w operator moment asked = (ruling_in w operator moment asked).reported

-- whether the call makes a change: a plan is stored or closed, even if it is so already, or plans are removed
unfoldable pub makes_change : DeskWorld → List ℕ → ℤ → Call → Bool
makes_change w operator moment asked = is_some (ruling_in w operator moment asked).plans

-- the desk's world after the call
unfoldable pub step : DeskWorld → List ℕ → ℤ → Call → DeskWorld
step w operator moment asked =
    record w {
      content = world_with_plans w.content operator (ruling_in w operator moment asked).plans;
    }

-- the same for `asked`, an operator and its call
abbrev pub step_by : DeskWorld → ℤ → Asked → DeskWorld
step_by w moment asked = step w asked.operator moment asked.call
