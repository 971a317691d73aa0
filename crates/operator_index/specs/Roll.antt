-- The index of a store's operators: the ceiling of each, and the states and the sizes of its plans.
use Rattle.std.specs.Prelude.{◌≡◌, ◌≢◌, ⊤, ℕ, ◌+◌, ◌≤◌, Bool, false, not, cond, List, [], ◌∷◌, Option, Some, None, map, length}
use Rattle.std.specs.{List.filter, List.find, List.list_any, List.sum_by, Option.option_and_then, Option.option_map, Ordering.is_eq, Ordering.match_ordering, BTreeMap.is_at, Map.lookup}
use Rattle.std.specs.declared.cmp.Ordering.TheVariants.{Greater}
use Rattle.desk_rules.specs.declared.plan.{PlanRow.PlanRow, States.States}
use Rattle.desk_rules.specs.declared.words.Usage.TheVariants as usage
use Rattle.desk_rules.specs.Outcome.{row_cells, row_spans, states_in}
use Rattle.desk_store.specs.World.{Filed, Listed, World, text_cmp, rows_by}
use Rattle.desk_store.specs.declared.change.{Change.Change, Change.TheVariants.Enrol, Change.TheVariants.Put, Change.TheVariants.Close, Change.TheVariants.Clear}
use Rattle.operator_index.specs.declared.{account.PlanState.PlanState, account.OperatorEntry.OperatorEntry, roll.OperatorIndex.OperatorIndex}

-- the operators' names and their entries, ascending by name
abbrev pub Accounts : Type 0
Accounts = List (List ℕ × OperatorEntry)

-- what the index has of a plan
abbrev pub state_of : PlanRow → PlanState
state_of row = record { id = row.id; states = states_in row; spans = row_spans row; cells = row_cells row }

-- whether the plan has the id
abbrev pub state_has_id : List ℕ → PlanState → Bool
state_has_id id s = is_eq (text_cmp id s.id)

-- `count` of a plan, or 0 if it has the id; and the sum of these over plans: it leaves out that with the id
abbrev pub counted_unless : (PlanState → ℕ) → List ℕ → PlanState → ℕ
counted_unless count id s = cond (state_has_id id s) 0 (count s)

abbrev pub total_beside : (PlanState → ℕ) → List ℕ → List PlanState → ℕ
total_beside count id plans = sum_by (counted_unless count id) plans

-- the spans, and the cells, of the plans without the one with the id
abbrev pub state_spans_beside : List ℕ → List PlanState → ℕ
state_spans_beside = total_beside (λ s. s.spans)

abbrev pub state_cells_beside : List ℕ → List PlanState → ℕ
state_cells_beside = total_beside (λ s. s.cells)

-- the entry of an operator, its ceiling, and what the index has of its plans: none if it has no entry
abbrev pub account_in : List ℕ → Accounts → Option OperatorEntry
account_in name accounts = lookup (is_at (text_cmp name)) accounts

abbrev pub ceiling_in : List ℕ → Accounts → Option ℕ
ceiling_in name accounts = option_and_then (λ a. a.ceiling) (account_in name accounts)

abbrev pub plans_or_none : Option OperatorEntry → List PlanState
plans_or_none None = []
plans_or_none (Some a) = a.plans.items

abbrev pub plans_in : List ℕ → Accounts → List PlanState
plans_in name accounts = plans_or_none (account_in name accounts)

-- an operator before others if it has a ceiling; and all operators that have one, in the order of entries
abbrev pub listed_if_enrolled : List ℕ → Option ℕ → List Listed → List Listed
listed_if_enrolled name None more = more
listed_if_enrolled name (Some n) more = record { name = name; ceiling = n } ∷ more

unfoldable pub listed_in : Accounts → List Listed
listed_in [] = []
listed_in (a ∷ accounts) = listed_if_enrolled a.0 a.1.ceiling (listed_in accounts)

-- the entries have the ceilings of these operators and the states and sizes of these plans, and no others
pub record AreAccountsOf (operators : List Listed) (plans : List Filed) (accounts : Accounts) : Type 0 where
  pub ceilings : (name : List ℕ) → ceiling_in name accounts
      ≡ option_map (λ l. l.ceiling) (find (λ l. is_eq (text_cmp name l.name)) operators)
  pub states : (name : List ℕ) → plans_in name accounts ≡ map state_of (rows_by name plans)

-- the entries of an index
abbrev pub accounts_of : OperatorIndex → Accounts
accounts_of roll = roll.accounts.entries

-- the index is right: it has the ceilings of the world's operators and the states and sizes of its plans
abbrev pub IsIndexOf : World → OperatorIndex → Type 0
IsIndexOf w roll = AreAccountsOf w.operators w.plans (accounts_of roll)

-- the first ceiling if there is one, else the second
abbrev pub or_else : Option ℕ → ℕ → Option ℕ
or_else None ceiling = Some ceiling
or_else (Some n) ceiling = Some n

-- ---- changes
-- the operator whose ceiling or plans the change concerns
abbrev pub changed_operator : Change → List ℕ
changed_operator (Enrol operator ceiling) = operator
changed_operator (Put operator row) = operator
changed_operator (Close operator id) = operator
changed_operator (Clear operator ids) = operator

-- the list of plans has capacity for one more
abbrev pub HasRoomForOne : OperatorEntry → Type 0
HasRoomForOne a = length a.plans.items + 1 ≤ a.plans.cap

-- there is an entry and it has such capacity; the operator that a change concerns has such an entry
abbrev pub HasRoomIn : Option OperatorEntry → Type 0
HasRoomIn None = ⊥
HasRoomIn (Some a) = HasRoomForOne a

abbrev pub IsReadyFor : Change → OperatorIndex → Type 0
IsReadyFor change roll = HasRoomIn (account_in (changed_operator change) (accounts_of roll))

-- plans ascending by id, with `s` in place of the one with its id, or inserted where its id belongs
abbrev pub put_state : PlanState → List PlanState → List PlanState
put_state s [] = s ∷ []
put_state s (p ∷ ps) = match_ordering (text_cmp s.id p.id) (s ∷ p ∷ ps) (s ∷ ps) (p ∷ put_state s ps)

abbrev pub closed_states : States → States
closed_states states = record states { usage = usage.Closed }

-- the plan closed and without spans if it has the id, else unchanged
abbrev pub close_if : List ℕ → PlanState → PlanState
close_if id s = cond (state_has_id id s) (record s { states = closed_states s.states; spans = 0 }) s

-- whether the plan has one of the ids
abbrev pub state_has_any_id : List (List ℕ) → PlanState → Bool
state_has_any_id ids s = list_any (λ id. state_has_id id s) ids

-- the ceiling, and the plans, of the operator that a change concerns, after it
abbrev pub ceiling_after : Change → Option ℕ → Option ℕ
ceiling_after (Enrol operator ceiling) old = Some ceiling
ceiling_after (Put operator row) old = old
ceiling_after (Close operator id) old = old
ceiling_after (Clear operator ids) old = old

abbrev pub plans_after : Change → List PlanState → List PlanState
plans_after (Enrol operator ceiling) plans = plans
plans_after (Put operator row) plans = put_state (state_of row) plans
plans_after (Close operator id) plans = map (close_if id) plans
plans_after (Clear operator ids) plans = filter (λ s. not (state_has_any_id ids.items s)) plans

-- whether there is a first plan and it has the id of `s`; and: there is none, or its id is not less
abbrev pub first_has_id_of : PlanState → List PlanState → Bool
first_has_id_of s [] = false
first_has_id_of s (p ∷ ps) = state_has_id s.id p

abbrev pub IsNotAfterFirst : PlanState → List PlanState → Type 0
IsNotAfterFirst s [] = ⊤
IsNotAfterFirst s (p ∷ ps) = text_cmp s.id p.id ≢ Greater
