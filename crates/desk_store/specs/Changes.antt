-- How worlds change, the changes that a store is asked for, its faults, and what every call preserves.
use Rattle.std.specs.Prelude.{ℕ, List, [], ◌∷◌, ◌++◌, Bool, not, cond, map, ◌<◌, ◌⊎◌, length, IsSome, ◌≤◌, ◌≡◌, ◌-◌, ◌^◌, codes, Option}
use Rattle.std.specs.{List.filter, List.list_any, List.All, List.IsDistinct, Ordering.is_eq, Ordering.is_lt, Ordering.is_gt, Ordering.match_ordering}
use Rattle.desk_rules.specs.declared.plan.PlanRow.{PlanRow}
use Rattle.desk_rules.specs.declared.words.Usage.TheVariants as usage
use Rattle.desk_rules.specs.Limits.{max_plans, max_priority}
use Rattle.desk_store.specs.World.{Filed, Listed, World, text_cmp, filed_cmp, plans_of, has_id, stored_of, ceiling_of, LeavesNoMore}
use Rattle.desk_store.specs.declared.{change.Change.Change, change.Change.TheVariants.Enrol, change.Change.TheVariants.Put, change.Change.TheVariants.Close, change.Change.TheVariants.Clear, fault.StoreFault.StoreFault, fault.StoreFault.TheVariants.OutOfMemory, fault.StoreFault.TheVariants.Store}
use Rattle.desk_store.specs.declared.change.Change.TheVariants as change

-- rows ascending by id, with `row` in place of the one with its id, or inserted where its id belongs
abbrev pub put_row : PlanRow → List PlanRow → List PlanRow
put_row row [] = row ∷ []
put_row row (r ∷ rs) = match_ordering (text_cmp row.id r.id) (row ∷ r ∷ rs) (row ∷ rs) (r ∷ put_row row rs)

-- a row with the usage Closed
abbrev pub closed : PlanRow → PlanRow
closed row = record row { usage = usage.Closed }

-- the rows, of which the one with the id is closed
abbrev pub close_row : List ℕ → List PlanRow → List PlanRow
close_row id rows = map (λ r. cond (has_id id r) (closed r) r) rows

-- the row's id is one of the ids
abbrev pub is_named : List (List ℕ) → PlanRow → Bool
is_named ids row = list_any (λ id. has_id id row) ids

-- the rows without those that have one of the ids
abbrev pub clear_rows : List (List ℕ) → List PlanRow → List PlanRow
clear_rows ids rows = filter (λ r. not (is_named ids r)) rows

-- operators ascending by name, where `name` has the ceiling: in place of its old one, or inserted
abbrev pub list_operator : List ℕ → ℕ → List Listed → List Listed
list_operator name ceiling [] = record { name = name; ceiling = ceiling } ∷ []
list_operator name ceiling (l ∷ ls) =
    match_ordering (text_cmp name l.name) (record { name = name; ceiling = ceiling } ∷ l ∷ ls)
    (record { name = name; ceiling = ceiling } ∷ ls) (l ∷ list_operator name ceiling ls)

-- a plan of an operator
abbrev pub filed_by : List ℕ → PlanRow → Filed
filed_by operator row = record { operator = operator; row = row }

-- the plan's operator comes before this one by name, or after it
abbrev pub is_before : List ℕ → Filed → Bool
is_before operator p = is_gt (text_cmp operator p.operator)

abbrev pub is_after : List ℕ → Filed → Bool
is_after operator p = is_lt (text_cmp operator p.operator)

-- plans ascending by operator, with `rows` in place of the operator's own
abbrev pub replaced : List ℕ → List PlanRow → List Filed → List Filed
replaced operator rows plans =
    filter (is_before operator) plans ++ (map (filed_by operator) rows ++ filter (is_after operator) plans)

-- the world with the operator's plans replaced
unfoldable pub with_plans : World → List ℕ → List PlanRow → World
with_plans w operator rows = record w { plans = replaced operator rows w.plans }

-- plans ascending by operator and id, with a plan in place of the one with its key, or inserted in order
abbrev pub put_filed : Filed → List Filed → List Filed
put_filed p [] = p ∷ []
put_filed p (q ∷ qs) = match_ordering (filed_cmp p q) (p ∷ q ∷ qs) (p ∷ qs) (q ∷ put_filed p qs)

-- the world where the operator is enrolled with the ceiling
unfoldable pub with_operator : World → List ℕ → ℕ → World
with_operator w name ceiling = record w { operators = list_operator name ceiling w.operators }

-- there is room for a row: its id is stored, or the operator has fewer plans than it may have
abbrev pub HasRoom : World → List ℕ → List ℕ → Type 0
HasRoom w operator id = IsSome (stored_of id (plans_of operator w))
    ⊎ (length (plans_of operator w) < max_plans)

-- each of the ids is that of one of the rows
abbrev pub AreStored : List (List ℕ) → List PlanRow → Type 0
AreStored ids rows = All (λ id. IsSome (stored_of id rows)) ids

-- no id is there twice
abbrev pub AreDistinct : List (List ℕ) → Type 0
AreDistinct ids = IsDistinct (λ a b. is_eq (text_cmp a b)) ids

-- a change whose ids are a list
pub data ChangeParts : Type 0 where
  enrol : List ℕ → ℕ → ChangeParts
  put : List ℕ → PlanRow → ChangeParts
  close : List ℕ → List ℕ → ChangeParts
  clear : List ℕ → List (List ℕ) → ChangeParts

-- the parts of a change
abbrev pub parts_in : Change → ChangeParts
parts_in (change.Enrol operator ceiling) = enrol operator ceiling
parts_in (change.Put operator row) = put operator row
parts_in (change.Close operator id) = close operator id
parts_in (change.Clear operator ids) = clear operator ids.items

-- the world after a change: Enrol adds an operator or replaces its ceiling, Put stores a row under its id,
-- Close closes the row with the id, and Clear removes rows
unfoldable pub changed_by : Change → World → World
changed_by (Enrol operator ceiling) w = with_operator w operator ceiling
changed_by (Put operator row) w = with_plans w operator (put_row row (plans_of operator w))
changed_by (Close operator id) w = with_plans w operator (close_row id (plans_of operator w))
changed_by (Clear operator ids) w = with_plans w operator (clear_rows ids.items (plans_of operator w))

-- whether a change fits a world: ceilings and priorities are at most 1,000; a Put keeps the limit of 200
-- plans; the operator of a changed plan is enrolled; and the plans to close or to remove are stored
unfoldable pub IsFitting : Change → World → Type 0
IsFitting (Enrol operator ceiling) w = ceiling ≤ max_priority
IsFitting (Put operator row) w = HasRoom w operator row.id × (row.priority ≤ max_priority)
    × IsSome (ceiling_of operator w)
IsFitting (Close operator id) w = IsSome (ceiling_of operator w) × IsSome (stored_of id (plans_of operator w))
IsFitting (Clear operator ids) w = IsSome (ceiling_of operator w) × AreStored ids.items (plans_of operator w)
    × AreDistinct ids.items

-- ==== The faults of a store's storage, and doubt of what the storage returned
-- the storage is intact: each read returned what was written
abbrev pub IsHonest : ℕ → Type 0
IsHonest doubt = doubt ≡ 0

-- a count of 64 bits rose, unless it has the greatest value, at which it stays
abbrev pub HasRisen : ℕ → ℕ → Type 0
HasRisen old new = new < 2 ^ 64 - 1 → old < new

-- if the error is `Store`, the store's count of faults rose
abbrev pub IsCounted : {S : Type 0} → (S → ℕ) → S → S → StoreFault → Type 0
IsCounted faults_of old new e = e ≡ Store → HasRisen (faults_of old) (faults_of new)

-- the fault as a sentence
abbrev pub store_fault_text : StoreFault → List ℕ
store_fault_text OutOfMemory = codes "out of memory"
store_fault_text Store = codes "the store failed"

-- the doubt and the count of faults do not decrease, and a shielded store stays shielded
pub record Remembers {S : Type 0} (doubt_of faults_of : S → ℕ) (is_shielded : S → Type 0) (old new : S) :
    Type 0 where
  pub doubt : doubt_of old ≤ doubt_of new
  pub counted : faults_of old ≤ faults_of new
  pub shield : is_shielded old → is_shielded new

-- a call that only reads: the same; the content stays; after a crash a start finds only what it could before
pub record OnlyReads {S : Type 0} (content_of : S → World) (doubt_of faults_of : S → ℕ)
    (may_leave : S → Option World → Type 0) (is_shielded : S → Type 0) (old new : S) : Type 0
  where
    pub same : content_of new ≡ content_of old
    pub crash : IsHonest (doubt_of new) → LeavesNoMore (may_leave old) (may_leave new)
    pub doubt : doubt_of old ≤ doubt_of new
    pub counted : faults_of old ≤ faults_of new
    pub shield : is_shielded old → is_shielded new
