-- Worlds, what a store keeps of one, what a crash leaves of it, what others hold in it, and a store in
-- memory.
use Rattle.std.specs.Prelude.{ℕ, ◌+◌, List, [], ◌∷◌, Bool, not, cond, Option, IsSome, map, length, ◌≤◌, ◌≡◌, ◌<◌, IsTrue, All, ◌⊎◌, Some, ◌&&◌, true, false}
use Rattle.std.specs.{Option.option_map, Option.unwrap_or, List.filter, List.find, List.AllByRecursion, List.list_any, List.Sorted.IsStrictlySortedBy, Ordering.is_eq, Ordering.nat_cmp, Ordering.ordering_then, Cmp.Lexicographic.slice_cmp, BTreeMap.is_at, Map.lookup}
use Rattle.std.specs.declared.cmp.Ordering.{Ordering}
use Rattle.volume4d.specs.{Volume.Point, Volume.is_footprint, Volume.Block, Volume.is_area, Volume.is_window, Volume.area_has, Slab.greater, Slab.level_where, Slab.slab_has, Slab.slabs_have, Slab.top_held, Slab.HasAll, Footprint.HasValidParts}
use Rattle.volume4d.specs.declared.slab.{Slab.Slab, Held.Held}
use Rattle.desk_rules.specs.declared.{plan.PlanRow.PlanRow, plan.States.States, words.Usage.Usage, words.Aircraft.Aircraft}
use Rattle.desk_rules.specs.{Limits.max_plans, Limits.max_priority, Limits.is_operator_name, Outcome.row_cells, Outcome.row_spans, Outcome.top_priority, Outcome.row_holds, Conflict.at_least}
use Rattle.desk_rules.specs.declared.words.Usage.TheVariants as usage
use Rattle.desk_store.specs.declared.{sizes.Sizes.Sizes, list.CeilingEntry.CeilingEntry}

-- ==== Worlds: what a desk knows of its operators and of their plans
-- What one operator owns, and what others hold.

-- a plan, with its operator's name
pub record Filed : Type 0 where
  pub operator : List ℕ
  pub row : PlanRow

-- an operator's name, and its ceiling
pub record Listed : Type 0 where
  pub name : List ℕ
  pub ceiling : ℕ

-- the operators, ascending by name; the plans, ascending by operator and id
pub record World : Type 0 where
  pub operators : List Listed
  pub plans : List Filed

-- the order of names and of ids: byte by byte
abbrev pub text_cmp : List ℕ → List ℕ → Ordering
text_cmp = slice_cmp nat_cmp

-- whether a plan is the operator's, and whether a row has the id
abbrev pub is_by : List ℕ → Filed → Bool
is_by operator p = is_eq (text_cmp operator p.operator)

abbrev pub has_id : List ℕ → PlanRow → Bool
has_id id row = is_eq (text_cmp id row.id)

-- the orders of operators by name, of rows by id, and of plans by operator and then by id
abbrev pub listed_cmp : Listed → Listed → Ordering
listed_cmp a b = text_cmp a.name b.name

abbrev pub row_cmp : PlanRow → PlanRow → Ordering
row_cmp a b = text_cmp a.id b.id

abbrev pub filed_cmp : Filed → Filed → Ordering
filed_cmp a b = ordering_then (text_cmp a.operator b.operator) (row_cmp a.row b.row)

-- the operator's ceiling, or None if it is not enrolled
unfoldable pub ceiling_of : List ℕ → World → Option ℕ
ceiling_of operator w = option_map (λ l. l.ceiling) (find (λ l. is_eq (text_cmp operator l.name)) w.operators)

-- the rows of an operator in a list of plans
abbrev pub rows_by : List ℕ → List Filed → List PlanRow
rows_by operator ps = map (λ p. p.row) (filter (is_by operator) ps)

-- the operator's plans
abbrev pub plans_of : List ℕ → World → List PlanRow
plans_of operator w = rows_by operator w.plans

-- the others' plans
unfoldable pub others_of : List ℕ → World → List PlanRow
others_of operator w = map (λ p. p.row) (filter (λ p. not (is_by operator p)) w.plans)

-- what an operator has of a world
pub record Own : Type 0 where
  pub ceiling : Option ℕ
  pub plans : List PlanRow

unfoldable pub own : World → List ℕ → Own
own w operator = record { ceiling = ceiling_of operator w; plans = plans_of operator w }

-- the greatest priority that others hold at a point
unfoldable pub held : World → List ℕ → Point → Option ℕ
held w operator x = top_priority (others_of operator w) x

-- the row with the id, or None if there is none
unfoldable pub stored_of : List ℕ → List PlanRow → Option PlanRow
stored_of id rows = find (has_id id) rows

-- `count` of a row, or 0 if it has the id; and the sum of these over rows: it leaves out the row with the id
abbrev pub count_unless : (PlanRow → ℕ) → List ℕ → PlanRow → ℕ
count_unless count id row = cond (has_id id row) 0 (count row)

unfoldable pub count_beside : (PlanRow → ℕ) → List ℕ → List PlanRow → ℕ
count_beside count id [] = 0
count_beside count id (row ∷ rows) = count_unless count id row + count_beside count id rows

-- the spans of the live plans and the cells of all plans, without the plan with the id
abbrev pub spans_beside : List ℕ → List PlanRow → ℕ
spans_beside = count_beside row_spans

abbrev pub cells_beside : List ℕ → List PlanRow → ℕ
cells_beside = count_beside row_cells

abbrev pub sizes_beside : List ℕ → List PlanRow → Sizes
sizes_beside id rows = record { spans = spans_beside id rows; cells = cells_beside id rows }

-- the greatest priority that others' plans, and the operator's own but the one with the id, hold at a point
unfoldable pub held_at : List PlanRow → (Point → Option ℕ) → List ℕ → Point → Option ℕ
held_at rows others id x = greater (others x) (top_priority (filter (λ r. not (has_id id r)) rows) x)

-- a plan's operator is listed
abbrev pub IsListed : World → Filed → Type 0
IsListed w p = IsSome (ceiling_of p.operator w)

-- what every world of a desk is: operators ascend by name, none is listed twice; plans ascend by operator
-- and id, and no operator has two of one id; each plan's operator is listed; and the limits are kept
pub record IsWorld (w : World) : Type 0 where
  pub operators : IsStrictlySortedBy listed_cmp w.operators
  pub plans : IsStrictlySortedBy filed_cmp w.plans
  pub listed : AllByRecursion (IsListed w) w.plans
  pub rows : (operator : List ℕ) → length (plans_of operator w) ≤ max_plans
  pub ceilings : AllByRecursion (λ l. l.ceiling ≤ max_priority) w.operators
  pub priorities : AllByRecursion (λ p. p.row.priority ≤ max_priority) w.plans

-- ==== What a store keeps: a world whose names, ids and volumes are within their limits
-- sixteen bytes
pub record IsId (id : List ℕ) : Type 0 where
  pub sixteen : length id ≡ 16
  pub are_bytes : All (λ b. b < 256) id

-- a volume within the limits
pub record IsValidVolume (v : Block) : Type 0 where
  pub limits : IsTrue (is_footprint v.footprint)
  pub valid : HasValidParts v.footprint
  pub window : IsTrue (is_window v.window)

-- a plan with a valid id and a valid area
pub record IsPlan (row : PlanRow) : Type 0 where
  pub id : IsId row.id
  pub volumes : IsTrue (is_area row.area)
  pub each : AllByRecursion IsValidVolume row.area

-- a valid content of a store: sorted, and with valid names, ids and volumes
pub record IsContent (w : World) : Type 0 where
  pub world : IsWorld w
  pub names : AllByRecursion (λ l. IsTrue (is_operator_name l.name)) w.operators
  pub rows : AllByRecursion (λ p. IsPlan p.row) w.plans

-- every state that a start can find is this content
abbrev pub LeavesOnly : World → (Option World → Type 0) → Type 0
LeavesOnly w may_leave = (found : Option World) → may_leave found → found ≡ Some w

-- a start finds no state that it could not have found before
abbrev pub LeavesNoMore : (Option World → Type 0) → (Option World → Type 0) → Type 0
LeavesNoMore before now = (found : Option World) → now found → before found

-- a start finds a state that it could have found before, or this content
abbrev pub LeavesOldOr : World → (Option World → Type 0) → (Option World → Type 0) → Type 0
LeavesOldOr w before now = (found : Option World) → now found → before found ⊎ (found ≡ Some w)

-- ==== The priorities that plans other than one, or than an operator's own, hold at a point
-- whether a plan is the operator's own with this id
abbrev pub is_own : List ℕ → List ℕ → Filed → Bool
is_own operator id p = is_by operator p && has_id id p.row

-- the priority that a plan holds at a point; None if it is the operator's own with the id or doesn't hold it
unfoldable pub rival_level : List ℕ → List ℕ → Filed → Point → Option ℕ
rival_level operator id p x = level_where (not (is_own operator id p) && row_holds p.row x) p.row.priority

-- the greatest priority that plans hold at a point, without the operator's own with the id
unfoldable pub rivals_top : List ℕ → List ℕ → List Filed → Point → Option ℕ
rivals_top operator id ps x = top_priority (map (λ p. p.row) (filter (λ p. not (is_own operator id p)) ps)) x

-- the priority that a plan holds at a point; None if it is the operator's own, or does not hold the point
unfoldable pub other_level : List ℕ → Filed → Point → Option ℕ
other_level operator p x = level_where (not (is_by operator p) && row_holds p.row x) p.row.priority

-- the greatest priority at a point of all plans of other operators
unfoldable pub others_top : List ℕ → List Filed → Point → Option ℕ
others_top operator ps x = top_priority (map (λ p. p.row) (filter (λ p. not (is_by operator p)) ps)) x

-- ==== Lists of slabs that give the greatest priority that other plans hold at a point
-- at each point of the extent the greatest priority among the slabs is that of the function `level`
abbrev pub HaveLevel : Slab → List Held → (Point → Option ℕ) → Type 0
HaveLevel extent helds level = (x : Point) → slab_has extent x ≡ true → top_held helds x ≡ level x

-- the same at each point of several extents
abbrev pub HaveLevelNear : List Slab → List Held → (Point → Option ℕ) → Type 0
HaveLevelNear extents helds level = (x : Point) → slabs_have extents x ≡ true → top_held helds x ≡ level x

-- at each point of the extents the slabs' greatest priority is the greater of that before and the level
abbrev pub AddsLevelNear : List Slab → List Held → List Held → (Point → Option ℕ) → Type 0
AddsLevelNear extents before helds level =
    HaveLevelNear extents helds (λ x. greater (top_held before x) (level x))

-- at each point of the extent the greatest priority among the slabs is the one held there by plans other than
-- the operator's own with the id if it is at least `least`, and None otherwise
abbrev pub AreRivals : World → List ℕ → List ℕ → ℕ → Slab → List Held → Type 0
AreRivals w operator id least extent helds =
    HaveLevel extent helds (λ x. at_least least (held_at (plans_of operator w) (held w operator) id x))

-- the same at each point of several extents
abbrev pub AreRivalsNear : World → List ℕ → List ℕ → ℕ → List Slab → List Held → Type 0
AreRivalsNear w operator id least extents helds = (x : Point) → slabs_have extents x ≡ true
    → top_held helds x ≡ at_least least (held_at (plans_of operator w) (held w operator) id x)

-- at each point of the extents the greatest priority among the slabs is what other operators hold there
abbrev pub AreHeldByOthers : World → List ℕ → List Slab → List Held → Type 0
AreHeldByOthers w operator extents helds =
    (x : Point) → slabs_have extents x ≡ true → top_held helds x ≡ held w operator x

-- at every point the greatest priority among the slabs is the greater of that before and the level
abbrev pub AddsLevel : List Held → List Held → (Point → Option ℕ) → Type 0
AddsLevel before helds level = (x : Point) → top_held helds x ≡ greater (top_held before x) (level x)

-- ==== What a store in memory keeps of a plan under its key
-- a plan, but for its operator and its id
pub record PlanParts : Type 0 where
  pub priority : ℕ
  pub usage : Usage
  pub aircraft : Aircraft
  pub area : List Block

-- the parts of a row, and the row of an id and parts
abbrev pub parts_of : PlanRow → PlanParts
parts_of row = record { priority = row.priority; usage = row.usage; aircraft = row.aircraft; area = row.area }

abbrev pub row_of : List ℕ → PlanParts → PlanRow
row_of id plan = record {
  id = id;
  priority = plan.priority;
  usage = plan.usage;
  aircraft = plan.aircraft;
  area = plan.area;
}

-- the states of a plan
abbrev pub kept_states : PlanParts → States
kept_states plan = record { usage = plan.usage; aircraft = plan.aircraft }

-- the same plan with the usage Closed
abbrev pub closed_parts : PlanParts → PlanParts
closed_parts plan = record plan { usage = usage.Closed }

-- the slabs have just the points of the area, and the slab `bounds` contains them all
abbrev pub AreSlabs : List Block → List Slab → Slab → Type 0
AreSlabs area slabs bounds = ((x : Point) → slabs_have slabs x ≡ area_has area x)
    × HasAll (area_has area) bounds

-- the area shares no point with the extents
abbrev pub SharesNoPoint : List Block → List Slab → Type 0
SharesNoPoint area extents = (x : Point) → slabs_have extents x ≡ true → area_has area x ≡ false

-- ==== The two maps of a store in memory, as lists of keys and values, and the world that they stand for
-- an entry as an enrolled operator, an entry as a plan, all plans, and both maps as a world
abbrev pub listed_of : List ℕ × CeilingEntry → Listed
listed_of e = record { name = e.0; ceiling = e.1.ceiling }

abbrev pub filed_of : (List ℕ × List ℕ) × PlanParts → Filed
filed_of e = record { operator = e.0.0; row = row_of e.0.1 e.1 }

abbrev pub filed_all : List ((List ℕ × List ℕ) × PlanParts) → List Filed
filed_all plans = map filed_of plans

abbrev pub world_in_lists : List (List ℕ × CeilingEntry) → List ((List ℕ × List ℕ) × PlanParts) → World
world_in_lists operators plans = record { operators = map listed_of operators; plans = filed_all plans }

-- an operator's ceiling, or None if it has no entry, and its number of plans, or 0
abbrev pub ceiling_at : List ℕ → List (List ℕ × CeilingEntry) → Option ℕ
ceiling_at operator operators = option_map (λ e. e.ceiling) (lookup (is_at (text_cmp operator)) operators)

abbrev pub count_at : List ℕ → List (List ℕ × CeilingEntry) → ℕ
count_at operator operators =
    unwrap_or (option_map (λ e. e.plan_count) (lookup (is_at (text_cmp operator)) operators)) 0

-- each entry's `plan_count` is the number of the operator's plans
abbrev pub AreCounted : List (List ℕ × CeilingEntry) → List Filed → Type 0
AreCounted operators plans = AllByRecursion (λ e. e.1.plan_count ≡ length (rows_by e.0 plans)) operators

-- the invariant of a store in memory: its world is valid, and each entry counts its plans
abbrev pub IsStore : List (List ℕ × CeilingEntry) → List ((List ℕ × List ℕ) × PlanParts) → Type 0
IsStore operators plans = IsContent (world_in_lists operators plans) × AreCounted operators (filed_all plans)

-- whether a key is that of one of the operator's plans with these ids, and the plans without those
abbrev pub is_one_of : List ℕ → List (List ℕ) → List ℕ × List ℕ → Bool
is_one_of operator ids key = list_any (λ id. is_eq (text_cmp operator key.0) && is_eq (text_cmp id key.1)) ids

abbrev pub without :
    List ℕ → List (List ℕ) → List ((List ℕ × List ℕ) × PlanParts) → List ((List ℕ × List ℕ) × PlanParts)
without operator ids plans = filter (λ e. not (is_one_of operator ids e.0)) plans

-- the operators, where the entry of one has this number of plans
abbrev pub with_count : List ℕ → ℕ → List (List ℕ × CeilingEntry) → List (List ℕ × CeilingEntry)
with_count operator count operators =
    map (λ e. cond (is_eq (text_cmp operator e.0)) (e.0, record e.1 { plan_count = count }) e) operators
