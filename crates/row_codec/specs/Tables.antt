-- The rows of a world in the tables of schema 2, and what rows stand for.
use Rattle.std.specs.Prelude.{◌≡◌, ℕ, ◌+◌, pos, List, [], ◌∷◌, ◌++◌, map, MatchBool, ◌≤◌, IsTrue, length, Bool, true, false, ◌&&◌}
use Rattle.std.specs.{List.flat_map, List.AllByRecursion, Int.w64, Int.to_be_bytes, List.Sorted.IsPermutation, Ordering.is_lt, Ordering.is_eq}
use Rattle.std.specs.declared.cmp.Ordering.{Ordering}
use Rattle.uuid.specs.Text.{hyphenated_text, lower}
use Rattle.sqlite_value.specs.{Order.Row, Order.column, declared.value.Value.TheVariants.Int, declared.value.Value.TheVariants.Text, declared.value.Value.TheVariants.Null, declared.value.Value.TheVariants.Real, declared.value.Value.TheVariants.Blob, declared.value.Value.Value}
use Rattle.s2_cover.specs.{declared.spans.Span.Span, Covers.IsRanges, Covers.canonical_list}
use Rattle.volume4d.specs.{Footprint.footprint_bytes, Volume.Shape, Volume.shape_positions, Volume.Block, Volume.WindowParts, declared.slab.Slab.Slab}
use Rattle.desk_rules.specs.{declared.words.Usage.Usage, declared.words.Aircraft.Aircraft, declared.plan.PlanRow.PlanRow, Outcome.is_live, Limits.max_priority, Limits.is_operator_name, Limits.max_plans}
use Rattle.desk_rules.specs.declared.words.Usage.TheVariants as usage
use Rattle.desk_rules.specs.declared.words.Aircraft.TheVariants as aircraft
use Rattle.desk_store.specs.{World.Filed, World.Listed, World.World, World.IsPlan, World.IsListed, World.text_cmp, World.rows_by, declared.fault.StoreFault.StoreFault}
use Rattle.desk_store.specs.declared.fault.StoreFault.TheVariants as store
use Rattle.desk_sql.specs.Rows as sql
use Rattle.desk_sql.specs.Rows.{Tables}
use Rattle.desk_changes.specs.RowChanges.{PlanPut}
use Rattle.row_codec.specs.declared.exact.{RowFault.RowFault, RowFault.TheVariants.OutOfMemory, RowFault.TheVariants.InvalidRows}
use Rattle.row_codec.specs.declared.exact.RowFault.TheVariants as row

-- 0 Planned, 1 InUse, 2 Closed
abbrev pub usage_number : Usage → ℕ
usage_number usage.Planned = 0
usage_number usage.InUse = 1
usage_number usage.Closed = 2

-- 0 Nominal, 1 OffNominal, 2 Contingent
abbrev pub aircraft_number : Aircraft → ℕ
aircraft_number aircraft.Nominal = 0
aircraft_number aircraft.OffNominal = 1
aircraft_number aircraft.Contingent = 2

-- the text of a plan's id: hyphenated, in lower case
abbrev pub id_text : List ℕ → List ℕ
id_text id = hyphenated_text lower id

abbrev pub row_of_operator : Listed → Row
row_of_operator l = sql.operator_row l.name l.ceiling

abbrev pub row_of_plan : Filed → Row
row_of_plan p =
    sql.plan_row p.operator (id_text p.row.id) p.row.priority (usage_number p.row.usage)
    (aircraft_number p.row.aircraft)

abbrev pub row_of_volume : Filed → ℕ → Block → Row
row_of_volume p place v = sql.volume_row (record {
  operator = p.operator;
  id = id_text p.row.id;
  place = place;
  lower = v.window.lower;
  upper = v.window.upper;
  start = v.window.start;
  stop = v.window.end;
  asked = footprint_bytes v.footprint;
})

-- the ids of the canonical cover of a footprint's leaves, ascending, each as eight bytes, big-endian
abbrev pub canon_bytes : Shape → List ℕ
canon_bytes shape = flat_map (λ id. to_be_bytes w64 id) (canonical_list (shape_positions shape))

abbrev pub row_of_cover : Filed → ℕ → Block → Row
row_of_cover p place v = sql.cover_row p.operator (id_text p.row.id) place (canon_bytes v.footprint)

abbrev pub row_of_span : Filed → ℕ → Block → Span → Row
row_of_span p place v span = sql.span_row (record {
  operator = p.operator;
  id = id_text p.row.id;
  place = place;
  first = pos span.first;
  last = pos span.last;
  lower = v.window.lower;
  upper = v.window.upper;
  start = v.window.start;
  stop = v.window.end;
  priority = p.row.priority;
})

abbrev pub operator_rows : World → List Row
operator_rows w = map row_of_operator w.operators

abbrev pub plan_rows : List Filed → List Row
plan_rows ps = map row_of_plan ps

-- a row for each volume of an area, whose places go up from a first one
abbrev pub rows_from : (Filed → ℕ → Block → Row) → Filed → ℕ → List Block → List Row
rows_from row p place [] = []
rows_from row p place (v ∷ vs) = row p place v ∷ rows_from row p (place + 1) vs

abbrev pub volume_rows_from : Filed → ℕ → List Block → List Row
volume_rows_from = rows_from row_of_volume

abbrev pub area_rows : Filed → List Row
area_rows p = volume_rows_from p 0 p.row.area

abbrev pub volume_rows : List Filed → List Row
volume_rows ps = flat_map area_rows ps

-- the covers of a plan's volumes, by place, and those of plans one after the other
abbrev pub area_covers : Filed → List Row
area_covers p = rows_from row_of_cover p 0 p.row.area

abbrev pub cover_rows : List Filed → List Row
cover_rows ps = flat_map area_covers ps

-- one row for each range of the leaves of each volume
abbrev pub AreSpanRowsFrom : Filed → ℕ → List Block → List Row → Type 0
AreSpanRowsFrom p place [] rows = rows ≡ []
AreSpanRowsFrom p place (v ∷ vs) rows =
    (spans : List Span) × (rest : List Row) × IsRanges (shape_positions v.footprint) spans
    × (rows ≡ map (row_of_span p place v) spans ++ rest) × AreSpanRowsFrom p (place + 1) vs rest

-- a closed plan has none
abbrev pub ArePlanSpanRows : Filed → List Row → Type 0
ArePlanSpanRows p rows = MatchBool (is_live p.row.usage) (AreSpanRowsFrom p 0 p.row.area rows) (rows ≡ [])

abbrev pub AreSpanRows : List Filed → List Row → Type 0
AreSpanRows [] rows = rows ≡ []
AreSpanRows (p ∷ ps) rows =
    (front rest : List Row) × (rows ≡ front ++ rest) × ArePlanSpanRows p front × AreSpanRows ps rest

-- the tables that schema 1 has and schema 2 doesn't use have no row
pub record HasNoOldRows (tables : Tables) : Type 0 where
  pub volumes : tables.old_volumes ≡ []
  pub spans : tables.old_spans ≡ []

-- up to order, the tables have exactly the rows of the world
pub record AreTables (tables : Tables) (w : World) : Type 0 where
  pub old : HasNoOldRows tables
  pub operators : IsPermutation (operator_rows w) tables.operators
  pub plans : IsPermutation (plan_rows w.plans) tables.plans
  pub volumes : IsPermutation (volume_rows w.plans) tables.volumes
  pub covers : IsPermutation (cover_rows w.plans) tables.covers
  pub spans : (rows : List Row) × AreSpanRows w.plans rows × IsPermutation rows tables.spans

-- ==== The rows of volumes and of slabs, by what a plan's rows are made of
-- the bytes of each volume's footprint
abbrev pub AreAskedOf : List Block → List (List ℕ) → Type 0
AreAskedOf volumes asked = asked ≡ map (λ v. footprint_bytes v.footprint) volumes

-- the bytes of each volume's canonical cover
abbrev pub AreCanonOf : List Block → List (List ℕ) → Type 0
AreCanonOf volumes canon = canon ≡ map (λ v. canon_bytes v.footprint) volumes

-- the row of a volume in `volume2`, without its cover, from its parts
abbrev pub volume_record : List ℕ → List ℕ → ℕ → WindowParts → List ℕ → Row
volume_record operator id place w asked = sql.volume_row (record {
  operator = operator;
  id = id;
  place = place;
  lower = w.lower;
  upper = w.upper;
  start = w.start;
  stop = w.end;
  asked = asked;
})

-- the row of a slab in `span2`, from its parts
abbrev pub slab_record : List ℕ → List ℕ → ℕ → ℕ → Slab → Row
slab_record operator id place priority s = sql.span_row (record {
  operator = operator;
  id = id;
  place = place;
  first = pos s.first;
  last = pos s.last;
  lower = s.lower;
  upper = s.upper;
  start = s.start;
  stop = s.end;
  priority = priority;
})

-- the rows that are written for a plan, with these rows of its spans
abbrev pub filed_put : Filed → List Row → PlanPut
filed_put p spans = record {
  operator = p.operator;
  id = id_text p.row.id;
  plan = row_of_plan p;
  volumes = area_rows p;
  covers = area_covers p;
  spans = spans;
}

-- ==== What the rows of one operator, and those of one plan, stand for
-- an operator within the limits
pub record IsOperator (l : Listed) : Type 0 where
  pub name : IsTrue (is_operator_name l.name)
  pub ceiling : l.ceiling ≤ max_priority

-- a plan within the limits, with its operator's name
pub record IsFiled (p : Filed) : Type 0 where
  pub operator : IsTrue (is_operator_name p.operator)
  pub row : IsPlan p.row
  pub priority : p.row.priority ≤ max_priority

-- a plan's row in `plan`, and its rows in `volume2`, or in `volume` of schema 1, by place
pub record AreRowsOf (p : Filed) (head : Row) (volumes : List Row) : Type 0 where
  pub plan : head ≡ row_of_plan p
  pub area : volumes ≡ area_rows p

-- the columns from `priority` to `aircraft` are a plan's
pub record AreNumbersOf (row : Row) (p : PlanRow) : Type 0 where
  pub priority : column row 2 ≡ Int (pos p.priority)
  pub usage : column row 3 ≡ Int (pos (usage_number p.usage))
  pub aircraft : column row 4 ≡ Int (pos (aircraft_number p.aircraft))

-- a row of `width` columns, of which the first two are an operator's name and the text of an id
pub record IsKeyed (operator id : List ℕ) (width : ℕ) (row : Row) : Type 0 where
  pub wide : length row ≡ width
  pub name : column row 0 ≡ Text operator
  pub text : column row 1 ≡ Text id

-- the four columns from `at` on are the altitudes and times of a window
pub record IsWindowAt (row : Row) (at : ℕ) (window : WindowParts) : Type 0 where
  pub lower : column row at ≡ Int window.lower
  pub upper : column row (at + 1) ≡ Int window.upper
  pub start : column row (at + 2) ≡ Int window.start
  pub end : column row (at + 3) ≡ Int window.end

-- the row in `span2`, or in `span` of schema 1, of a slab of the volume at a place
abbrev pub slab_row : Filed → ℕ → Slab → Row
slab_row p place s = slab_record p.operator (id_text p.row.id) place p.row.priority s

-- `StoreFault` of a row that was read, as `RowFault`
abbrev pub row_fault_of : StoreFault → RowFault
row_fault_of store.OutOfMemory = OutOfMemory
row_fault_of store.Store = InvalidRows

-- ==== The rows of a content in the order of their keys, table by table
-- a value is this text
abbrev pub has_text : Value → List ℕ → Bool
has_text Null text = false
has_text (Int n) text = false
has_text (Real x) text = false
has_text (Text t) text = is_eq (text_cmp t text)
has_text (Blob b) text = false

-- a row of any table but `operator`, of the operator's plan with this text for its id
abbrev pub is_row_of : List ℕ → List ℕ → Row → Bool
is_row_of operator id row = has_text (column row 0) operator && has_text (column row 1) id

-- the rows of these operators
pub record AreOperatorRows (ls : List Listed) (rows : List Row) : Type 0 where
  pub within : AllByRecursion IsOperator ls
  pub are : rows ≡ map row_of_operator ls

-- the rows of these plans, and those of their volumes
pub record ArePlanRows (ps : List Filed) (head_rows volumes : List Row) : Type 0 where
  pub within : AllByRecursion IsFiled ps
  pub plans : head_rows ≡ plan_rows ps
  pub areas : volumes ≡ volume_rows ps

-- the operator of each plan is among `ls`, and no operator has more than `max_plans` plans
pub record HaveOperatorsAndRoom (ls : List Listed) (ps : List Filed) : Type 0 where
  pub listed : AllByRecursion (IsListed (record { operators = ls; plans = ps })) ps
  pub few : (operator : List ℕ) → length (rows_by operator ps) ≤ max_plans

-- an element is less than the first of a list; true if the list is empty
abbrev pub is_below_first : {X : Type 0} → (X → X → Ordering) → X → List X → Bool
is_below_first cmp x [] = true
is_below_first cmp x (y ∷ ys) = is_lt (cmp x y)
