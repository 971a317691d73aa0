-- What rows of answers hold: plans, volumes, and the slabs of others.
use Rattle.std.specs.Prelude.{◌≡◌, ℕ, ◌+◌, pos, Bool, false, int_lt, List, map, ◌≢◌, ◌≤◌, ◌<◌, ◌^◌, ◌⊎◌, true, [], ◌∷◌, ◌++◌, length, Option, Some, None, ◌-◌, ◌*◌, ◌&&◌, ℤ, filter, IsPermutation, FitsSigned, Ok, Result, MatchResult}
use Rattle.std.specs.{List.flat_map, List.AllByRecursion, List.AllZip, List.sum_by, Int.w32, Result.IsErrAnd}
use Rattle.sqlite_value.specs.{declared.value.Value.TheVariants.Null, declared.value.Value.TheVariants.Int, declared.value.Value.TheVariants.Real, declared.value.Value.TheVariants.Text, declared.value.Value.TheVariants.Blob, declared.value.Value.Value, Order.Row, Order.column}
use Rattle.sqlite.specs.declared.error.{Error.Error, Error.TheVariants.SqliteFailure}
use Rattle.sqlite.specs.declared.error.ErrorCode.TheVariants as code
use Rattle.s2_cover.specs.declared.spans.Span.{Span}
use Rattle.volume4d.specs.{Footprint.footprint_bytes, Volume.Block, Volume.is_area, Volume.Point, Slab.slabs_have, Slab.top_held, declared.slab.Slab.Slab, declared.slab.Held.Held}
use Rattle.desk_rules.specs.{declared.plan.PlanRow.PlanRow, Conflict.at_least}
use Rattle.desk_store.specs.{World.Filed, World.IsValidVolume, World.IsId, World.IsPlan, World.HaveLevel, World.World, declared.fault.StoreFault.StoreFault, declared.fault.StoreFault.TheVariants.Store}
use Rattle.desk_sql.specs.{Rows.joined, Rows.columns_from_first, Rows.is_at_least, Rows.passes_filter, Rows.is_rival_from, Rows.is_others_from, Rows.is_plan_span, declared.reading.rivals.SpanFilter.SpanFilter}
use Rattle.live_index.specs.{declared.near.PlanKey.PlanKey, declared.near.Wanted.Wanted, Live.held_but}
use Rattle.row_codec.specs.{Tables.id_text, Tables.usage_number, Tables.aircraft_number, Tables.row_of_plan, Tables.volume_rows_from, Tables.area_rows, declared.values.PlanHead.PlanHead}

-- the five columns from `at` on, of which `lower` is the first, are those of a volume
pub record IsVolumeAt (row : Row) (at : ℕ) (v : Block) : Type 0 where
  pub lower : column row at ≡ Int v.window.lower
  pub upper : column row (at + 1) ≡ Int v.window.upper
  pub start : column row (at + 2) ≡ Int v.window.start
  pub end : column row (at + 3) ≡ Int v.window.end
  pub asked : column row (at + 4) ≡ Blob (footprint_bytes v.footprint)

-- the columns from `id` to `aircraft` are those of a plan
pub record IsHead (row : Row) (p : PlanRow) : Type 0 where
  pub id : column row 1 ≡ Text (id_text p.id)
  pub priority : column row 2 ≡ Int (pos p.priority)
  pub usage : column row 3 ≡ Int (pos (usage_number p.usage))
  pub aircraft : column row 4 ≡ Int (pos (aircraft_number p.aircraft))

-- a value is an integer above 0
abbrev pub is_positive : Value → Bool
is_positive Null = false
is_positive (Int n) = int_lt (pos 0) n
is_positive (Real x) = false
is_positive (Text t) = false
is_positive (Blob b) = false

-- a joined row of a volume after its plan's first: its place is not 0
abbrev pub is_later : Row → Bool
is_later row = is_positive (column row 5)

-- the joined rows of a plan: one for each of its volumes
abbrev pub joined_rows : Filed → List Row
joined_rows p = map (joined (row_of_plan p)) (area_rows p)

-- those of plans, one plan after the other
abbrev pub listing_rows : List Filed → List Row
listing_rows ps = flat_map joined_rows ps

-- the joined rows of volumes, the first of which is at a place
abbrev pub joined_from : Filed → ℕ → List Block → List Row
joined_from p place vs = map (joined (row_of_plan p)) (volume_rows_from p place vs)

-- ==== Plans that are gathered from the rows of a listing, one row after the other
-- the plan with this head and area
abbrev pub plan_with : PlanHead → List Block → PlanRow
plan_with head area =
    record {
      id = head.id;
      priority = head.priority;
      usage = head.usage;
      aircraft = head.aircraft;
      area = area;
    }

-- the finished plans, and the plan of `head` with the volumes so far, if there is one
abbrev pub closed_plans : List PlanRow → Option PlanHead → List Block → List PlanRow
closed_plans plans None volumes = plans
closed_plans plans (Some head) volumes = plans ++ plan_with head volumes ∷ []

-- the rows `left` are the remaining rows of the plan under way and all rows of the plans `more` after it;
-- with the finished plans before it, these are `all`
pub record IsPlanUnderWay (plans : List PlanRow) (head : PlanHead) (volumes : List Block)
    (left : List Row) (all : List PlanRow) : Type 0 where
  pub plan : Filed
  pub rest : List Block
  pub more : List Filed
  pub begun : 1 ≤ length volumes
  pub area : volumes ++ rest ≡ plan.row.area
  pub row : plan_with head plan.row.area ≡ plan.row
  pub each : AllByRecursion (λ p. IsPlan p.row) (plan ∷ more)
  pub rows : left ≡ joined_from plan (length volumes) rest ++ listing_rows more
  pub whole : plans ++ map (λ p. p.row) (plan ∷ more) ≡ all

-- what is collected so far is of the plans `ps`, and the rows `left` are the remaining rows of their listing
abbrev pub Leads : List PlanRow → Option PlanHead → List Block → List Row → List Filed → Type 0
Leads plans None volumes left ps = (plans ≡ []) × (left ≡ listing_rows ps)
Leads plans (Some head) volumes left ps = IsPlanUnderWay plans head volumes left (map (λ p. p.row) ps)

-- `rows` were collected: if they begin the listing of some plans, what is collected leads to these plans
abbrev pub HasCollected : List PlanRow → Option PlanHead → List Block → List Row → Type 0
HasCollected plans head volumes rows =
    (ps : List Filed) (left : List Row) → AllByRecursion (λ p. IsPlan p.row) ps
    → rows ++ left ≡ listing_rows ps → Leads plans head volumes left ps

-- ---- rows that are not gathered
-- there is a plan under way, and its volumes aren't those of an area
abbrev pub HasNoArea : Option PlanHead → List Block → Type 0
HasNoArea None volumes = ⊥
HasNoArea (Some head) volumes = is_area volumes ≡ false

-- a row that begins no plan
abbrev pub IsNoHead : Row → Type 0
IsNoHead row = (p : PlanRow) → IsId p.id → p.priority < 2 ^ 32 → ¬ IsHead row p

-- a row is refused: it begins a plan, but the plan before it has no area, or the row is no plan's; or it is a
-- later row, but no plan was begun; or it has no valid volume
abbrev pub IsRefusedRow : Option PlanHead → List Block → Row → Type 0
IsRefusedRow head volumes row =
    ((is_later row ≡ false) × (HasNoArea head volumes ⊎ IsNoHead row))
    ⊎ (((is_later row ≡ true) × (head ≡ None)) ⊎ ((v : Block) → IsValidVolume v → ¬ IsVolumeAt row 6 v))

-- no listing of plans begins with these rows and this one
abbrev pub BeginNoListing : List Row → Row → Type 0
BeginNoListing taken row =
    (ps : List Filed) (left : List Row) → AllByRecursion (λ p. IsPlan p.row) ps
    → AllByRecursion (λ p. p.row.priority < 2 ^ 32) ps → taken ++ row ∷ left ≢ listing_rows ps

-- ==== Slabs that are held, as rows of `span2` show them
-- the columns of `span2` from `first` to `stop` are a slab's
pub record IsSlabIn (row : Row) (slab : Slab) : Type 0 where
  pub first : column row 0 ≡ Int (pos slab.first)
  pub last : column row 1 ≡ Int (pos slab.last)
  pub lower : column row 2 ≡ Int slab.lower
  pub upper : column row 3 ≡ Int slab.upper
  pub start : column row 4 ≡ Int slab.start
  pub end : column row 5 ≡ Int slab.end

-- the same, and the column `priority` is its plan's
pub record IsHeldIn (row : Row) (held : Held) : Type 0 where
  pub slab : IsSlabIn row held.slab
  pub priority : column row 6 ≡ Int (pos held.priority)

-- a slab whose ends are leaf positions, and whose other numbers have 32 bits where the columns' have
pub record FitsColumns (held : Held) : Type 0 where
  pub first : held.slab.first < 6 * 2 ^ 60
  pub last : held.slab.last < 6 * 2 ^ 60
  pub lower : FitsSigned w32 held.slab.lower
  pub upper : FitsSigned w32 held.slab.upper
  pub priority : held.priority < 2 ^ 32

-- the columns are those of no slab
abbrev pub IsNoHeld : Row → Type 0
IsNoHeld row = (held : Held) → FitsColumns held → ¬ IsHeldIn row held

-- one held slab for each row, in the same order
abbrev pub HasTakenHelds : List Held → List Row → Type 0
HasTakenHelds helds rows = AllZip IsHeldIn rows helds

-- the filter for spans that overlap an extent and have at least the priority `least`
abbrev pub span_filter_of : Slab → ℕ → SpanFilter
span_filter_of extent least = record {
  first = pos extent.first;
  last = pos extent.last;
  lower = extent.lower;
  upper = extent.upper;
  start = extent.start;
  stop = extent.end;
  priority = least;
}

-- and that begin at the last leaf of a query or before
abbrev pub span_filter_from : Span → Slab → ℕ → SpanFilter
span_filter_from query extent least = record (span_filter_of extent least) { last = pos query.last }

-- a row of `span2` is of another plan than the operator's plan with this id, or, if there is no id, of
-- another operator's plan; it passes the filter, and begins at a leaf position or later
abbrev pub is_another_from : List ℕ → Option (List ℕ) → SpanFilter → ℤ → Row → Bool
is_another_from operator None = is_others_from operator
is_another_from operator (Some id) = is_rival_from operator (id_text id)

-- a query for the spans that are wanted near an extent finds this row of `span2`
abbrev pub is_asked : Wanted → Slab → Span → Row → Bool
is_asked wanted extent query =
    is_another_from wanted.operator wanted.id (span_filter_from query extent wanted.least) (pos query.first)

-- the query for the spans of a plan finds this row of `span2`
abbrev pub is_asked_of_plan : ℕ → Slab → PlanKey → Row → Bool
is_asked_of_plan least extent key = is_plan_span key.operator (id_text key.id) (span_filter_of extent least)

-- one held slab for each of these rows of spans that passes the test `wanted`, in some order
abbrev pub HaveTaken : (Row → Bool) → List Row → List Held → Type 0
HaveTaken wanted spans helds =
    (rows : List Row) × IsPermutation (map columns_from_first (filter wanted spans)) rows × HasTakenHelds helds rows

-- one held slab for each row that each of the queries finds, in some order
abbrev pub HaveTakenAll : {Q : Type 0} → (Q → Row → Bool) → List Q → List Row → List Held → Type 0
HaveTakenAll asked queries spans helds =
    (rows : List Row)
    × IsPermutation (flat_map (λ query. map columns_from_first (filter (asked query) spans)) queries) rows
    × HasTakenHelds helds rows

-- at each point of an extent, the greatest priority of these slabs is that of the wanted plans there
abbrev pub AreWanted : World → Wanted → Slab → List Held → Type 0
AreWanted w wanted extent helds =
    HaveLevel extent helds (λ x. at_least wanted.least (held_but w wanted.operator wanted.id x))

-- the same at each point of some extents
abbrev pub AreWantedNear : World → Wanted → List Slab → List Held → Type 0
AreWantedNear w wanted extents helds = (x : Point) → slabs_have extents x ≡ true
    → top_held helds x ≡ at_least wanted.least (held_but w wanted.operator wanted.id x)

-- how many leaves the ranges of all queries have
abbrev pub query_leaf_count : List Span → ℕ
query_leaf_count queries = sum_by (λ q. q.last - q.first + 1) queries

-- `result` has the value of `answer`, or a fault for its error: not `Store` if memory ran out
abbrev pub IsReportedAs : {V : Type 0} → Result V Error → Result V StoreFault → Type 0
IsReportedAs answer result =
    MatchResult answer (λ v. result ≡ Ok v)
    (λ error. IsErrAnd result (λ fault. fault ≡ Store → error ≢ SqliteFailure code.OutOfMemory))
