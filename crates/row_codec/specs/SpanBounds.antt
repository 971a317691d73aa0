-- How long the spans of plans are, and how many there are.
use Rattle.std.specs.Prelude.{◌≡◌, ℕ, ◌+◌, ◌≤◌, ◌⊎◌, ◌==◌, ◌&&◌, nat_le, ℤ, pos, Bool, false, List, Option, Some, None, MatchBool, IfSome, IsTrue, ⊤, slice_get, length, ◌<◌, ◌*◌, ◌^◌}
use Rattle.std.specs.List.{AllByRecursion, list_any, filter, sum_by}
use Rattle.sqlite_value.specs.{declared.value.Value.TheVariants.Int, Order.Row, Order.column}
use Rattle.s2_cover.specs.{declared.spans.Span.Span, Covers.IsRanges}
use Rattle.volume4d.specs.{declared.slab.Slab.Slab, Volume.shape_positions, Volume.Block}
use Rattle.desk_rules.specs.{declared.plan.PlanRow.PlanRow, Outcome.is_live, Outcome.row_cells, Outcome.row_spans}
use Rattle.desk_store.specs.{World.Filed, World.World, World.is_by, declared.change.Change.Change, declared.change.Change.TheVariants.Enrol, declared.change.Change.TheVariants.Put, declared.change.Change.TheVariants.Close, declared.change.Change.TheVariants.Clear}
use Rattle.live_index.specs.Live.{AreKeptOnce}
use Rattle.operator_index.specs.Roll.{IsIndexOf}
use Rattle.row_codec.specs.{declared.span_bounds.SpanBounds.SpanBounds, declared.known.MemoryIndex.MemoryIndex, declared.counting.Counted.Counted, declared.counting.Counted.TheVariants.Spans, declared.counting.Counted.TheVariants.Cells, Tables.AreSpanRows}

-- the last leaf of a span is at most so many positions after its first
abbrev pub IsBoundedBy : ℕ → Span → Type 0
IsBoundedBy longest span = span.last ≤ span.first + longest

-- a long span of the list begins at the first leaf of `span`, and ends at its last leaf or later
abbrev pub takes_in : Span → Option Span → Bool
takes_in span None = false
takes_in span (Some long_span) = (long_span.first == span.first) && nat_le span.last long_span.last

-- one of the long spans takes in `span`
abbrev pub IsAmong : List (Option Span) → Span → Type 0
IsAmong long_spans span = IsTrue (list_any (takes_in span) long_spans)

-- the bounds hold for a span: it is no longer than `bound`, or one of the long spans takes it in
abbrev pub IsKnown : SpanBounds → Span → Type 0
IsKnown span_bounds span = IsBoundedBy span_bounds.bound span ⊎ IsAmong span_bounds.long_spans span

-- the bounds `new` hold for each span for which the bounds `old` hold
abbrev pub Keeps : SpanBounds → SpanBounds → Type 0
Keeps old new = (span : Span) → IsKnown old span → IsKnown new span

-- each span for which `IsOne` holds and that overlaps an extent begins at the leaf `low` or later
abbrev pub IsLow : ℕ → Slab → (Span → Type 0) → Type 0
IsLow low extent IsOne =
    (span : Span) → IsOne span → extent.first ≤ span.last → span.first ≤ extent.last → low ≤ span.first

-- a span begins at one of the leaves of a query
abbrev pub begins_in : Span → Span → Bool
begins_in span query = nat_le query.first span.first && nat_le span.first query.last

-- the queries find each span for which `IsOne` holds and that overlaps an extent
abbrev pub FindAll : Slab → (Span → Type 0) → List Span → Type 0
FindAll extent IsOne queries =
    (span : Span) → IsOne span → extent.first ≤ span.last → span.first ≤ extent.last
    → IsTrue (list_any (begins_in span) queries)

-- a query begins at a leaf position, and ends at the last leaf of an extent or before
abbrev pub IsWithinExtent : Slab → Span → Type 0
IsWithinExtent extent query = (query.first < 6 * 2 ^ 60) × (query.last ≤ extent.last)

-- a place of the list is free, or its long span begins at the leaf `first`
abbrev pub BeginsOrNone : ℕ → Option Span → Type 0
BeginsOrNone first None = ⊤
BeginsOrNone first (Some long_span) = long_span.first ≡ first

-- `at` is the index of such a place
abbrev pub IsRoomFor : List (Option Span) → ℕ → ℕ → Type 0
IsRoomFor long_spans first at = IfSome (slice_get long_spans at) (BeginsOrNone first)
    × (at < length long_spans)

-- the bounds hold for each span of a volume
abbrev pub IsKnownBlock : SpanBounds → Block → Type 0
IsKnownBlock span_bounds v =
    (spans : List Span) → IsRanges (shape_positions v.footprint) spans
    → AllByRecursion (IsKnown span_bounds) spans

-- the bounds hold for each span of a plan; a closed one has none
abbrev pub IsKnownPlan : SpanBounds → PlanRow → Type 0
IsKnownPlan span_bounds row = MatchBool (is_live row.usage) (AllByRecursion
    (IsKnownBlock span_bounds) row.area) ⊤

abbrev pub AreKnownPlans : SpanBounds → List Filed → Type 0
AreKnownPlans span_bounds ps = AllByRecursion (λ p. IsKnownPlan span_bounds p.row) ps

-- the bounds hold for each span of each live plan
pub record Bounds (span_bounds : SpanBounds) (w : World) : Type 0 where
  pub known : AreKnownPlans span_bounds w.plans

-- the bounds hold for each span that the change adds
unfoldable pub BringsKnown : SpanBounds → Change → Type 0
BringsKnown span_bounds (Enrol operator ceiling) = ⊤
BringsKnown span_bounds (Put operator row) = IsKnownPlan span_bounds row
BringsKnown span_bounds (Close operator id) = ⊤
BringsKnown span_bounds (Clear operator ids) = ⊤

-- ---- rows of spans
-- if two numbers are leaf positions, the bounds hold for the span between them
abbrev pub IsKnownBetween : SpanBounds → ℤ → ℤ → Type 0
IsKnownBetween span_bounds first last =
    (a b : ℕ) → first ≡ pos a → last ≡ pos b → IsKnown span_bounds (record { first = a; last = b })

-- the same of the columns `first` and `last` of a row of spans
abbrev pub IsKnownRow : SpanBounds → Row → Type 0
IsKnownRow span_bounds row = (a b : ℕ) → column row 3 ≡ Int (pos a) → column row 4 ≡ Int (pos b)
    → IsKnown span_bounds (record { first = a; last = b })

-- the indexes in memory are those of `w`: the span bounds hold, and both indexes have what `w` has
pub record Knows (known : MemoryIndex) (w : World) : Type 0 where
  pub span_bounds : Bounds known.span_bounds w
  pub live : AreKeptOnce known.live w
  pub roll : IsIndexOf w known.roll

-- ==== How many rows of spans a content has, and how many spans the operator that has most, and how many
-- cells the one that has most of those

-- these plans have `count` rows of spans
pub record HaveSpanRows (ps : List Filed) (count : ℕ) : Type 0 where
  pub rows : List Row
  pub are : AreSpanRows ps rows
  pub counted : count ≡ length rows

-- what is counted of a plan: spans, of which a closed one takes none, or cells, which it keeps
abbrev pub count_of : Counted → PlanRow → ℕ
count_of Spans = row_spans
count_of Cells = row_cells

module _ (count : PlanRow → ℕ) where
  -- what the plans of an operator have together
  abbrev pub operator_count : List ℕ → List Filed → ℕ
  operator_count operator ps = sum_by (λ p. count p.row) (filter (is_by operator) ps)

  -- `most` is the greatest `operator_count`: no operator has more, and one has as much unless `most` is 0
  pub record IsMostOf (ps : List Filed) (most : ℕ) : Type 0 where
    pub none_more : (operator : List ℕ) → operator_count operator ps ≤ most
    pub one : (most ≡ 0) ⊎ ((operator : List ℕ) × (operator_count operator ps ≡ most))

abbrev pub IsMostSpans : List Filed → ℕ → Type 0
IsMostSpans ps most = IsMostOf row_spans ps most

abbrev pub IsMostCells : List Filed → ℕ → Type 0
IsMostCells ps most = IsMostOf row_cells ps most
