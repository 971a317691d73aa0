-- The rows of `span` of a content are read as slabs.
use Rattle.std.proofs.Common.{◌≡◌, ℕ, ◌≤◌, ◌+◌, Bool, true, false, MatchBool, List, [], ◌∷◌, ◌++◌, map, refl, sym, subst, arith, IsPermutation}
use Rattle.std.specs.List.{AllByRecursion, filter}
use Rattle.std.proofs.lemmas.List.Elements.{recursion_from_All, All-from_recursion}
use Rattle.std.proofs.lemmas.List.Sorted.{All-permutation}
use Rattle.sqlite_value.specs.Order.{Row}
use Rattle.s2_cover.specs.declared.spans.Span.{Span}
use Rattle.s2_cover.specs.Covers.{IsSpan}
use Rattle.volume4d.specs.Volume.{Block}
use Rattle.volume4d.specs.declared.slab.Held.{Held}
use Rattle.desk_rules.specs.Limits.{max_priority}
use Rattle.desk_rules.specs.Outcome.{is_live}
use Rattle.desk_sql.specs.Rows.{Tables, columns_from_first}
use Rattle.desk_store.specs.World.{Filed, World, IsValidVolume, IsContent}
use Rattle.desk_store.proofs.lemmas.Order.{all_append, all_filter}
use Rattle.row_codec.specs.RowsRead.{FitsColumns, IsHeldIn, IsNoHeld}
use Rattle.row_codec.specs.Tables.{row_of_span, AreSpanRowsFrom, ArePlanSpanRows, AreSpanRows, AreTables}
use Rattle.row_codec.proofs.lemmas.Order.{ArePlans}
use Rattle.row_codec.proofs.lemmas.Unread.{window_fits}

abbrev IsHeldRow : Row → Type 0
IsHeldRow row = (held : Held) × FitsColumns held × IsHeldIn row held

abbrev IsSpanOfHeld : Row → Type 0
IsSpanOfHeld row = IsHeldRow (columns_from_first row)

one_span : (p : Filed) (n : ℕ) (v : Block) (s : Span) → IsValidVolume v → p.row.priority ≤ max_priority
    → IsSpan s → IsSpanOfHeld (row_of_span p n v s)
one_span p n v s block low span = (
  record {
    slab = record {
      first = s.first;
      last = s.last;
      lower = v.window.lower;
      upper = v.window.upper;
      start = v.window.start;
      end = v.window.end;
      first_is_leaf = omega (arith, span.ordered, span.below);
      last_is_leaf = span.below;
    };
    priority = p.row.priority;
  },
  record {
    first = omega (arith, span.ordered, span.below);
    last = span.below;
    lower = (window_fits v.window block.window).0;
    upper = (window_fits v.window block.window).1;
    priority = omega (arith, low);
  },
  record {
    slab = record { first = refl; last = refl; lower = refl; upper = refl; start = refl; end = refl };
    priority = refl;
  },
)

on_spans : (p : Filed) (n : ℕ) (v : Block) (spans : List Span) → IsValidVolume v → p.row.priority ≤ max_priority
    → AllByRecursion IsSpan spans → AllByRecursion IsSpanOfHeld (map (row_of_span p n v) spans)
on_spans p n v [] block low each = tt
on_spans p n v (s ∷ spans) block low each = (
  one_span p n v s block low each.0,
  on_spans p n v spans block low each.1,
)

on_area : (p : Filed) (n : ℕ) (vs : List Block) (rows : List Row) → AllByRecursion IsValidVolume vs
    → p.row.priority ≤ max_priority → AreSpanRowsFrom p n vs rows → AllByRecursion IsSpanOfHeld rows
on_area p n [] rows blocks low are = subst (AllByRecursion IsSpanOfHeld) (sym are) tt
on_area p n (v ∷ vs) rows blocks low (spans, rest, ranges, are, more) =
    subst (AllByRecursion IsSpanOfHeld) (sym are)
    (all_append IsSpanOfHeld (map (row_of_span p n v) spans) rest
    (on_spans p n v spans blocks.0 low (recursion_from_All IsSpan spans ranges.each))
    (on_area p (n + 1) vs rest blocks.1 low more))

on_plan : (p : Filed) (rows : List Row) → AllByRecursion IsValidVolume p.row.area
    → p.row.priority ≤ max_priority → ArePlanSpanRows p rows → AllByRecursion IsSpanOfHeld rows
on_plan p rows blocks low are = by_live (is_live p.row.usage) are where
  by_live : (b : Bool) → MatchBool b (AreSpanRowsFrom p 0 p.row.area rows) (rows ≡ [])
      → AllByRecursion IsSpanOfHeld rows
  by_live true k = on_area p 0 p.row.area rows blocks low k
  by_live false k = subst (AllByRecursion IsSpanOfHeld) (sym k) tt

on_plans : (ps : List Filed) (rows : List Row) → ArePlans ps
    → AllByRecursion (λ p. p.row.priority ≤ max_priority) ps → AreSpanRows ps rows
    → AllByRecursion IsSpanOfHeld rows
on_plans [] rows h low are = subst (AllByRecursion IsSpanOfHeld) (sym are) tt
on_plans (p ∷ ps) rows h low (front, rest, are, mine, more) =
    subst (AllByRecursion IsSpanOfHeld) (sym are)
    (all_append IsSpanOfHeld front rest (on_plan p front h.0.each low.0 mine)
    (on_plans ps rest h.1 low.1 more))

cut : (rows : List Row) → AllByRecursion IsSpanOfHeld rows
    → AllByRecursion IsHeldRow (map columns_from_first rows)
cut [] h = tt
cut (r ∷ rows) h = (h.0, cut rows h.1)

there : (taken : List Row) (row : Row) (left : List Row) → AllByRecursion IsHeldRow (taken ++ row ∷ left)
    → IsHeldRow row
there [] row left h = h.0
there (r ∷ taken) row left h = there taken row left h.1

along : (P : Row → Type 0) (xs ys : List Row) → IsPermutation xs ys → AllByRecursion P xs
    → AllByRecursion P ys
along P xs ys same h = recursion_from_All P ys (All-permutation P xs ys same (All-from_recursion P xs h))

-- each row that is shown of some spans of a content is a slab's
pub spans_read : (tables : Tables) (w : World) (want : Row → Bool) (taken left : List Row) (row : Row)
    → IsContent w → AreTables tables w
    → IsPermutation (map columns_from_first (filter want tables.spans)) (taken ++ row ∷ left) → ¬ IsNoHeld row
spans_read tables w want taken left row h t same none =
    let (all, are, moved) = t.spans in
    let spans = along IsSpanOfHeld all tables.spans moved
    (on_plans w.plans all h.rows h.world.priorities are) in
    let shown = along IsHeldRow (map columns_from_first (filter want tables.spans)) (taken ++ row ∷ left) same
    (cut (filter want tables.spans) (all_filter IsSpanOfHeld want tables.spans spans)) in
    let (held, fits, is) = there taken row left shown in
    none held fits is
