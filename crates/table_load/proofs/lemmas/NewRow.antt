-- Rows of plans have keys of their own, and are short.
use Rattle.std.proofs.Common.{ℕ, List, length, IsTrue, arith, ◌≡◌, ◌≤◌, ◌+◌, ◌*◌, Bool, true, false, MatchBool, not, ◌&&◌, [], ◌∷◌, map, refl, sym, subst, Less, Equal, Greater}
use Rattle.std.specs.Prelude.{nat_le}
use Rattle.std.proofs.lemmas.Bool.{and_parts, leb-true}
use Rattle.desk_rules.specs.Limits.{is_operator_name, max_name_length}
use Rattle.desk_sql.specs.Changing.{IsShort, has_same_key}
use Rattle.std.specs.Int.{w64, to_be_bytes}
use Rattle.std.specs.List.{AllByRecursion, flat_map, list_all}
use Rattle.std.specs.declared.cmp.Ordering.{Ordering}
use Rattle.std.specs.Ordering.{is_eq, ordering_then}
use Rattle.sqlite_value.specs.Order.{Row, column, value_cmp}
use Rattle.sqlite_trees.specs.Tree.{IsAscending}
use Rattle.sqlite_trees.proofs.ListLemmas.{ascending_weaker}
use Rattle.sqlite.specs.Ops.{is_null}
use Rattle.s2_cover.specs.declared.spans.Span.{Span}
use Rattle.s2_cover.specs.Covers.{canonical_list}
use Rattle.volume4d.specs.Footprint.{HasValidParts, footprint_bytes}
use Rattle.volume4d.specs.VolumeLimits.{max_cells, max_cover}
use Rattle.volume4d.specs.Volume.{Shape, cells, rectangle, is_footprint, shape_positions, Block}
use Rattle.desk_rules.specs.Outcome.{is_live}
use Rattle.desk_sql.specs.Rows.{by_cells, is_same}
use Rattle.desk_changes.specs.RowChanges.{AreShort, HaveOwnKeys}
use Rattle.desk_store.specs.World.{Filed, IsValidVolume}
use Rattle.desk_store.proofs.lemmas.Order.{all_append}
use Rattle.row_codec.specs.Tables.{id_text, rows_from, volume_rows_from, row_of_cover, row_of_span, AreSpanRowsFrom, ArePlanSpanRows}

-- a name is short
pub name_short : (name : List ℕ) → IsTrue (is_operator_name name) → IsShort name
name_short name h =
    let parts = and_parts _ _ h in
    let bounds = and_parts (nat_le 1 (length name)) _ parts.0 in
    omega (arith, leb-true (length name) max_name_length bounds.1)

-- rows of which one is below the other by some columns differ in them
pub apart_by : (a b : Row) (places : List ℕ) → by_cells places a b ≡ Less
    → list_all (λ at. is_same (column a at) (column b at)) places ≡ false
apart_by a b [] less = cc
apart_by a b (at ∷ places) less =
    by_order (value_cmp (column a at) (column b at)) (is_null (column a at)) less (apart_by a b places) where
      by_order : (o : Ordering) (null : Bool) → ordering_then o (by_cells places a b) ≡ Less
          → (by_cells places a b ≡ Less
          → list_all (λ at. is_same (column a at) (column b at)) places ≡ false)
          → ((not null && is_eq o) && list_all (λ at. is_same (column a at) (column b at)) places) ≡ false
      by_order Less true less later = refl
      by_order Less false less later = refl
      by_order Equal true less later = refl
      by_order Equal false less later = later less
      by_order Greater null less later = cc

pub volumes_apart : (rows : List Row) → IsAscending (λ a b. by_cells (0 ∷ 1 ∷ 2 ∷ []) a b ≡ Less) rows
    → HaveOwnKeys 3 rows
volumes_apart rows up = ascending_weaker (λ a b. by_cells (0 ∷ 1 ∷ 2 ∷ []) a b ≡ Less)
    (λ a b. has_same_key 3 a b ≡ false) (λ a b. apart_by a b (0 ∷ 1 ∷ 2 ∷ [])) rows up

pub spans_apart : (rows : List Row) → IsAscending (λ a b. by_cells (0 ∷ 1 ∷ 2 ∷ 3 ∷ []) a b ≡ Less) rows
    → HaveOwnKeys 4 rows
spans_apart rows up = ascending_weaker (λ a b. by_cells (0 ∷ 1 ∷ 2 ∷ 3 ∷ []) a b ≡ Less)
    (λ a b. has_same_key 4 a b ≡ false) (λ a b. apart_by a b (0 ∷ 1 ∷ 2 ∷ 3 ∷ [])) rows up

id_bytes : (ids : List ℕ) → length (flat_map (λ id. to_be_bytes w64 id) ids) ≡ 8 * length ids
id_bytes [] = refl
id_bytes (id ∷ ids) = let more = id_bytes ids in omega (arith, more)

shape_short : (s : Shape) → IsTrue (is_footprint s) → IsShort (footprint_bytes s)
shape_short (cells ids) h =
    let bounds = and_parts (nat_le 1 (length ids)) _ h in
    omega (arith, id_bytes ids, leb-true (length ids) max_cells bounds.1)
shape_short (rectangle r) h = omega arith

module _ (p : Filed) (name : IsShort p.operator) (text : IsShort (id_text p.row.id)) where
  pub volumes_short : (n : ℕ) (vs : List Block) → AllByRecursion IsValidVolume vs
      → AreShort (volume_rows_from p n vs)
  volumes_short n [] h = tt
  volumes_short n (v ∷ vs) h = (
    (name, (text, (tt, (tt, (tt, (tt, (tt, (shape_short v.footprint h.0.limits, tt)))))))),
    volumes_short (n + 1) vs h.1,
  )

  volume_spans_short : (n : ℕ) (v : Block) (spans : List Span) → AreShort (map (row_of_span p n v) spans)
  volume_spans_short n v [] = tt
  volume_spans_short n v (s ∷ spans) =
      ((name, (text, (tt, (tt, (tt, (tt, (tt, (tt, (tt, (tt, tt)))))))))), volume_spans_short n v spans)

  area_spans_short : (n : ℕ) (vs : List Block) (rows : List Row) → AreSpanRowsFrom p n vs rows → AreShort rows
  area_spans_short n [] rows e = subst AreShort (sym e) tt
  area_spans_short n (v ∷ vs) rows (spans, rest, ranges, are, then) =
      subst AreShort (sym are) (all_append _ (map (row_of_span p n v) spans) rest
      (volume_spans_short n v spans)
      (area_spans_short (n + 1) vs rest then))

  pub spans_short : (rows : List Row) → ArePlanSpanRows p rows → AreShort rows
  spans_short rows are = by_live (is_live p.row.usage) are where
    by_live : (b : Bool) → MatchBool b (AreSpanRowsFrom p 0 p.row.area rows) (rows ≡ []) → AreShort rows
    by_live true k = area_spans_short 0 p.row.area rows k
    by_live false k = subst AreShort (sym k) tt

  -- where a cover has at most so many cells
  pub covers_short : ((shape : Shape) → IsTrue (is_footprint shape) → HasValidParts shape
      → length (canonical_list (shape_positions shape)) ≤ max_cover)
      → (n : ℕ) (vs : List Block) → AllByRecursion IsValidVolume vs → AreShort (rows_from row_of_cover p n vs)
  covers_short few n [] h = tt
  covers_short few n (v ∷ vs) h =
      let count = few v.footprint h.0.limits h.0.valid in
      let long = id_bytes (canonical_list (shape_positions v.footprint)) in
      ((name, (text, (tt, (omega (arith, count, long), tt)))), covers_short few (n + 1) vs h.1)
