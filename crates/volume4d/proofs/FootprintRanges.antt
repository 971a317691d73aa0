-- The positions of a footprint's leaves.
use Rattle.std.proofs.Common.{◌≡◌, ℕ, ◌*◌, ◌^◌, ◌<◌, ◌≤◌, Bool, false, ◌&&◌, List, [], ◌∷◌, refl, sym, ap, ◌∙◌, arith, inl, inr}
use Rattle.std.specs.Prelude.{All}
use Rattle.std.proofs.lemmas.Bool.{cases_lt, and_left, and_right, lt-leb, or_from}
use Rattle.std.proofs.lemmas.List.Elements.{All-head, All-tail}
use Rattle.s2_hilbert.specs.Grid.{GridLeaf}
use Rattle.s2_hilbert.specs.Curve.{position_of, grid_leaf_at}
use Rattle.s2_hilbert.proofs.lemmas.Curve.{position_undone}
use Rattle.s2_cover.specs.declared.spans.Span.{Span}
use Rattle.s2_cover.specs.Covers.{leaves_of, RectParts, widened, wide_has, wide_set, rect_leaves, IsSpan, IsRanges, span_has, spans_have}
use Rattle.volume4d.specs.Volume.{is_leaf, Shape, cells, rectangle, shape_has, shape_positions}
use Rattle.volume4d.proofs.LeafTests.{leaf_at_passes, no_leaf_at}

-- a footprint has leaves alone
pub leaves_alone : (shape : Shape) (leaf : GridLeaf) → is_leaf leaf ≡ false
    → shape_has shape leaf ≡ false
leaves_alone (cells ids) leaf outside = and_left (is_leaf leaf) _ outside
leaves_alone (rectangle r) leaf outside = and_left (is_leaf leaf) _ outside

none_past : (spans : List Span) (p : ℕ) → All IsSpan spans → 6 * 2 ^ 60 ≤ p
    → spans_have spans p ≡ false
none_past [] p each past = refl
none_past (span ∷ rest) p each past =
    let is = All-head IsSpan span rest each in
    or_from (span_has span p) (spans_have rest p)
    (and_right _ _ (lt-leb p span.last (omega (arith, is.below, past))))
    (none_past rest p (All-tail IsSpan span rest each) past)

-- the ranges of positions that are those of a footprint's leaves
ranges_on : (shape : Shape) (set : ℕ → Bool) (spans : List Span)
    → ((p : ℕ) → p < 6 * 2 ^ 60 → shape_positions shape p ≡ set p) → IsRanges set spans
    → IsRanges (shape_positions shape) spans
ranges_on shape set spans below ranges = record {
  each = ranges.each;
  apart = ranges.apart;
  positions = λ p. elim (cases_lt p (6 * 2 ^ 60)) [
    | inl within ↦ ranges.positions p ∙ sym (below p within)
    | inr past ↦
        none_past spans p ranges.each past
        ∙ sym (leaves_alone shape (grid_leaf_at p) (no_leaf_at p past))
  ];
}

-- the positions of a cell list's leaves
pub cells_below : (ids : List ℕ) (p : ℕ) → p < 6 * 2 ^ 60
    → shape_positions (cells ids) p ≡ leaves_of ids p
cells_below ids p below =
    ap (λ b. b && leaves_of ids (position_of (grid_leaf_at p))) (leaf_at_passes p below)
    ∙ ap (leaves_of ids) (position_undone p)

-- the ranges of a cell list's leaves, by the leaves of the grid
pub cell_ranges : (ids : List ℕ) (spans : List Span) → IsRanges (leaves_of ids) spans
    → IsRanges (shape_positions (cells ids)) spans
cell_ranges ids spans ranges = ranges_on (cells ids) (leaves_of ids) spans (cells_below ids) ranges

-- the positions of a rectangle's leaves
pub rectangle_below : (r : RectParts) (p : ℕ) → p < 6 * 2 ^ 60
    → shape_positions (rectangle r) p ≡ rect_leaves r p
unfolding wide_set
rectangle_below r p below = ap (λ b. b && wide_has (widened r) (grid_leaf_at p))
    (leaf_at_passes p below)

pub rectangle_ranges : (r : RectParts) (spans : List Span) → IsRanges (rect_leaves r) spans
    → IsRanges (shape_positions (rectangle r)) spans
rectangle_ranges r spans ranges = ranges_on (rectangle r) (rect_leaves r) spans (rectangle_below r)
    ranges
