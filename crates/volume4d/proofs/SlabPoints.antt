-- The points of the slabs of volumes and areas.
use Rattle.std.proofs.Common.{◌≡◌, Bool, true, false, ◌&&◌, ◌||◌, List, [], ◌∷◌, ◌++◌, refl, sym, ap, ◌∙◌, subst}
use Rattle.std.specs.Prelude.{All, map, int_le, int_lt}
use Rattle.std.proofs.Math.Bool.{and_assoc, and-or_distrib_left, and-or_distrib_right, and-false}
use Rattle.std.proofs.lemmas.List.{append-nil, append_assoc}
use Rattle.std.proofs.lemmas.List.Elements.{All-head, All-tail}
use Rattle.std.proofs.lemmas.List.Folds.{list_any-append}
use Rattle.std.proofs.lemmas.List.Sorted.{list_any-IsPermutation}
use Rattle.s2_hilbert.specs.Curve.{position_of}
use Rattle.s2_hilbert.proofs.lemmas.Curve.{leaf_undone}
use Rattle.s2_cover.specs.declared.spans.Span.{Span}
use Rattle.s2_cover.specs.Covers.{IsRanges, span_has, spans_have}
use Rattle.volume4d.specs.declared.slab.Slab.{Slab}
use Rattle.volume4d.specs.Volume.{Point, is_leaf, WindowParts, shape_has, shape_positions, Block, window_has, block_has, area_has}
use Rattle.volume4d.proofs.lemmas.Point.{leaf_test}
use Rattle.volume4d.specs.Slab.{slab_has, slabs_have, span_of, slab_window, AreSlabsOn, AreVolumeSlabs, AreAreaSlabs, AreSortedSlabs}
use Rattle.volume4d.proofs.FootprintRanges.{leaves_alone}

-- a slab by its span of leaves and its window
slab_by_parts : (s : Slab) (window : WindowParts) (x : Point) → slab_window s ≡ window
    → slab_has s x ≡ (is_leaf x.leaf && (span_has (span_of s) (position_of x.leaf)
    && window_has window x))
slab_by_parts s window x same =
    let ground = span_has (span_of s) (position_of x.leaf) in
    let high = int_le s.lower x.altitude && int_lt x.altitude s.upper in
    let late = int_le s.start x.second && int_lt x.second s.end in
    and_assoc (is_leaf x.leaf && ground) high late ∙ and_assoc (is_leaf x.leaf) ground (high && late)
    ∙ ap (λ e. is_leaf x.leaf && (span_has (span_of s) (position_of x.leaf) && window_has e x)) same

both_or : (l a b e : Bool) → ((l && (a && e)) || (l && (b && e))) ≡ (l && ((a || b) && e))
both_or l a b e =
    sym (and-or_distrib_left l (a && e) (b && e)) ∙ ap (λ t. l && t) (sym (and-or_distrib_right a b e))

-- slabs with one window, by their spans
slabs_by_parts : (slabs : List Slab) (window : WindowParts) (x : Point)
    → All (λ s. slab_window s ≡ window) slabs
    → slabs_have slabs x
    ≡ (is_leaf x.leaf && (spans_have (map span_of slabs) (position_of x.leaf) && window_has window x))
slabs_by_parts [] window x same = sym (and-false (is_leaf x.leaf))
slabs_by_parts (s ∷ rest) window x same =
    let here = slab_by_parts s window x (All-head (λ t. slab_window t ≡ window) s rest same) in
    let there = slabs_by_parts rest window x (All-tail (λ t. slab_window t ≡ window) s rest same) in
    ap (λ b. b || slabs_have rest x) here
    ∙ ap (λ b. (is_leaf x.leaf && (span_has (span_of s) (position_of x.leaf) && window_has window x))
    || b)
    there
    ∙ both_or (is_leaf x.leaf) (span_has (span_of s) (position_of x.leaf))
    (spans_have (map span_of rest) (position_of x.leaf)) (window_has window x)

-- a volume by the positions of its leaves
volume_by_parts : (v : Block) (x : Point)
    → block_has v x
    ≡ (is_leaf x.leaf && (shape_positions v.footprint (position_of x.leaf) && window_has v.window x))
volume_by_parts v x = by_leaf (is_leaf x.leaf) refl where
  within : Bool
  within = window_has v.window x

  by_leaf : (is : Bool) → is_leaf x.leaf ≡ is → (shape_has v.footprint x.leaf && within)
      ≡ (is && (shape_positions v.footprint (position_of x.leaf) && within))
  by_leaf true is =
      ap (λ leaf. shape_has v.footprint leaf && within)
      (sym (leaf_undone x.leaf ((leaf_test x.leaf).0 is)))
  by_leaf false outside = ap (λ b. b && within) (leaves_alone v.footprint x.leaf outside)

-- slabs on the ranges of a volume's leaves
pub volume_slabs : (v : Block) (spans : List Span) (slabs : List Slab)
    → IsRanges (shape_positions v.footprint) spans → AreSlabsOn spans v.window slabs
    → AreVolumeSlabs v slabs
volume_slabs v spans slabs ranges on = record {
  ranges = subst (IsRanges (shape_positions v.footprint)) (sym on.each) ranges;
  windows = on.windows;
}

-- the slabs of a volume have exactly its points
pub volume_points : (v : Block) (slabs : List Slab) → AreVolumeSlabs v slabs → (x : Point)
    → slabs_have slabs x ≡ block_has v x
volume_points v slabs are x =
    slabs_by_parts slabs v.window x are.windows
    ∙ ap (λ b. is_leaf x.leaf && (b && window_has v.window x))
    (are.ranges.positions (position_of x.leaf))
    ∙ sym (volume_by_parts v x)

-- the slabs of an area have exactly its points
pub area_points : (area : List Block) (slabs : List Slab) → AreAreaSlabs area slabs → (x : Point)
    → slabs_have slabs x ≡ area_has area x
area_points [] slabs are x = ap (λ s. slabs_have s x) are
area_points (v ∷ vs) slabs (front, rest, whole, here, there) x =
    ap (λ s. slabs_have s x) whole ∙ list_any-append (λ s. slab_has s x) front rest
    ∙ ap (λ b. b || slabs_have rest x) (volume_points v front here x)
    ∙ ap (λ b. block_has v x || b) (area_points vs rest there x)

-- in whatever order they stand
pub sorted_points : (area : List Block) (slabs : List Slab) → AreSortedSlabs area slabs → (x : Point)
    → slabs_have slabs x ≡ area_has area x
sorted_points area slabs are x =
    sym (list_any-IsPermutation (λ s. slab_has s x) are.listed slabs are.same)
    ∙ area_points area are.listed are.of_area x

-- the slabs of one more volume
pub slabs_of_push : (area : List Block) (v : Block) (slabs more : List Slab)
    → AreAreaSlabs area slabs → AreVolumeSlabs v more
    → AreAreaSlabs (area ++ v ∷ []) (slabs ++ more)
slabs_of_push [] v slabs more are next = (
  more,
  [],
  ap (λ s. s ++ more) are
      ∙ sym (append-nil more),
  next,
  refl,
)
slabs_of_push (w ∷ ws) v slabs more (front, rest, whole, here, there) next = (
  front,
  rest ++ more,
  ap (λ s. s ++ more) whole
      ∙ append_assoc front rest more,
  here,
  slabs_of_push ws v rest more there next,
)
