-- How many cells the canonical cover of a footprint has.
use Rattle.std.proofs.Common.{◌≡◌, ℕ, ◌*◌, ◌^◌, ◌≤◌, Bool, false, List, [], ◌∷◌, length, refl, sym, subst, ◌∙◌, arith, inl, inr, IsTrue}
use Rattle.std.specs.Prelude.{All, Contains, nat_le, nat_eq}
use Rattle.std.proofs.lemmas.Bool.{cases_lt, and_left, and_parts, false_from_ne_true, leb-true, or_from}
use Rattle.std.proofs.lemmas.Bool.Decides.{nat_tests}
use Rattle.std.proofs.lemmas.List.Elements.{All-head, All-tail, All-contains}
use Rattle.s2_hilbert.specs.Curve.{grid_leaf_at}
use Rattle.s2_cellid.specs.Cell.{IsCellId, cell_has}
use Rattle.s2_cellid.proofs.lemmas.Family.{position_in}
use Rattle.s2_cover.specs.Covers.{IsCanonical, canonical_list, leaves_of, RectParts, IsRect, wide_set, rect_leaves}
use Rattle.volume4d.specs.VolumeLimits.{max_cells, max_cover}
use Rattle.volume4d.specs.Volume.{Shape, cells, rectangle, is_footprint, shape_positions}
use Rattle.volume4d.specs.Footprint.{HasValidParts}
use Rattle.volume4d.proofs.LeafTests.{face_at, no_leaf_at}
use Rattle.volume4d.proofs.FootprintRanges.{leaves_alone, cells_below, rectangle_below}

-- no cell has a position past the last leaf
none_past : (ids : List ℕ) (p : ℕ) → All IsCellId ids → 6 * 2 ^ 60 ≤ p → leaves_of ids p ≡ false
none_past [] p valid past = refl
none_past (id ∷ ids) p valid past =
    or_from (cell_has id p) (leaves_of ids p)
    (false_from_ne_true (cell_has id p)
    (λ has. let below = position_in id p (All-head IsCellId id ids valid) has in omega (arith, below, past)))
    (none_past ids p (All-tail IsCellId id ids valid) past)

cells_are : (ids : List ℕ) (p : ℕ) → All IsCellId ids → leaves_of ids p ≡ shape_positions (cells ids) p
cells_are ids p valid = elim (cases_lt p (6 * 2 ^ 60)) [
  | inl within ↦ sym (cells_below ids p within)
  | inr past ↦ none_past ids p valid past
      ∙ sym (leaves_alone (cells ids) (grid_leaf_at p) (no_leaf_at p past))
]

rectangle_past : (r : RectParts) (p : ℕ) → IsRect r → 6 * 2 ^ 60 ≤ p → rect_leaves r p ≡ false
unfolding wide_set
rectangle_past r p is past =
    and_left (nat_eq (grid_leaf_at p).face r.face) _
    (let face = face_at p in grind (arith, nat_tests, face, past, is.face))

rectangle_is : (r : RectParts) (p : ℕ) → IsRect r → rect_leaves r p ≡ shape_positions (rectangle r) p
rectangle_is r p is = elim (cases_lt p (6 * 2 ^ 60)) [
  | inl within ↦ sym (rectangle_below r p within)
  | inr past ↦ rectangle_past r p is past
      ∙ sym (leaves_alone (rectangle r) (grid_leaf_at p) (no_leaf_at p past))
]

module _ (one_list : (set : ℕ → Bool) (one other : List ℕ) → IsCanonical set one → IsCanonical set other
    → one ≡ other)
    (equal_sets : (set other : ℕ → Bool) (ids : List ℕ) → ((p : ℕ) → set p ≡ other p)
    → IsCanonical set ids → IsCanonical other ids)
    (list_is : (set : ℕ → Bool) → IsCanonical set (canonical_list set))
    (shortest : (set : ℕ → Bool) (ids others : List ℕ) → IsCanonical set ids
    → ((id : ℕ) → Contains others id → IsCellId id) → ((p : ℕ) → leaves_of others p ≡ set p)
    → length ids ≤ length others) where
  pub few : (shape : Shape) → IsTrue (is_footprint shape) → HasValidParts shape
      → length (canonical_list (shape_positions shape)) ≤ max_cover
  few (cells ids) count valid =
      let no_more = shortest (shape_positions (cells ids)) (canonical_list (shape_positions (cells ids))) ids
      (list_is (shape_positions (cells ids))) (λ id has. All-contains IsCellId ids id valid has)
      (λ p. cells_are ids p valid) in
      let bounds = and_parts (nat_le 1 (length ids)) _ count in
      omega (arith, no_more, leb-true (length ids) max_cells bounds.1)
  few (rectangle r) count is =
      let set = shape_positions (rectangle r) in
      let same = one_list set (canonical_list set) (canonical_list (rect_leaves r)) (list_is set)
      (equal_sets (rect_leaves r) set (canonical_list (rect_leaves r)) (λ p. rectangle_is r p is)
      (list_is (rect_leaves r))) in
      subst (λ ids. length ids ≤ max_cover) (sym same) (leb-true _ max_cover count)
