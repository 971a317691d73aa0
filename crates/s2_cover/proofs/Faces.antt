-- The cover of a rectangle, from the walk over its face.
use Rattle.std.proofs.Common.{◌≡◌, ◌≢◌, ℕ, ◌+◌, ◌-◌, ◌*◌, ◌/◌, ◌^◌, ◌<◌, ◌≤◌, Bool, true, false, List, [], ◌∷◌, ◌++◌, length, refl, sym, ◌∙◌, ap, subst, arith, inl, inr}
use Rattle.std.specs.Prelude.{◌↔◌, ◌&&◌, ◌==◌, IsTrue}
use Rattle.std.specs.Int.{IsInRange}
use Rattle.std.proofs.Math.Nat.{mul-le-mul_right}
use Rattle.std.proofs.lemmas.Bool.{cases_lt, both_ways}
use Rattle.std.proofs.lemmas.Bool.Decides.{nat_tests}
use Rattle.s2_hilbert.specs.Grid.{GridLeaf, grid_leaf, IsLeaf, GridSquare, IsSquare, grid_square, side_of}
use Rattle.s2_hilbert.specs.Curve.{position_of, grid_leaf_at, first_position, last_position, place}
use Rattle.s2_hilbert.proofs.lemmas.Curve.{leaf_undone}
use Rattle.s2_cellid.specs.Cell.{square_id, IsCellId, first_leaf, last_leaf, cell_has}
use Rattle.s2_cover.specs.Covers.{leaves_of, IsCanonical, IsLaid, RectParts, IsRect, IsInFootprint, WideParts, widened, wide_has, wide_set, rect_leaves, is_along, IsOpened, HasWalked, HasStopped, AreCrossed, AreCrossedIn, HasCompared, IsRefused, comparisons_for, max_comparisons}
use Rattle.s2_cover.specs.declared.walk.CoverFault.{CoverFault}
use Rattle.s2_cover.specs.declared.walk.CoverFault.TheVariants.{TooManyCells, OutOfMemory}
use Rattle.s2_cover.proofs.Laid.{has_position, laid_none, laid_upto, canonical_when_laid, leaves_when_laid, canonical_same}
use Rattle.s2_cover.proofs.SquareCells.{square_block, some_leaves}
use Rattle.s2_cover.proofs.Nesting.{nested, place_of}
use Rattle.s2_cover.proofs.Existence.{has_canonical}
use Rattle.s2_cover.proofs.Footprints.{footprint_is}

-- a whole face
abbrev pub whole : ℕ → GridSquare
whole face = grid_square face 0 0 0

pub whole_is : (face : ℕ) → face < 6 → IsSquare (whole face)
whole_is face below = record {
  face_below = below;
  level_at_most = omega arith;
  a_below = omega arith;
  b_below = omega arith;
}

pub whole_first : (face : ℕ) → first_position (whole face) ≡ face * 2 ^ 60
unfolding first_position place
whole_first face = omega arith

face_at : (p : ℕ) → (grid_leaf_at p).face ≡ p / 2 ^ 60
unfolding grid_leaf_at
face_at p = refl

not_same : (a b : ℕ) → a ≢ b → (a == b) ≡ false
not_same a b other = grind (arith, nat_tests)

-- a position of another face is none of the rectangle's
other_face : (w : WideParts) (p : ℕ) → p / 2 ^ 60 ≢ w.face → wide_set w p ≡ false
unfolding wide_set
other_face w p other =
    let leaf = grid_leaf_at p in
    ap (λ b. b && (is_along (side_of w.level) w.a_min w.a_max leaf.i
    && is_along (side_of w.level) w.b_min w.b_max leaf.j))
    (not_same leaf.face w.face (λ same. other (sym (face_at p) ∙ same)))

pub laid_before : (w : WideParts) → IsLaid (wide_set w) [] (first_position (whole w.face))
laid_before w =
    laid_upto (wide_set w) [] 0 (first_position (whole w.face)) (laid_none (wide_set w)) (omega arith)
    (λ p low high. other_face w p (λ same. omega (arith, same, high, whole_first w.face)))

pub within_face : (w : WideParts) (p : ℕ) → IsTrue (wide_set w p) → p < last_position (whole w.face) + 1
within_face w p has = elim (cases_lt p (last_position (whole w.face) + 1)) [
  | inl within ↦ within
  | inr after ↦
      absurd (both_ways (wide_set w p) (other_face w p
      (λ same. omega (arith, same, after, whole_first w.face))) has)
]

from_face : (w : WideParts) (p : ℕ) → IsTrue (wide_set w p) → first_position (whole w.face) ≤ p
from_face w p has = elim (cases_lt p (first_position (whole w.face))) [
  | inr from ↦ from
  | inl before ↦
      absurd (both_ways (wide_set w p) (other_face w p
      (λ same. omega (arith, same, before, whole_first w.face))) has)
]

-- a cell with a leaf of the rectangle lies on its face
lies_on_face : (w : WideParts) (id p : ℕ) → w.face < 6 → IsCellId id → IsTrue (cell_has id p)
    → IsTrue (wide_set w p)
    → (first_position (whole w.face) ≤ first_leaf id)
    × (last_leaf id < last_position (whole w.face) + 1)
lies_on_face w id p face valid here has =
    let block = square_block (whole w.face) (whole_is w.face face) in
    let on_face : IsTrue (cell_has (square_id (whole w.face)) p) =
    has_position (square_id (whole w.face)) p block.valid
    (omega (arith, block.begins, from_face w p has))
    (omega (arith, block.ends, within_face w p has, some_leaves 0)) in
    let lies =
    nested id (square_id (whole w.face)) p valid block.valid here on_face
    (omega (arith, place_of id valid, block.place)) in (
      omega (arith, lies.first, block.begins),
      omega (arith, lies.last, block.ends, some_leaves 0),
    )

-- all crossed cells lie on the rectangle's face
all_crossed : (w : WideParts) (ids : List ℕ) → w.face < 6
    → AreCrossedIn (wide_set w) 60 (first_position (whole w.face)) (last_position (whole w.face) + 1)
    ids
    → AreCrossed (wide_set w) ids
all_crossed w ids face crossed = record {
  once = crossed.once;
  members = λ id. (
    λ there. ((crossed.members id).0 there).crossed,
    λ is.
        let range = lies_on_face w id is.inside.0 face is.valid is.inside.1.0 is.inside.1.1 in
        (crossed.members id).1 (record {
          crossed = is;
          place = omega (arith, place_of id is.valid);
          begins = range.0;
          ends = range.1;
        }),
  );
}

below_leaves : (w : WideParts) (p : ℕ) → w.face < 6 → IsTrue (wide_set w p) → p < 6 * 2 ^ 60
below_leaves w p face has = omega (arith, within_face w p has, whole_first w.face, face)

pub whole_opened : (set : ℕ → Bool) (face : ℕ) → face < 6 → IsOpened set (square_id (whole face))
whole_opened set face below = inl (square_block (whole face) (whole_is face below)).level_is

-- the greatest number of comparisons of a level and a number of cells
pub most_looks : (level cells limit : ℕ) → level ≤ 24 → cells ≤ limit + 1
    → comparisons_for level cells ≤ max_comparisons limit
most_looks level cells limit low few =
    let product : level * cells ≤ 24 * cells = mul-le-mul_right cells low in omega (arith, product, few)

-- what a walk over the whole face has found
pub record IsCovered (set : ℕ → Bool) (limit : ℕ) (ids : List ℕ) (looked : ℕ) : Type 0 where
  pub canonical : IsCanonical set ids
  pub leaves : (p : ℕ) → leaves_of ids p ≡ set p
  pub own : IsCanonical (leaves_of ids) ids
  pub few : length ids ≤ limit
  pub comparisons : IsInRange (length ids) (max_comparisons limit) looked
  pub exact : HasCompared set looked

pub covered : (w : WideParts) (square : GridSquare) (limit new : ℕ) (before ids : List ℕ)
    → square ≡ whole w.face
    → before ≡ [] → w.face < 6 → w.level ≤ 24
    → HasWalked (wide_set w) (w.level - square.level) limit (first_position square)
    (last_position square + 1) before ids 0 new
    → IsCovered (wide_set w) limit ids new
covered w square limit new before ids is none face level walked =
    let set = wide_set w in
    let upto = last_position square + 1 in
    let within : (p : ℕ) → IsTrue (set p) → p < upto =
    λ p has. subst (λ s. p < last_position s + 1) (sym is) (within_face w p has) in
    let canonical = canonical_when_laid set ids upto walked.laid within in
    let leaves = leaves_when_laid set ids upto walked.laid within in
    let long : length ids ≡ length walked.more =
    ap length (walked.grown ∙ ap (λ b. b ++ walked.more) none) in
    let most =
    most_looks (w.level - square.level) (length walked.more) limit (omega (arith, level))
    (omega (arith, long, walked.few)) in
    record {
      canonical = canonical;
      leaves = leaves;
      own = canonical_same set (leaves_of ids) ids (λ p. sym (leaves p)) canonical;
      few = walked.few;
      comparisons = (walked.counted, omega (arith, walked.comparisons, most));
      exact = (
        walked.marked,
        (
          all_crossed w walked.marked face
              (subst (λ s. AreCrossedIn set 60 (first_position s) (last_position s + 1) walked.marked)
              is
              walked.crossed),
          omega (arith, walked.exact),
        ),
      );
    }

pub refused : (w : WideParts) (limit levels left : ℕ) (fault : CoverFault) → w.face < 6 → levels ≤ 24
    → left ≤ limit + 1 → HasStopped (wide_set w) limit (0 + comparisons_for levels left) fault
    → IsRefused (wide_set w) limit fault
refused w limit levels left (TooManyCells looked) face level few stopped =
    let set = wide_set w in
    let ids = has_canonical set (λ p. below_leaves w p face) in
    let most = most_looks levels left limit level few in (
      (stopped.0.0, omega (arith, stopped.0.1, most)),
      (ids.0, (ids.1.0, stopped.1 ids.0 ids.1.0)),
    )
refused w limit levels left OutOfMemory face level few stopped = tt

-- the leaves of the cover are the footprint's
pub covers_footprint : (rect : RectParts) (ids : List ℕ) → IsRect rect
    → ((p : ℕ) → leaves_of ids p ≡ rect_leaves rect p) → (leaf : GridLeaf) → IsLeaf leaf
    → IsTrue (leaves_of ids (position_of leaf)) ↔ IsInFootprint rect leaf
unfolding wide_set
covers_footprint rect ids is same leaf here =
    let undone : wide_has (widened rect) (grid_leaf_at (position_of leaf))
    ≡ wide_has (widened rect) leaf =
    ap (wide_has (widened rect)) (leaf_undone leaf here) in
    let tests : leaves_of ids (position_of leaf) ≡ wide_has (widened rect) leaf =
    same (position_of leaf)
    ∙ undone in
    let reported = footprint_is rect leaf is in (
      λ has. reported.0 (sym tests ∙ has),
      λ inside. tests ∙ reported.1 inside,
    )

-- the leaf at the least coordinates belongs to its rectangle
least_leaf : (r : RectParts) → IsRect r → IsInFootprint r (grid_leaf r.face r.i_min r.j_min)
least_leaf r is = record {
  inner = grid_leaf r.face r.i_min r.j_min;
  is = record { face_below = is.face; i_below = omega (arith, is); j_below = omega (arith, is) };
  face = refl;
  i = (omega arith, is.i_order);
  j = (omega arith, is.j_order);
  share = record { same_face = refl; same_i = refl; same_j = refl };
}

some_of : (ids : List ℕ) (p : ℕ) → leaves_of ids p ≡ true → 0 < length ids
some_of [] p has = cc
some_of (id ∷ ids) p has = omega arith

-- so its cover has a cell
pub some_cells : (r : RectParts) (ids : List ℕ) → IsRect r
    → ((leaf : GridLeaf) → IsLeaf leaf → IsTrue (leaves_of ids (position_of leaf))
    ↔ IsInFootprint r leaf)
    → 0 < length ids
unfolding least_leaf
some_cells r ids is reported =
    let least = least_leaf r is in
    some_of ids (position_of (grid_leaf r.face r.i_min r.j_min))
    ((reported (grid_leaf r.face r.i_min r.j_min) least.is).1 least)
