-- The test of a rectangle's leaves, in the words of its footprint.
use Rattle.std.proofs.Common.{◌≡◌, ℕ, ◌-◌, ◌/◌, ◌<◌, ◌≤◌, true, refl, ◌∙◌, ap, arith, inl, inr}
use Rattle.std.specs.Prelude.{◌↔◌, ◌&&◌, ◌==◌, IsTrue}
use Rattle.std.specs.Int.{IsInRange}
use Rattle.std.proofs.lemmas.Bool.{cases_lt, and_parts}
use Rattle.std.proofs.lemmas.Bool.Decides.{nat_tests}
use Rattle.std.proofs.lemmas.Nat.{pow_pos}
use Rattle.s2_hilbert.specs.Grid.{GridLeaf, grid_leaf, side_of}
use Rattle.s2_cover.specs.Covers.{RectParts, IsRect, IsInFootprint, widened, wide_has, is_along}
use Rattle.s2_cover.proofs.RangeTests.{in_range, of_range}
use Rattle.s2_cover.proofs.Sights.{div_mono, on_face}

-- a number of a range with the quotient of another
record IsClamped (side least greatest n : ℕ) : Type 0 where
  number : ℕ
  within : IsInRange least greatest number
  same : n / side ≡ number / side

clamped : (side least greatest n : ℕ) → 0 < side → least ≤ greatest → least / side ≤ n / side
    → n / side ≤ greatest / side → IsClamped side least greatest n
clamped side least greatest n some order low high = elim (cases_lt n least) [
  | inl before ↦ record {
    number = least;
    within = (omega arith, order);
    same = omega (arith, low, div_mono n least side some (omega (arith, before)));
  }
  | inr from ↦ elim (cases_lt greatest n) [
    | inl after ↦ record {
      number = greatest;
      within = (order, omega arith);
      same = omega (arith, high, div_mono greatest n side some (omega (arith, after)));
    }
    | inr upto ↦ record { number = n; within = (from, upto); same = refl }
  ]
]

along_is : (side least greatest n m : ℕ) → 0 < side → IsInRange least greatest m → n / side ≡ m / side
    → is_along side (least / side) (greatest / side) n ≡ true
along_is side least greatest n m some range same =
    of_range (least / side) (greatest / side) (n / side)
    (omega (arith, div_mono least m side some range.0, same))
    (omega (arith, div_mono m greatest side some range.1, same))

same_face : (a b : ℕ) → (a == b) ≡ true → a ≡ b
same_face a b holds = grind (arith, nat_tests)

pub footprint_is : (rect : RectParts) (leaf : GridLeaf) → IsRect rect
    → IsTrue (wide_has (widened rect) leaf) ↔ IsInFootprint rect leaf
footprint_is rect leaf is =
    let side = side_of rect.level in
    let some : 0 < side = pow_pos (30 - rect.level) in (
      λ has.
          let parts = and_parts _ _ has in
          let combined_overlap = and_parts _ _ parts.1 in
          let i_range = in_range (rect.i_min / side) (rect.i_max / side) (leaf.i / side) combined_overlap.0 in
          let j_range = in_range (rect.j_min / side) (rect.j_max / side) (leaf.j / side) combined_overlap.1 in
          let i = clamped side rect.i_min rect.i_max leaf.i some is.i_order i_range.0 i_range.1 in
          let j = clamped side rect.j_min rect.j_max leaf.j some is.j_order j_range.0 j_range.1 in
          record {
            inner = grid_leaf rect.face i.number j.number;
            is = record {
              face_below = is.face;
              i_below = omega (arith, i.within, is.i_below);
              j_below = omega (arith, j.within, is.j_below);
            };
            face = refl;
            i = i.within;
            j = j.within;
            share = record {
              same_face = same_face leaf.face rect.face parts.0;
              same_i = i.same;
              same_j = j.same;
            };
          },
      λ inside.
          let face = on_face (widened rect) leaf (inside.share.same_face ∙ inside.face) in
          let i = along_is side rect.i_min rect.i_max leaf.i inside.inner.i some inside.i inside.share.same_i
          in
          let j = along_is side rect.j_min rect.j_max leaf.j inside.inner.j some inside.j inside.share.same_j
          in
          ap (λ b. b && (is_along side (rect.i_min / side) (rect.i_max / side) leaf.i
          && is_along side (rect.j_min / side) (rect.j_max / side) leaf.j)) face
          ∙ ap (λ b. b && is_along side (rect.j_min / side) (rect.j_max / side) leaf.j) i ∙ j,
    )
