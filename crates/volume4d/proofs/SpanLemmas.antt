-- How many spans a volume takes, and how many cells it has.
use Rattle.std.proofs.Common.{◌≡◌, ℕ, ◌*◌, ◌^◌, ◌<◌, ◌≤◌, Bool, List, length, subst, arith, inl, inr, IsTrue}
use Rattle.std.specs.Prelude.{nat_le}
use Rattle.std.proofs.lemmas.Bool.{and_parts, both_ways, cases_lt, leb-true}
use Rattle.s2_hilbert.specs.Curve.{grid_leaf_at}
use Rattle.s2_cover.specs.Covers.{IsCanonical, canonical_list, leaves_of, range_count}
use Rattle.volume4d.specs.VolumeLimits.{max_cells, max_cover}
use Rattle.volume4d.specs.Volume.{Shape, cells, rectangle, is_footprint, shape_positions, shape_cells, volume_cells, volume_spans, Block}
use Rattle.volume4d.specs.Footprint.{HasValidParts}
use Rattle.volume4d.proofs.LeafTests.{no_leaf_at}
use Rattle.volume4d.proofs.FootprintRanges.{leaves_alone}

-- a footprint has positions of leaves alone
on_leaves : (shape : Shape) (p : ℕ) → IsTrue (shape_positions shape p) → p < 6 * 2 ^ 60
on_leaves shape p has = elim (cases_lt p (6 * 2 ^ 60)) [
  | inl within ↦ within
  | inr past ↦
      absurd (both_ways (shape_positions shape p)
      (leaves_alone shape (grid_leaf_at p) (no_leaf_at p past)) has)
]

few_in : (shape : Shape) → IsTrue (is_footprint shape) → shape_cells shape ≤ max_cover
few_in (cells ids) count =
    let bounds = and_parts (nat_le 1 (length ids)) _ count in
    omega (arith, leb-true (length ids) max_cells bounds.1)
few_in (rectangle r) count = leb-true _ max_cover count

pub few_cells : (v : Block) → IsTrue (is_footprint v.footprint) → volume_cells v ≤ max_cover
few_cells v limits = few_in v.footprint limits

module _ (covers : (shape : Shape) → IsTrue (is_footprint shape) → HasValidParts shape
    → length (canonical_list (shape_positions shape)) ≤ max_cover)
    (one_list : (set : ℕ → Bool) (one other : List ℕ) → IsCanonical set one → IsCanonical set other
    → one ≡ other)
    (exists : (set : ℕ → Bool) → ((p : ℕ) → IsTrue (set p) → p < 6 * 2 ^ 60)
    → (ids : List ℕ) × (IsCanonical set ids × ((p : ℕ) → leaves_of ids p ≡ set p)))
    (list_is : (set : ℕ → Bool) → IsCanonical set (canonical_list set))
    (few : (set : ℕ → Bool) (ids : List ℕ) → ((p : ℕ) → leaves_of ids p ≡ set p)
    → range_count set ≤ length ids) where
  pub few_spans : (v : Block) → IsTrue (is_footprint v.footprint) → HasValidParts v.footprint
      → volume_spans v ≤ max_cover
  few_spans v limits valid =
      let set = shape_positions v.footprint in
      let found = exists set (on_leaves v.footprint) in
      let same = one_list set found.0 (canonical_list set) found.1.0 (list_is set) in
      let within = subst (λ ids. range_count set ≤ length ids) same (few set found.0 found.1.1) in
      omega (arith, within, covers v.footprint limits valid)
