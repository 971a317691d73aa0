-- Slabs parted at a gap.
use Rattle.std.proofs.Common.{◌≡◌, ℕ, ◌<◌, ◌≤◌, true, ◌||◌, List, length, get_or, take, drop, sym, ap, ◌∙◌, arith, take-append-drop}
use Rattle.std.proofs.lemmas.List.Folds.{list_any-append}
use Rattle.s2_hilbert.specs.Curve.{position_of}
use Rattle.volume4d.specs.declared.slab.Slab.{Slab}
use Rattle.volume4d.specs.Volume.{Point}
use Rattle.volume4d.specs.Slab.{slab_has, slabs_have, AreInTurn, IsCluster}
use Rattle.volume4d.specs.Sweep.{Ascend}
use Rattle.volume4d.proofs.Sweeping.{later_begin, not_less_after}

-- no point of the first slabs lies after the position
abbrev pub ReachTo : ℕ → List Slab → Type 0
ReachTo reach slabs = (x : Point) → slabs_have slabs x ≡ true → position_of x.leaf ≤ reach

-- what begins after all points of the first slabs comes in turn
pub in_turn_at : (slabs : List Slab) (n : ℕ) (slab : Slab) (reach : ℕ) → n < length slabs
    → slab ≡ get_or slabs n slab → Ascend (λ s. s) slabs → ReachTo reach (take n slabs)
    → reach < slab.first → AreInTurn (take n slabs) (drop n slabs)
in_turn_at slabs n slab reach below is up so_far far x y early late e =
    let begins = later_begin (λ s. s) slabs n slab y below is up late in
    not_less_after (position_of x.leaf) (position_of y.leaf) _ (omega (arith, so_far x early, far, begins)) e

pub cluster_at : (slabs cluster later : List Slab) (n : ℕ) → 0 < n → n ≤ length slabs
    → cluster ≡ take n slabs → later ≡ drop n slabs → AreInTurn (take n slabs) (drop n slabs)
    → IsCluster slabs cluster later
cluster_at slabs cluster later n some within cluster_is later_is in_turn = record {
  count = n;
  some = some;
  within = within;
  cluster_is = cluster_is;
  later_is = later_is;
  points = λ x.
      ap (λ l. slabs_have l x) (sym (take-append-drop n slabs))
      ∙ list_any-append (λ s. slab_has s x) (take n slabs) (drop n slabs)
      ∙ ap (λ l. slabs_have l x || slabs_have (drop n slabs) x) (sym cluster_is)
      ∙ ap (λ l. slabs_have cluster x || slabs_have l x) (sym later_is);
  in_turn = λ x y early late.
      in_turn x y (ap (λ l. slabs_have l x) (sym cluster_is) ∙ early)
      (ap (λ l. slabs_have l y) (sym later_is) ∙ late);
}
