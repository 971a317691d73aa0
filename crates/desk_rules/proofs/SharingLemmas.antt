-- Areas that share a point.
use Rattle.std.proofs.Common.{◌≡◌, Bool, true, false, ◌&&◌, List, Option, Some, None, refl, sym, ◌∙◌}
use Rattle.std.specs.Prelude.{is_some}
use Rattle.std.proofs.lemmas.Bool.{and_parts}
use Rattle.volume4d.specs.declared.slab.Slab.{Slab}
use Rattle.volume4d.specs.Volume.{Point, Block, area_has}
use Rattle.volume4d.specs.Slab.{slabs_have}
use Rattle.volume4d.specs.Sweep.{IsFirstPoint}
use Rattle.desk_rules.specs.Conflict.{AreSlabsOf, first_point, HaveAPoint, share_a_point}
use Rattle.desk_rules.proofs.ConflictLemmas.{first_point_is}

-- what the search finds
first_is : (area other : List Block) → IsFirstPoint (λ x. area_has area x && area_has other x)
    (first_point area (λ x. area_has area x && area_has other x))
first_is area other =
    first_point_is area (λ x. area_has area x && area_has other x)
    (λ x e. (and_parts (area_has area x) _ e).0)

-- what the test finds is there
pub is_there : (area other : List Block) → share_a_point area other ≡ true → HaveAPoint area other
unfolding share_a_point
is_there area other = by_first (first_point area (λ x. area_has area x && area_has other x))
    (first_is area other) where
      by_first : (o : Option Point) → IsFirstPoint (λ x. area_has area x && area_has other x) o
          → is_some o ≡ true
          → HaveAPoint area other
      by_first None h e = cc
      by_first (Some x) h e = let parts = and_parts (area_has area x) _ h.0 in (x, parts.0, parts.1)

-- and what is there it finds
pub is_found : (area other : List Block) → HaveAPoint area other → share_a_point area other ≡ true
unfolding share_a_point
is_found area other p = by_first (first_point area (λ x. area_has area x && area_has other x))
    (first_is area other) where
      here : (area_has area p.0 && area_has other p.0) ≡ true
      here = rw (p.1, p.2) refl

      by_first : (o : Option Point) → IsFirstPoint (λ x. area_has area x && area_has other x) o
          → is_some o ≡ true
      by_first None h = let no = h p.0 in let yes = here in cc
      by_first (Some x) h = refl

-- two tests that say the same
same_test : (P : Type 0) (a b : Bool) → (a ≡ true → P) → (P → a ≡ true) → (b ≡ true → P)
    → (P → b ≡ true) → a
    ≡ b
same_test P true b to from in_b out_b = sym (out_b (to refl))
same_test P false true to from in_b out_b = from (in_b refl)
same_test P false false to from in_b out_b = refl

-- a point that the slabs of two areas share is one that the areas share
pub shared_by_slabs : (area other : List Block) (mine theirs : List Slab) (found : Bool)
    → AreSlabsOf mine area
    → AreSlabsOf theirs other
    → (found ≡ true → (x : Point) × (slabs_have mine x ≡ true) × (slabs_have theirs x ≡ true))
    → ((x : Point) × (slabs_have mine x ≡ true) × (slabs_have theirs x ≡ true) → found ≡ true)
    → found ≡ share_a_point area other
shared_by_slabs area other mine theirs found slabs others to from =
    same_test (HaveAPoint area other) found (share_a_point area other)
    (λ e. let p = to e in (p.0, sym (slabs p.0) ∙ p.1, sym (others p.0) ∙ p.2))
    (λ p. from (p.0, slabs p.0 ∙ p.1, others p.0 ∙ p.2))
    (is_there area other) (is_found area other)
