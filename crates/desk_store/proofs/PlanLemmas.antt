-- Where a plan is not.
use Rattle.std.proofs.Common.{◌≡◌, Bool, true, false, true≢false, ◌||◌, List, [], ◌∷◌, sym, ap, ◌∙◌, refl, inl, inr}
use Rattle.std.specs.List.{list_any}
use Rattle.std.proofs.lemmas.Bool.{or_cases, or_right}
use Rattle.volume4d.specs.declared.slab.Slab.{Slab}
use Rattle.volume4d.specs.Volume.{Point, Block, area_has}
use Rattle.volume4d.specs.Slab.{slab_has, slabs_have, overlap}
use Rattle.volume4d.proofs.lemmas.Bounds.{overlapping}
use Rattle.desk_store.specs.World.{AreSlabs, SharesNoPoint}

-- a slab that has a point of one of some others overlaps one of them
pub overlaps_at : (slab : Slab) (others : List Slab) (x : Point) → slab_has slab x ≡ true
    → slabs_have others x ≡ true → list_any (overlap slab) others ≡ true
overlaps_at slab [] x has inside = cc
overlaps_at slab (o ∷ os) x has inside = elim (or_cases (slab_has o x) (slabs_have os x) inside) [
  | inl h ↦ ap (λ b. b || list_any (overlap slab) os) (overlapping slab o x has h)
  | inr h ↦ or_right (overlap slab o) (list_any (overlap slab) os) (overlaps_at slab os x has h)
]

-- an area has no point of some extents that its bounds don't overlap
pub no_point : (area : List Block) (slabs : List Slab) (bounds : Slab) (extents : List Slab)
    → AreSlabs area slabs bounds → list_any (overlap bounds) extents ≡ false → SharesNoPoint area extents
no_point area slabs bounds extents are apart =
    λ x inside. by_test x inside (area_has area x) refl where
      by_test : (x : Point) → slabs_have extents x ≡ true → (b : Bool) → area_has area x ≡ b → b ≡ false
      by_test x inside false e = refl
      by_test x inside true e =
          absurd (true≢false (sym (overlaps_at bounds extents x (are.1 x e) inside) ∙ apart))
