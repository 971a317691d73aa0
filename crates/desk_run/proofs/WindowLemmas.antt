-- Extents that have the points of slabs, one slab after the other.
use Rattle.std.proofs.Common.{◌≡◌, ℕ, ◌+◌, ◌<◌, Bool, true, ◌||◌, List, ◌∷◌, [], zero, suc, length, get_or, take, set, sym, ap, ◌∙◌, inl, inr, arith}
use Rattle.std.proofs.lemmas.Bool.{or_cases, or_right}
use Rattle.std.proofs.lemmas.List.Folds.{list_any_more}
use Rattle.volume4d.specs.declared.slab.Slab.{Slab}
use Rattle.volume4d.specs.Volume.{Point}
use Rattle.volume4d.specs.Slab.{slab_has, slabs_have, IsJoin}
use Rattle.volume4d.proofs.lemmas.Bounds.{join_has}
use Rattle.desk_run.specs.HeldAmong.{Keep, HavePart}

or_left : (a b : Bool) → a ≡ true → (a || b) ≡ true
or_left a b e = ap (λ t. t || b) e

-- one more slab
pub part_more : (slabs : List Slab) (i : ℕ) (s : Slab) (piece : Slab) (old new : List Slab)
    → i < length slabs → s ≡ get_or slabs i s → Keep old new
    → HavePart (slabs_have (take i slabs)) piece old → HavePart (slab_has s) piece new
    → HavePart (slabs_have (take (i + 1) slabs)) piece new
part_more slabs i s piece old new below is kept before more x has at =
    elim (or_cases (slabs_have (take i slabs) x) (slab_has s x)
    (sym (list_any_more (λ t. slab_has t x) slabs i s below
    ∙ ap (λ t. slabs_have (take i slabs) x || slab_has t x) (sym is)) ∙ has)) [
      | inl h ↦ kept x (before x h at)
      | inr h ↦ more x h at
    ]

-- an extent that is widened keeps its points, and has those of a slab that it is joined to
pub widened_keep : (old : List Slab) (i : ℕ) (d s new : Slab) → i < length old
    → IsJoin (get_or old i d) s new → Keep old (set old i new)
widened_keep [] i d s new below join x has = absurd (omega (arith, below))
widened_keep (o ∷ os) zero d s new below join x has =
    elim (or_cases (slab_has o x) (slabs_have os x) has) [
      | inl h ↦ or_left (slab_has new x) (slabs_have os x)
          (join_has o s new x join (or_left (slab_has o x) (slab_has s x) h))
      | inr h ↦ or_right (slab_has new x) (slabs_have os x) h
    ]
widened_keep (o ∷ os) (suc i) d s new below join x has =
    elim (or_cases (slab_has o x) (slabs_have os x) has) [
      | inl h ↦ or_left (slab_has o x) (slabs_have (set os i new) x) h
      | inr h ↦ or_right (slab_has o x) (slabs_have (set os i new) x)
          (widened_keep os i d s new (omega (arith, below)) join x h)
    ]

pub widened_has : (old : List Slab) (i : ℕ) (d s new : Slab) (x : Point) → i < length old
    → IsJoin (get_or old i d) s new → slab_has s x ≡ true → slabs_have (set old i new) x ≡ true
widened_has [] i d s new x below join has = absurd (omega (arith, below))
widened_has (o ∷ os) zero d s new x below join has =
    or_left (slab_has new x) (slabs_have os x)
    (join_has o s new x join (or_right (slab_has o x) (slab_has s x) has))
widened_has (o ∷ os) (suc i) d s new x below join has =
    or_right (slab_has o x) (slabs_have (set os i new) x)
    (widened_has os i d s new x (omega (arith, below)) join has)
