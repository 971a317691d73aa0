-- First points.
use Rattle.std.proofs.Common.{◌≡◌, ℕ, ◌+◌, ◌<◌, Bool, true, false, ◌&&◌, ◌||◌, List, length, get_or, take, Option, Some, None, refl, sym, ap, ◌∙◌}
use Rattle.std.specs.Prelude.{is_some}
use Rattle.std.specs.Option.{option_map}
use Rattle.std.proofs.Math.Bool.{and-or_distrib_right}
use Rattle.std.proofs.lemmas.List.Folds.{list_any_more}
use Rattle.volume4d.specs.declared.slab.Slab.{Slab}
use Rattle.volume4d.specs.declared.slab.Held.{Held}
use Rattle.volume4d.specs.Volume.{Point}
use Rattle.volume4d.specs.Slab.{slab_has, slabs_have, helds_have, top_held, is_shared}
use Rattle.volume4d.specs.Sweep.{IsFirst, IsFirstPoint}
use Rattle.std.proofs.lemmas.Bool.{and_parts}
use Rattle.volume4d.proofs.LevelLemmas.{is_some_top_held}

pub first_point_same : (f g : Point → Bool) → ((x : Point) → f x ≡ g x) → (o : Option Point)
    → IsFirstPoint f o → IsFirstPoint g o
first_point_same f g same None h = λ x. sym (same x) ∙ h x
first_point_same f g same (Some p) h = (sym (same p) ∙ h.0, λ x e. sym (same x) ∙ h.1 x e)

-- one more slab
pub one_more_of_mine : (mine : List Slab) (f : Point → Bool) (i : ℕ) (s : Slab) (o : Option Point)
    → i < length mine → s ≡ get_or mine i s
    → IsFirstPoint (λ x. (slabs_have (take i mine) x && f x) || (slab_has s x && f x)) o
    → IsFirstPoint (λ x. slabs_have (take (i + 1) mine) x && f x) o
one_more_of_mine mine f i s o below is =
    first_point_same _ _ (λ x. sym (and-or_distrib_right (slabs_have (take i mine) x) (slab_has s x)
    (f x))
    ∙ ap (λ b. b && f x) (sym (list_any_more (λ t. slab_has t x) mine i s below
    ∙ ap (λ t. slabs_have (take i mine) x || slab_has t x) (sym is)))) o

shared_is : (mine : List Slab) (hs : List Held) (x : Point) → (slabs_have mine x && helds_have hs x)
    ≡ is_shared mine hs x
unfolding is_shared
shared_is mine hs x = ap (λ b. slabs_have mine x && b) (sym (is_some_top_held hs x))

pub none_shared : (mine : List Slab) (hs : List Held)
    → ((x : Point) → (slabs_have mine x && helds_have hs x) ≡ false) → (x : Point) → is_shared mine hs x
    ≡ false
none_shared mine hs h x = sym (shared_is mine hs x) ∙ h x

-- the first shared point and its level are the first meeting
pub meeting_of_point : (mine : List Slab) (hs : List Held) (p : Point)
    → IsFirstPoint (λ x. slabs_have mine x && helds_have hs x) (Some p)
    → IsFirst (is_shared mine hs) (top_held hs) (option_map
    (λ priority. record { point = p; priority = priority }) (top_held hs p))
meeting_of_point mine hs p h = by_level (top_held hs p) refl where
  there : is_some (top_held hs p) ≡ true
  there = is_some_top_held hs p ∙ (and_parts (slabs_have mine p) (helds_have hs p) h.0).1

  by_level : (o : Option ℕ) → top_held hs p ≡ o → IsFirst (is_shared mine hs) (top_held hs)
      (option_map (λ priority. record { point = p; priority = priority }) o)
  by_level None e = let bad : false ≡ true = ap is_some (sym e) ∙ there in cc
  by_level (Some n) e = record {
    here = sym (shared_is mine hs p) ∙ h.0;
    level = e;
    first = λ x l. sym (shared_is mine hs x) ∙ h.1 x l;
  }
