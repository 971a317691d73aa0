-- Laws of the greatest priority of a list, with their proofs.
use Rattle.std.specs.Prelude.{◌≡◌, ℕ, Bool, true, false, cond, ◌||◌, max, List, [], ◌∷◌, ◌++◌, map, Option, Some, None, refl, is_some}
use Rattle.std.specs.List.{filter, list_any}
use Rattle.std.proofs.Common.{sym, ap, ◌∙◌, arith}
use Rattle.volume4d.specs.Volume.{Point}
use Rattle.volume4d.specs.declared.slab.Held.{Held}
use Rattle.volume4d.specs.Slab.{slab_has, top_held, greater, greatest, level_where, top_by}

pub greater_none : (a : Option ℕ) → greater a None ≡ a
greater_none None = refl
greater_none (Some n) = refl

max_assoc : (a b c : ℕ) → max (max a b) c ≡ max a (max b c)
max_assoc a b c = omega arith

max_comm : (a b : ℕ) → max a b ≡ max b a
max_comm a b = omega arith

pub greater_assoc : (a b c : Option ℕ) → greater (greater a b) c ≡ greater a (greater b c)
greater_assoc None b c = refl
greater_assoc (Some a) None c = refl
greater_assoc (Some a) (Some b) None = refl
greater_assoc (Some a) (Some b) (Some c) = ap Some (max_assoc a b c)

pub greater_comm : (a b : Option ℕ) → greater a b ≡ greater b a
greater_comm None None = refl
greater_comm None (Some b) = refl
greater_comm (Some a) None = refl
greater_comm (Some a) (Some b) = ap Some (max_comm a b)

pub top_by-cons :
    {A : Type 0} (p : A → Bool) (f : A → ℕ) (x : A) (xs : List A)
    → top_by p f (x ∷ xs) ≡ greater (level_where (p x) (f x)) (top_by p f xs)
top_by-cons p f x xs = by_test (p x) where
  by_test : (b : Bool) → greatest (map f (cond b (x ∷ filter p xs) (filter p xs)))
      ≡ greater (level_where b (f x)) (top_by p f xs)
  by_test true = refl
  by_test false = refl

pub top_by-append :
    {A : Type 0} (p : A → Bool) (f : A → ℕ) (xs ys : List A)
    → top_by p f (xs ++ ys) ≡ greater (top_by p f xs) (top_by p f ys)
top_by-append p f [] ys = refl
top_by-append p f (x ∷ xs) ys =
    top_by-cons p f x (xs ++ ys) ∙ ap (greater (level_where (p x) (f x))) (top_by-append p f xs ys)
    ∙ sym (greater_assoc (level_where (p x) (f x)) (top_by p f xs) (top_by p f ys))
    ∙ ap (λ o. greater o (top_by p f ys)) (sym (top_by-cons p f x xs))

is_some_greater : (a b : Option ℕ) → is_some (greater a b) ≡ (is_some a || is_some b)
is_some_greater None b = refl
is_some_greater (Some a) None = refl
is_some_greater (Some a) (Some b) = refl

-- there is a greatest number exactly if an element passes
pub is_some_top :
    {A : Type 0} (p : A → Bool) (f : A → ℕ) (xs : List A) → is_some (top_by p f xs) ≡ list_any p xs
is_some_top p f [] = refl
is_some_top p f (x ∷ xs) =
    ap is_some (top_by-cons p f x xs) ∙ is_some_greater (level_where (p x) (f x)) (top_by p f xs)
    ∙ by_test (p x) (is_some_top p f xs) where
      by_test :
          (b : Bool) → is_some (top_by p f xs) ≡ list_any p xs
          → (is_some (level_where b (f x)) || is_some (top_by p f xs)) ≡ (b || list_any p xs)
      by_test true e = refl
      by_test false e = e

-- the greatest priority with one more held slab
pub top_held-push :
    (helds : List Held) (h : Held) (x : Point)
    → top_held (helds ++ h ∷ []) x ≡ greater (top_held helds x) (level_where (slab_has h.slab x) h.priority)
unfolding top_held
top_held-push helds h x =
    top_by-append (λ g. slab_has g.slab x) (λ g. g.priority) helds (h ∷ [])
    ∙ ap (greater (top_held helds x)) (top_by-cons (λ g. slab_has g.slab x) (λ g. g.priority) h []
    ∙ greater_none (level_where (slab_has h.slab x) h.priority))

pub top_held-nil : (x : Point) → top_held [] x ≡ None
unfolding top_held
top_held-nil x = refl
