-- The greatest priority that slabs have at a point is that of the same slabs in any order, with its proof.
use Rattle.std.proofs.Common.{◌≡◌, ℕ, Bool, List, [], ◌∷◌, ◌∙◌, Option, None, Some, All, ap, refl, sym, arith}
use Rattle.std.specs.Prelude.{max, IsPermutation}
use Rattle.std.proofs.lemmas.List.Elements.{All-cons, All-head, All-nil, All-tail, All-weaker}
use Rattle.std.proofs.lemmas.List.Sorted.{All-permutation, IsPermutation-sym}
use Rattle.volume4d.specs.declared.slab.Held.{Held}
use Rattle.volume4d.specs.Volume.{Point}
use Rattle.volume4d.specs.Slab.{slab_has, top_held, greater, level_where, top_by}
use Rattle.volume4d.proofs.lemmas.Level.{greater_assoc, greater_comm, top_by-cons}

same_max : (n : ℕ) → max n n ≡ n
same_max n = grind (arith)

once : (a : Option ℕ) → greater a a ≡ a
once None = refl
once (Some n) = ap Some (same_max n)

abbrev AtMost : Option ℕ → Option ℕ → Type 0
AtMost a b = greater a b ≡ b

at_most_more : (a l r : Option ℕ) → AtMost a r → AtMost a (greater l r)
at_most_more a l r h =
    sym (greater_assoc a l r) ∙ ap (λ t. greater t r) (greater_comm a l) ∙ greater_assoc l a r
    ∙ ap (greater l) h

module _ {A : Type 0} (p : A → Bool) (f : A → ℕ) where
  abbrev level : A → Option ℕ
  level a = level_where (p a) (f a)

  -- an element that counts for no more than this
  abbrev IsUnder : Option ℕ → A → Type 0
  IsUnder t a = AtMost (level a) t

  each : (xs : List A) → All (IsUnder (top_by p f xs)) xs
  each [] = All-nil (IsUnder (top_by p f []))
  each (x ∷ xs) =
      let top = top_by p f xs in
      let is = top_by-cons p f x xs in
      All-cons (IsUnder (top_by p f (x ∷ xs))) x xs
      (ap (greater (level x)) is ∙ sym (greater_assoc (level x) (level x) top)
      ∙ ap (λ l. greater l top) (once (level x)) ∙ sym is)
      (All-weaker (IsUnder top) (IsUnder (top_by p f (x ∷ xs)))
      (λ a h. ap (greater (level a)) is ∙ at_most_more (level a) (level x) top h ∙ sym is) xs (each xs))

  bounded : (xs : List A) (t : Option ℕ) → All (IsUnder t) xs → AtMost (top_by p f xs) t
  bounded [] t h = refl
  bounded (x ∷ xs) t h =
      ap (λ l. greater l t) (top_by-cons p f x xs) ∙ greater_assoc (level x) (top_by p f xs) t
      ∙ ap (greater (level x)) (bounded xs t (All-tail (IsUnder t) x xs h)) ∙ All-head (IsUnder t) x xs h

  pub top_by-permutation : (xs ys : List A) → IsPermutation xs ys → top_by p f ys ≡ top_by p f xs
  top_by-permutation xs ys h =
      let a = top_by p f xs in
      let b = top_by p f ys in
      let low = bounded ys a (All-permutation (IsUnder a) xs ys h (each xs)) in
      let high = bounded xs b (All-permutation (IsUnder b) ys xs (IsPermutation-sym xs ys h) (each ys)) in
      sym high ∙ greater_comm a b ∙ low

pub top_held-permutation :
    (xs ys : List Held) (x : Point) → IsPermutation xs ys → top_held ys x ≡ top_held xs x
unfolding top_held
top_held-permutation xs ys x = top_by-permutation (λ h. slab_has h.slab x) (λ h. h.priority) xs ys
