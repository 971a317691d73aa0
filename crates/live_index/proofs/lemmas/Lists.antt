-- What holds of lists in any order, with proofs.
use Rattle.std.proofs.Common.{◌≡◌, ℕ, zero, suc, ◌<◌, Bool, true, false, set, swap, cond, List, [], ◌∷◌, length, get_or, refl, arith, IsPermutation}
use Rattle.std.specs.List.{AllByRecursion, filter}
use Rattle.std.proofs.lemmas.List.Sorted.{IsPermutation-refl, IsPermutation-keeps, IsPermutation-trans, IsPermutation-cons, IsPermutation-middle}

-- a relation holds along each permutation if it is reflexive and transitive, and goes under a head and over
-- an exchange of two heads
module _ {X : Type 0} (R : List X → List X → Type 0) (same : (xs : List X) → R xs xs)
    (skip : (x : X) (xs ys : List X) → R xs ys → R (x ∷ xs) (x ∷ ys))
    (turn : (x y : X) (xs : List X) → R (x ∷ y ∷ xs) (y ∷ x ∷ xs))
    (chain : (xs ys zs : List X) → R xs ys → R ys zs → R xs zs) where
  to_head : (l : List X) (j : ℕ) (x d : X) → j < length l → R (x ∷ l) (get_or l j d ∷ set l j x)
  to_head [] j x d h = absurd (omega arith)
  to_head (y ∷ l) zero x d h = turn x y l
  to_head (y ∷ l) (suc j) x d h =
      chain _ _ _ (turn x y l)
      (chain _ _ _ (skip y _ _ (to_head l j x d (omega arith))) (turn y (get_or l j d) (set l j x)))

  exchanged : (l : List X) (i j : ℕ) (d : X) → i < length l → j < length l
      → R l (set (set l i (get_or l j d)) j (get_or l i d))
  exchanged [] i j d p q = absurd (omega arith)
  exchanged (x ∷ l) zero zero d p q = same (x ∷ l)
  exchanged (x ∷ l) zero (suc j) d p q = to_head l j x d (omega arith)
  exchanged (x ∷ l) (suc i) zero d p q = to_head l i x d (omega arith)
  exchanged (x ∷ l) (suc i) (suc j) d p q = skip x _ _ (exchanged l i j d (omega arith) (omega arith))

  swapped : (l : List X) (i j : ℕ) → i < length l → j < length l → R l (swap l i j)
  swapped [] i j p q = same []
  swapped (x ∷ l) i j p q = exchanged (x ∷ l) i j x p q

  pub along_permutation : (xs ys : List X) → IsPermutation xs ys → R xs ys
  along_permutation xs =
      IsPermutation-keeps xs (R xs) (same xs) (λ l i j p q h. chain xs l _ h (swapped l i j p q))

module _ {X : Type 0} (p : X → Bool) where
  heads_turned : (x y : X) (xs : List X) → IsPermutation (x ∷ y ∷ xs) (y ∷ x ∷ xs)
  heads_turned x y xs = IsPermutation-middle (x ∷ []) y xs

  under_head : (x : X) (xs ys : List X) → IsPermutation (filter p xs) (filter p ys)
      → IsPermutation (filter p (x ∷ xs)) (filter p (x ∷ ys))
  under_head x xs ys h = go (p x) where
    go : (b : Bool)
        → IsPermutation (cond b (x ∷ filter p xs) (filter p xs)) (cond b (x ∷ filter p ys) (filter p ys))
    go true = IsPermutation-cons x (filter p xs) (filter p ys) h
    go false = h

  turned_heads : (x y : X) (xs : List X)
      → IsPermutation (filter p (x ∷ y ∷ xs)) (filter p (y ∷ x ∷ xs))
  turned_heads x y xs = go (p x) (p y) where
    left : List X
    left = filter p xs

    go : (a b : Bool) → IsPermutation (cond a (x ∷ cond b (y ∷ left) left) (cond b (y ∷ left) left))
        (cond b (y ∷ cond a (x ∷ left) left) (cond a (x ∷ left) left))
    go true true = heads_turned x y left
    go true false = IsPermutation-refl (x ∷ left)
    go false true = IsPermutation-refl (y ∷ left)
    go false false = IsPermutation-refl left

  pub IsPermutation-filter : (xs ys : List X) → IsPermutation xs ys
      → IsPermutation (filter p xs) (filter p ys)
  IsPermutation-filter = along_permutation (λ xs ys. IsPermutation (filter p xs) (filter p ys))
      (λ xs. IsPermutation-refl (filter p xs)) under_head turned_heads
      (λ xs ys zs. IsPermutation-trans (filter p xs) (filter p ys) (filter p zs))

  pub filter_all : (xs : List X) → AllByRecursion (λ x. p x ≡ true) xs → filter p xs ≡ xs
  filter_all [] h = refl
  filter_all (x ∷ xs) h = rw (h.0, filter_all xs h.1)

pub all_any : {X : Type 0} (P : X → Type 0) → ((x : X) → P x) → (xs : List X) → AllByRecursion P xs
all_any P h [] = tt
all_any P h (x ∷ xs) = (h x, all_any P h xs)
