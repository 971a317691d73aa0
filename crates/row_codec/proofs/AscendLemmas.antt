-- A list ascends if each element is below the next.
use Rattle.std.proofs.Common.{◌≡◌, true, false, List, [], ◌∷◌, refl, sym, ap, subst, ◌∙◌, Less, Equal, Greater, IsTrue, true≢false, length, arith}
use Rattle.std.specs.Prelude.{◌↔◌}
use Rattle.std.specs.List.Sorted.{IsStrictlySortedBy}
use Rattle.std.specs.declared.cmp.Ordering.{Ordering}
use Rattle.std.specs.Ordering.{is_lt}
use Rattle.std.specs.Cmp.{IsTotalOrder}
use Rattle.desk_store.proofs.lemmas.Order.{all_weaker}
use Rattle.row_codec.specs.Tables.{is_below_first}

is_below : (n : Ordering) → is_lt n ≡ true → n ≡ Less
is_below Less e = refl
is_below Equal e = cc
is_below Greater e = cc

module _ {X : Type 0} (cmp : X → X → Ordering) (total : IsTotalOrder cmp) where
  ascends_from : (x : X) (xs : List X) → is_below_first cmp x xs ≡ true → IsStrictlySortedBy cmp xs
      → IsStrictlySortedBy cmp (x ∷ xs)
  unfolding IsStrictlySortedBy
  ascends_from x [] e s = (tt, tt)
  ascends_from x (y ∷ ys) e s =
      let first = is_below (cmp x y) e in (
        (
          first,
          all_weaker (λ z. cmp y z ≡ Less) (λ z. cmp x z ≡ Less) (λ z k. total.trans x y z first k) ys
              s.0,
        ),
        s,
      )

  first_below : (x : X) (xs : List X) → IsStrictlySortedBy cmp (x ∷ xs) → is_below_first cmp x xs ≡ true
  unfolding IsStrictlySortedBy
  first_below x [] s = refl
  first_below x (y ∷ ys) s = ap is_lt s.0.0

  later : (x : X) (xs : List X) → IsStrictlySortedBy cmp (x ∷ xs) → IsStrictlySortedBy cmp xs
  unfolding IsStrictlySortedBy
  later x xs s = s.1

  pub goes_on : (all left xs : List X) (x : X) → IsStrictlySortedBy cmp all
      ↔ IsStrictlySortedBy cmp left
      → left ≡ x ∷ xs → is_below_first cmp x xs ≡ true → IsStrictlySortedBy cmp all
      ↔ IsStrictlySortedBy cmp xs
  goes_on all left xs x h some e = (
    λ s. later x xs (subst (IsStrictlySortedBy cmp) some (h.0 s)),
    λ s. h.1 (subst (IsStrictlySortedBy cmp) (sym some) (ascends_from x xs e s)),
  )

  pub stops : (all left xs : List X) (x : X) → IsStrictlySortedBy cmp all ↔ IsStrictlySortedBy cmp left
      → left
      ≡ x ∷ xs → is_below_first cmp x xs ≡ false → IsTrue false ↔ IsStrictlySortedBy cmp all
  stops all left xs x h some e = (
    λ t. absurd (true≢false (sym t)),
    λ s. absurd (true≢false (sym (first_below x xs (subst (IsStrictlySortedBy cmp) some (h.0 s))) ∙ e)),
  )

  pub ends : (all left : List X) → IsStrictlySortedBy cmp all ↔ IsStrictlySortedBy cmp left → left ≡ []
      → IsTrue true ↔ IsStrictlySortedBy cmp all
  unfolding IsStrictlySortedBy
  ends all left h none = (λ t. h.1 (subst (IsStrictlySortedBy cmp) (sym none) tt), λ s. refl)

pub empty : {X : Type 0} (xs : List X) → length xs ≡ 0 → xs ≡ []
empty [] e = refl
empty (x ∷ xs) e = absurd (omega (arith, e))
