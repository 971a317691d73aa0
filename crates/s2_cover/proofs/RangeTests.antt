-- Tests that a number lies in a range, and tests that are joined by "or".
use Rattle.std.proofs.Common.{◌≡◌, ℕ, ◌≤◌, Bool, true, false, refl, sym, ◌∙◌, ap, arith, inl, inr}
use Rattle.std.specs.Prelude.{◌||◌}
use Rattle.std.specs.Int.{IsInRange, is_in_range}
use Rattle.std.proofs.lemmas.Bool.{cases_Bool, both_ways}
use Rattle.std.proofs.lemmas.Bool.Decides.{nat_tests}

-- two tests that hold together are one
pub same_test : (a b : Bool) → (a ≡ true → b ≡ true) → (b ≡ true → a ≡ true) → a ≡ b
same_test a b to from = elim (cases_Bool a) [
  | inl holds ↦ holds ∙ sym (to holds)
  | inr fails ↦ elim (cases_Bool b) [
    | inl holds ↦ absurd (both_ways a fails (from holds))
    | inr also ↦ fails ∙ sym also
  ]
]

pub in_range : (first last p : ℕ) → is_in_range first last p ≡ true → IsInRange first last p
in_range first last p holds = (grind (arith, nat_tests), grind (arith, nat_tests))

pub of_range : (first last p : ℕ) → first ≤ p → p ≤ last → is_in_range first last p ≡ true
of_range first last p low high = grind (arith, nat_tests)

pub or_left : (a b : Bool) → a ≡ true → (a || b) ≡ true
or_left a b holds = ap (λ t. t || b) holds

pub or_right : (a b : Bool) → b ≡ true → (a || b) ≡ true
or_right true b holds = refl
or_right false b holds = holds
