-- A list is no longer than another in which each of its elements has one of its own.
use Rattle.std.proofs.Common.{◌≡◌, ℕ, ◌+◌, ◌<◌, ◌≤◌, List, [], ◌∷◌, length, sym, ◌∙◌, subst, arith, inl, inr, ◌⊎◌}
use Rattle.std.specs.Prelude.{Contains, AllPairs}
use Rattle.s2_cover.proofs.Uniqueness.{contains_first, contains_later, contains_cases, above_first, pairs_tail}

-- a list without one of its elements
record IsWithout (y : ℕ) (ys : List ℕ) : Type 0 where
  rest : List ℕ
  long : length ys ≡ length rest + 1
  kept : (z : ℕ) → Contains ys z → (z ≡ y) ⊎ Contains rest z

without : (y : ℕ) (ys : List ℕ) → Contains ys y → IsWithout y ys
without y [] there = absurd (omega (arith, there.1))
without y (x ∷ xs) there = elim (contains_cases x y xs there) [
  | inl here ↦ record {
    rest = xs;
    long = omega arith;
    kept = λ z within. elim (contains_cases x z xs within) [
      | inl first ↦ inl (sym first ∙ here)
      | inr later ↦ inr later
    ];
  }
  | inr later ↦
      let fewer = without y xs later in
      record {
        rest = x ∷ fewer.rest;
        long = omega (arith, fewer.long);
        kept = λ z within. elim (contains_cases x z xs within) [
          | inl first ↦ inr (0, omega arith, first)
          | inr after ↦ elim (fewer.kept z after) [
            | inl same ↦ inl same
            | inr kept ↦ inr (contains_later x z fewer.rest kept)
          ]
        ];
      }
]

pub no_longer : (R : ℕ → ℕ → Type 0) (xs ys : List ℕ) → AllPairs ◌<◌ xs
    → ((x : ℕ) → Contains xs x → (y : ℕ) × (Contains ys y × R x y))
    → ((a b y : ℕ) → Contains xs a → Contains xs b → R a y → R b y → a ≡ b) → length xs ≤ length ys
no_longer R [] ys up own apart = omega arith
no_longer R (x ∷ xs) ys up own apart =
    let first = own x (contains_first x xs) in
    let y = first.0 in
    let fewer = without y ys first.1.0 in
    let rest =
    no_longer R xs fewer.rest (pairs_tail ◌<◌ x xs up)
    (λ z there.
    let other = own z (contains_later x z xs there) in
    elim (fewer.kept other.0 other.1.0) [
      | inr kept ↦ (other.0, (kept, other.1.1))
      | inl same ↦
          let shared : R z y = subst (R z) same other.1.1 in
          let is = apart x z y (contains_first x xs) (contains_later x z xs there) first.1.1 shared in
          absurd (omega (arith, above_first x z xs up there, is))
    ])
    (λ a b z there_a there_b. apart a b z (contains_later x a xs there_a)
    (contains_later x b xs there_b)) in
    omega (arith, fewer.long, rest)
