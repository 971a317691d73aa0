-- Searches find the first.
use Rattle.std.proofs.Common.{◌≡◌, ℕ, zero, suc, ◌+◌, ◌-◌, ◌<◌, ℤ, pos, negsuc, ◌-ℤ◌, ◌≤ℤ◌, ◌<ℤ◌, neg_ℤ, Bool, true, false, cond, ◌⊎◌, Option, Some, None, refl, sym, ap, ◌∙◌, inl, inr, arith}
use Rattle.std.specs.Prelude.{is_some}
use Rattle.std.specs.Option.{option_map, option_and_then}
use Rattle.std.proofs.lemmas.Int.{ints}
use Rattle.desk_rules.specs.Conflict.{Finder, earlier_of, first_below, first_within, first_pair}

-- what a search finds is in reach and passes, and nothing in reach before it does; where it finds nothing,
-- nothing in reach passes
abbrev pub IsFound : {A : Type 0} → (A → Type 0) → (A → A → Type 0) → (A → Bool) → Option A → Type 0
IsFound {A} InReach Before passes None = (y : A) → InReach y → passes y ≡ false
IsFound {A} InReach Before passes (Some x) = InReach x × (passes x ≡ true)
    × ((y : A) → InReach y → Before y x → passes y ≡ false)

abbrev pub FindsFirst : {A : Type 0} → (A → Type 0) → (A → A → Type 0) → Finder A → Type 0
FindsFirst {A} InReach Before f = (passes : A → Bool) → IsFound InReach Before passes (f passes)

abbrev pub IsBelow : ℕ → ℕ → Type 0
IsBelow n y = y < n

abbrev pub IsLess : ℕ → ℕ → Type 0
IsLess y x = y < x

pub below_finds : (n : ℕ) → FindsFirst (IsBelow n) IsLess (first_below n)
unfolding first_below
below_finds zero passes = λ y h. absurd (omega arith)
below_finds (suc n) passes = step (first_below n passes) (below_finds n passes) (passes n) refl where
  upto : (y : ℕ) → y < suc n → (y < n) ⊎ (y ≡ n)
  upto y h = grind arith

  step : (o : Option ℕ) → IsFound (IsBelow n) IsLess passes o → (b : Bool) → passes n ≡ b
      → IsFound (IsBelow (suc n)) IsLess passes (earlier_of o (cond b (Some n) None))
  step None h true e = (omega arith, e, λ y l k. h y k)
  step None h false e = λ y l. elim (upto y l) [ inl k ↦ h y k | inr k ↦ rw k e ]
  step (Some x) h b e = let below : x < n = h.0 in (omega arith, h.1, λ y l k. h.2 y (omega arith) k)

abbrev pub IsWithinInt : ℕ → ℤ → Type 0
IsWithinInt n z = (neg_ℤ (pos n) ≤ℤ z) × (z ≤ℤ pos n)

abbrev pub IsLessInt : ℤ → ℤ → Type 0
IsLessInt y x = y <ℤ x

-- a number in reach, as a distance from the least
offset : (n : ℕ) (z : ℤ) → IsWithinInt n z → (k : ℕ) × ((k < n + n + 1) × (pos k -ℤ pos n ≡ z))
offset n (pos m) h = (m + n, (omega (arith, ints, h.0, h.1), omega (arith, ints)))
offset n (negsuc m) h = (n - suc m, (omega (arith, ints, h.0, h.1), omega (arith, ints, h.0, h.1)))

pub within_finds : (n : ℕ) → FindsFirst (IsWithinInt n) IsLessInt (first_within n)
unfolding first_within
within_finds n passes = step (first_below (n + n + 1) test) (below_finds (n + n + 1) test) where
  test : ℕ → Bool
  test k = passes (pos k -ℤ pos n)

  step : (o : Option ℕ) → IsFound (IsBelow (n + n + 1)) IsLess (λ k. passes (pos k -ℤ pos n)) o
      → IsFound (IsWithinInt n) IsLessInt passes (option_map (λ k. pos k -ℤ pos n) o)
  step None h = λ z r. let k = offset n z r in sym (ap passes k.1.1) ∙ h k.0 k.1.0
  step (Some x) h = (
    (omega (arith, ints, h.0), omega (arith, ints, h.0)),
    h.1,
    λ z r l.
        let k = offset n z r in
        let e : pos k.0 -ℤ pos n ≡ z = k.1.1 in
        sym (ap passes e) ∙ h.2 k.0 k.1.0 (omega (arith, ints)),
  )

abbrev pub InBoth : {A B : Type 0} → (A → Type 0) → (B → Type 0) → A × B → Type 0
InBoth ReachA ReachB p = ReachA p.0 × ReachB p.1

-- by the first part, and then by the second
abbrev pub BeforePair : {A B : Type 0} → (A → A → Type 0) → (B → B → Type 0) → A × B → A × B → Type 0
BeforePair BeforeA BeforeB p q = BeforeA p.0 q.0 ⊎ ((p.0 ≡ q.0) × BeforeB p.1 q.1)

module _ {A B : Type 0} (ReachA : A → Type 0) (BeforeA : A → A → Type 0) (ReachB : B → Type 0)
    (BeforeB : B → B → Type 0) where
  not_there : (passes : B → Bool) (o : Option B) → IsFound ReachB BeforeB passes o → is_some o ≡ false
      → (b : B) → ReachB b → passes b ≡ false
  not_there passes None h e b r = h b r
  not_there passes (Some x) h e b r = cc

  pub pair_finds : (f : Finder A) (g : Finder B) → FindsFirst ReachA BeforeA f
      → FindsFirst ReachB BeforeB g
      → FindsFirst (InBoth ReachA ReachB) (BeforePair BeforeA BeforeB) (first_pair f g)
  unfolding first_pair
  pair_finds f g in_a in_b passes = outer (f (λ a. is_some (g (λ b. passes (a, b)))))
      (in_a (λ a. is_some (g (λ b. passes (a, b))))) where
        inner : (a : A) → ReachA a → ((y : A) → ReachA y → BeforeA y a
            → is_some (g (λ b. passes (y, b))) ≡ false)
            → (o : Option B) → IsFound ReachB BeforeB (λ b. passes (a, b)) o → is_some o ≡ true
            → IsFound (InBoth ReachA ReachB) (BeforePair BeforeA BeforeB) passes
            (option_map (λ b. (a, b)) o)
        inner a ra first None h e = cc
        inner a ra first (Some b) h e = (
          (ra, h.0),
          h.1,
          λ p r k. elim k [
            | inl l ↦ not_there (λ c. passes (p.0, c)) (g (λ c. passes (p.0, c)))
                (in_b (λ c. passes (p.0, c)))
                (first p.0 r.0 l) p.1 r.1
            | inr l ↦ ap (λ c. passes (c, p.1)) l.0 ∙ h.2 p.1 r.1 l.1
          ],
        )

        outer : (o : Option A) → IsFound ReachA BeforeA (λ a. is_some (g (λ b. passes (a, b)))) o
            → IsFound (InBoth ReachA ReachB) (BeforePair BeforeA BeforeB) passes
            (option_and_then (λ a. option_map (λ b. (a, b)) (g (λ b. passes (a, b)))) o)
        outer None h = λ p r. not_there (λ c. passes (p.0, c)) (g (λ c. passes (p.0, c)))
            (in_b (λ c. passes (p.0, c))) (h p.0 r.0) p.1 r.1
        outer (Some a) h = inner a h.0 h.2 (g (λ b. passes (a, b))) (in_b (λ b. passes (a, b))) h.1
