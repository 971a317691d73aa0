-- Permitted priorities: what lists of them have.
use native.Mathlib.Numerals.{unary_clauses}
use Rattle.std.proofs.Common.{◌≡◌, ℕ, zero, suc, ◌+◌, ◌<◌, ◌≤◌, ◌==◌, Bool, true, false, ◌&&◌, ◌||◌, List, [], ◌∷◌, length, arith, refl, sym}
use Rattle.std.specs.Prelude.{nat_le, nat_lt, slice_index_or}
use Rattle.std.specs.List.{AllAdjacentBelow, IsAllAdjacentAnswer}
use Rattle.std.proofs.lemmas.Bool.{and_parts}
use Rattle.std.proofs.lemmas.Bool.Decides.{nat_tests}
use Rattle.desk_rules.specs.Limits.{max_priority, are_in_range, are_ascending, is_permitted}

-- a permitted priority is one that a plan may have
pub permitted_low : (permitted : List ℕ) (priority : ℕ) → are_in_range permitted ≡ true
    → is_permitted permitted priority ≡ true → priority ≤ max_priority
permitted_low [] priority all there = cc
permitted_low (p ∷ ps) priority all there =
    let parts = and_parts (nat_le p max_priority) _ all in
    by_test (p == priority) refl parts.0 (permitted_low ps priority parts.1) there where
      first : (p priority : ℕ) → (p == priority) ≡ true → nat_le p max_priority ≡ true
          → priority ≤ max_priority
      first p priority e low = grind (arith, nat_tests)

      by_test : (b : Bool) → (p == priority) ≡ b → nat_le p max_priority ≡ true
          → (is_permitted ps priority ≡ true → priority ≤ max_priority)
          → (b || is_permitted ps priority) ≡ true → priority ≤ max_priority
      by_test true e low ih h = first p priority e low
      by_test false e low ih h = ih h

-- priorities ascend if each is less than the next, and else do not
all_adjacent : (ps : List ℕ) → AllAdjacentBelow (λ x y. true ≡ nat_lt x y) ps (length ps)
    → true ≡ are_ascending ps
all_adjacent [] h = refl
all_adjacent (p ∷ []) h = refl
all_adjacent (p ∷ q ∷ ps) h =
    let first : true ≡ nat_lt p q = h 0 0 (omega arith) in
    rw (sym first) (all_adjacent (q ∷ ps)
    (λ k d below. simp unary_clauses (simp unary_clauses at (h (suc k) d (omega arith)))))

one_apart : (ps : List ℕ) (k : ℕ) → k + 1 < length ps
    → ((d : ℕ) → false ≡ nat_lt (slice_index_or ps k d) (slice_index_or ps (k + 1) d))
    → false ≡ are_ascending ps
one_apart [] k below h = absurd (omega (arith, below))
one_apart (p ∷ []) k below h = absurd (omega (arith, below))
one_apart (p ∷ q ∷ ps) zero below h = let first : false ≡ nat_lt p q = h 0 in rw (sym first) refl
one_apart (p ∷ q ∷ ps) (suc k) below h =
    by_test (nat_lt p q) (one_apart (q ∷ ps) k (omega (arith, below))
    (λ d. simp unary_clauses (simp unary_clauses at (h d)))) where
      by_test : (b : Bool) → false ≡ are_ascending (q ∷ ps) → false ≡ (b && are_ascending (q ∷ ps))
      by_test true rest = rest
      by_test false rest = refl

pub ascend_by_adjacent : (ps : List ℕ) (r : Bool) → IsAllAdjacentAnswer (λ x y b. b ≡ nat_lt x y) ps r
    → r ≡ are_ascending ps
ascend_by_adjacent ps true h = all_adjacent ps h
ascend_by_adjacent ps false h = one_apart ps h.0 h.1 h.2
