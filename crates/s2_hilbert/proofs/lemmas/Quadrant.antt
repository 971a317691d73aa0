-- What the proofs know of the table of quadrants: each row has each quadrant once.
use Rattle.std.proofs.Common.{◌≡◌, ℕ, zero, suc, ◌<◌, refl, arith}
use Rattle.std.specs.Prelude.{IsTrue, Bool, ◌&&◌, ◌==◌, nat_lt}
use Rattle.std.proofs.lemmas.Bool.Decides.{nat_tests}
use Rattle.s2_hilbert.specs.Curve.{quadrant_at, place_of, turned}

-- what holds of 0 to 3 holds of each number below 4
pub below_four : (P : ℕ → Type 0) → P 0 → P 1 → P 2 → P 3 → (n : ℕ) → n < 4 → P n
below_four P a b c d zero below = a
below_four P a b c d (suc zero) below = b
below_four P a b c d (suc (suc zero)) below = c
below_four P a b c d (suc (suc (suc zero))) below = d
below_four P a b c d (suc (suc (suc (suc n)))) below = absurd (omega arith)

-- the place has a quadrant, and that quadrant has this place
unfoldable pub place_fits : ℕ → ℕ → Bool
place_fits turn place =
    nat_lt (quadrant_at turn place) 4 && (place_of turn (quadrant_at turn place) == place && nat_lt
    (turned turn place) 4)

-- the quadrant has a place, and that place has this quadrant
unfoldable pub quadrant_fits : ℕ → ℕ → Bool
quadrant_fits turn quadrant =
    nat_lt (place_of turn quadrant) 4 && quadrant_at turn (place_of turn quadrant) == quadrant

places_fit : (turn place : ℕ) → turn < 4 → place < 4 → IsTrue (place_fits turn place)
unfolding place_fits quadrant_at place_of turned
places_fit turn place turn_below place_below =
    below_four (λ t. IsTrue (place_fits t place))
    (below_four (λ p. IsTrue (place_fits 0 p)) refl refl refl refl place place_below)
    (below_four (λ p. IsTrue (place_fits 1 p)) refl refl refl refl place place_below)
    (below_four (λ p. IsTrue (place_fits 2 p)) refl refl refl refl place place_below)
    (below_four (λ p. IsTrue (place_fits 3 p)) refl refl refl refl place place_below) turn turn_below

quadrants_fit : (turn quadrant : ℕ) → turn < 4 → quadrant < 4 → IsTrue (quadrant_fits turn quadrant)
unfolding quadrant_fits quadrant_at place_of
quadrants_fit turn quadrant turn_below quadrant_below =
    below_four (λ t. IsTrue (quadrant_fits t quadrant))
    (below_four (λ q. IsTrue (quadrant_fits 0 q)) refl refl refl refl quadrant quadrant_below)
    (below_four (λ q. IsTrue (quadrant_fits 1 q)) refl refl refl refl quadrant quadrant_below)
    (below_four (λ q. IsTrue (quadrant_fits 2 q)) refl refl refl refl quadrant quadrant_below)
    (below_four (λ q. IsTrue (quadrant_fits 3 q)) refl refl refl refl quadrant quadrant_below) turn turn_below

-- the facts of one place
pub record IsPlace (turn place : ℕ) : Type 0 where
  pub quadrant_below : quadrant_at turn place < 4
  pub undone : place_of turn (quadrant_at turn place) ≡ place
  pub turned_below : turned turn place < 4

pub is_place : (turn place : ℕ) → turn < 4 → place < 4 → IsPlace turn place
unfolding place_fits
is_place turn place turn_below place_below =
    let fits = places_fit turn place turn_below place_below in
    record {
      quadrant_below = grind (arith, nat_tests);
      undone = grind (arith, nat_tests);
      turned_below = grind (arith, nat_tests);
    }

-- the facts of one quadrant
pub record IsQuadrant (turn quadrant : ℕ) : Type 0 where
  pub place_below : place_of turn quadrant < 4
  pub undone : quadrant_at turn (place_of turn quadrant) ≡ quadrant

pub is_quadrant : (turn quadrant : ℕ) → turn < 4 → quadrant < 4 → IsQuadrant turn quadrant
unfolding quadrant_fits
is_quadrant turn quadrant turn_below quadrant_below =
    let fits = quadrants_fit turn quadrant turn_below quadrant_below in
    record {
      place_below = grind (arith, nat_tests);
      undone = grind (arith, nat_tests);
    }
