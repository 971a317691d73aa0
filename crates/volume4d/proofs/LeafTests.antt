-- The leaf at a position along the curve.
use Rattle.std.proofs.Common.{◌≡◌, ℕ, ◌*◌, ◌/◌, ◌^◌, ◌<◌, ◌≤◌, true, false, refl, arith}
use Rattle.std.proofs.lemmas.Bool.{false_from_ne_true}
use Rattle.s2_hilbert.specs.Curve.{grid_leaf_at}
use Rattle.s2_hilbert.proofs.lemmas.Curve.{leaf_is}
use Rattle.volume4d.specs.Volume.{is_leaf}
use Rattle.volume4d.proofs.lemmas.Point.{leaf_test}

-- the leaf at a position passes
pub leaf_at_passes : (position : ℕ) → position < 6 * 2 ^ 60 → is_leaf (grid_leaf_at position) ≡ true
leaf_at_passes position below = (leaf_test (grid_leaf_at position)).1 (leaf_is position below)

pub face_at : (position : ℕ) → (grid_leaf_at position).face ≡ position / 2 ^ 60
unfolding grid_leaf_at
face_at position = refl

-- past the last position there is none
pub no_leaf_at : (position : ℕ) → 6 * 2 ^ 60 ≤ position → is_leaf (grid_leaf_at position) ≡ false
no_leaf_at position past = false_from_ne_true (is_leaf (grid_leaf_at position)) (λ is.
    let leaf = (leaf_test (grid_leaf_at position)).0 is in
    omega (arith, face_at position, leaf.face_below, past))
