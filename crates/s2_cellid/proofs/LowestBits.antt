-- The table of the levels' lowest bits.
use Rattle.std.proofs.Common.{◌≡◌, ℕ, zero, suc, ◌+◌, ◌≤◌, ◌<◌, List, [], ◌∷◌, length, refl, arith}
use Rattle.std.specs.Prelude.{IsTrue, Bool, true, ◌&&◌, ◌==◌, slice_index_or}
use Rattle.std.proofs.lemmas.Bool.{and_parts}
use Rattle.std.proofs.lemmas.Bool.Decides.{nat_tests}
use Rattle.s2_hilbert.specs.Curve.{leaf_count}
use Rattle.s2_cellid.specs.declared.family.TheConstants.{LOWEST_BITS}

-- what stands for each level from a first one on
unfoldable bits_fit : ℕ → List ℕ → Bool
bits_fit level [] = true
bits_fit level (bit ∷ bits) = bit == leaf_count level && bits_fit (suc level) bits

fits_at : (first level n : ℕ) (bits : List ℕ) (default : ℕ) → level ≡ first + n → IsTrue (bits_fit first bits)
    → n < length bits → slice_index_or bits n default ≡ leaf_count level
unfolding bits_fit
fits_at first level n [] default sum all below = absurd (omega arith)
fits_at first level zero (bit ∷ bits) default sum all below =
    let same : level ≡ first = omega arith in
    let here = (and_parts (bit == leaf_count first) (bits_fit (suc first) bits) all).0 in
    rw same (grind (arith, nat_tests, here))
fits_at first level (suc n) (bit ∷ bits) default sum all below =
    fits_at (suc first) level n bits default (omega arith)
    ((and_parts (bit == leaf_count first) (bits_fit (suc first) bits) all).1) (omega arith)

all_fit : IsTrue (bits_fit 0 LOWEST_BITS)
unfolding bits_fit
all_fit = refl

pub lowest_bit_at : (level default : ℕ) → level ≤ 30 → slice_index_or LOWEST_BITS level default
    ≡ leaf_count level
lowest_bit_at level default at_most = fits_at 0 level level LOWEST_BITS default (omega arith) all_fit
    (omega arith)
