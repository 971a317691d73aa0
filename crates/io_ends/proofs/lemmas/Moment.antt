-- Moments fit 64 bits, with the proof.
use Rattle.std.proofs.Common.{SFits, ◌≡◌, ℤ, arith, w64, to_z, of_z}
use Rattle.std.proofs.lemmas.Int.{to_z-of_z, ints}
use Rattle.io_ends.specs.Writing.{IsMoment}

fits : (z : ℤ) → IsMoment z → SFits w64 z
fits z h = record { sfits = grind (arith, ints, h.0, h.1) }

pub same_moment : (z : ℤ) → IsMoment z → to_z w64 (of_z w64 z) ≡ z
same_moment z h = to_z-of_z w64 z (fits z h)
