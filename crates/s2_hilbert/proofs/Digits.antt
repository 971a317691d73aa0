-- Hex digits of two numbers side by side.
use Rattle.std.proofs.Common.{◌≡◌, ℕ, zero, suc, ◌+◌, ◌*◌, ◌/◌, ◌%◌, ◌^◌, ◌<◌, [], ◌∷◌, slice_index, bit_and, refl, ◌∙◌, ap, arith}
use Rattle.std.proofs.lemmas.Nat.{and_shr, and_mod, and_mask, shr-shr}
use Rattle.std.proofs.Math.Pow.{mod-mod-pow}
use Rattle.s2_hilbert.proofs.lemmas.Quadrant.{below_four}

-- the mask of the hex digits at even places
abbrev pub even_mask : ℕ
even_mask = 0x0f0f_0f0f

masked : (n bits : ℕ) → even_mask / 2 ^ bits % 256 ≡ 15 → bit_and n even_mask / 2 ^ bits % 256
    ≡ n / 2 ^ bits % 16
masked n bits is =
    ap (λ x. x % 256) (and_shr n even_mask bits) ∙ and_mod (n / 2 ^ bits) (even_mask / 2 ^ bits) 8
    ∙ rw is (and_mask (n / 2 ^ bits % 256) 4 ∙ mod-mod-pow (n / 2 ^ bits) 4 4)

masked_byte : (n byte : ℕ) → byte < 4 → bit_and n even_mask / 2 ^ (8 * byte) % 256
    ≡ n / 2 ^ (8 * byte) % 16
masked_byte n byte below =
    masked n (8 * byte) (below_four (λ k. even_mask / 2 ^ (8 * k) % 256 ≡ 15) refl refl refl refl byte
    below)

-- each byte is one hex digit
record HasDigits (n : ℕ) : Type 0 where
  byte_0 : n % 256 < 16
  byte_1 : n / 2 ^ 8 % 256 < 16
  byte_2 : n / 2 ^ 16 % 256 < 16
  byte_3 : n / 2 ^ 24 % 256 < 16

has_digits : (n : ℕ) → HasDigits (bit_and n even_mask)
has_digits n = record {
  byte_0 = omega (arith, masked n 0 refl);
  byte_1 = omega (arith, masked n 8 refl);
  byte_2 = omega (arith, masked n 16 refl);
  byte_3 = omega (arith, masked n 24 refl);
}

paired : (a b byte : ℕ) → HasDigits a → HasDigits b → byte < 4
    → (16 * a + b) / 2 ^ (8 * byte) % 256 ≡ 16 * (a / 2 ^ (8 * byte) % 256) + b / 2 ^ (8 * byte) % 256
paired a b byte a_has b_has below =
    below_four (λ k. (16 * a + b) / 2 ^ (8 * k) % 256
    ≡ 16 * (a / 2 ^ (8 * k) % 256) + b / 2 ^ (8 * k) % 256)
    (omega arith) (omega arith) (omega arith) (omega arith) byte below

pub even_digits_at : (i j byte : ℕ) → byte < 4
    → (16 * bit_and i even_mask + bit_and j even_mask) / 2 ^ (8 * byte) % 256
    ≡ 16 * (i / 2 ^ (8 * byte) % 16) + j / 2 ^ (8 * byte) % 16
even_digits_at i j byte below =
    rw (
      paired (bit_and i even_mask) (bit_and j even_mask) byte (has_digits i) (has_digits j) below,
      masked_byte i byte below,
      masked_byte j byte below,
    ) refl

-- the pairs of digits of two numbers, in the bytes of a third
abbrev pub HasPairs : ℕ → ℕ → ℕ → Type 0
HasPairs i j pairs = (byte : ℕ) → byte < 4
    → pairs / 2 ^ (8 * byte) % 256 ≡ 16 * (i / 2 ^ (8 * byte) % 16) + j / 2 ^ (8 * byte) % 16

-- the digits at odd places of a number are those at even places of its sixteenth
odd_pair : (i j odd byte : ℕ) → HasPairs (i / 2 ^ 4) (j / 2 ^ 4) odd → byte < 4
    → odd / 2 ^ (8 * byte) % 256 ≡ 16 * (i / 2 ^ (4 + 8 * byte) % 16) + j / 2 ^ (4 + 8 * byte) % 16
odd_pair i j odd byte odd_is below = rw (← shr-shr i 4 (8 * byte), ← shr-shr j 4 (8 * byte))
    (odd_is byte below)

below_eight : (P : ℕ → Type 0) → P 0 → P 1 → P 2 → P 3 → P 4 → P 5 → P 6 → P 7 → (n : ℕ) → n < 8 → P n
below_eight P a b c d e f g h zero below = a
below_eight P a b c d e f g h (suc zero) below = b
below_eight P a b c d e f g h (suc (suc zero)) below = c
below_eight P a b c d e f g h (suc (suc (suc zero))) below = d
below_eight P a b c d e f g h (suc (suc (suc (suc n)))) below =
    below_four (λ k. P (suc (suc (suc (suc k))))) e f g h n (omega arith)

pub paired_at : (i j even odd digit : ℕ) → HasPairs i j even → HasPairs (i / 2 ^ 4) (j / 2 ^ 4) odd
    → digit < 8
    → slice_index (even ∷ odd ∷ []) (digit % 2) / 2 ^ (8 * (digit / 2)) % 256
    ≡ 16 * (i / 2 ^ (4 * digit) % 16) + j / 2 ^ (4 * digit) % 16
paired_at i j even odd digit even_is odd_is below =
    below_eight (λ d. slice_index (even ∷ odd ∷ []) (d % 2) / 2 ^ (8 * (d / 2)) % 256
    ≡ 16 * (i / 2 ^ (4 * d) % 16) + j / 2 ^ (4 * d) % 16)
    (even_is 0 (omega arith)) (odd_pair i j odd 0 odd_is (omega arith))
    (even_is 1 (omega arith)) (odd_pair i j odd 1 odd_is (omega arith))
    (even_is 2 (omega arith)) (odd_pair i j odd 2 odd_is (omega arith))
    (even_is 3 (omega arith)) (odd_pair i j odd 3 odd_is (omega arith)) digit below
