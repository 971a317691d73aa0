-- The table of hex digits.
use Rattle.std.proofs.Common.{◌≡◌, ℕ, zero, suc, ◌+◌, ◌<◌, ◌≤◌, List, [], ◌∷◌, length, refl, arith}
use Rattle.std.specs.Prelude.{IsTrue, Bool, true, ◌&&◌, ◌==◌, nat_lt, if◌then◌else◌, slice_index_or}
use Rattle.std.specs.Char.{digit_value}
use Rattle.std.proofs.lemmas.Bool.{and_parts}
use Rattle.std.proofs.lemmas.Bool.Decides.{nat_tests}
use Rattle.s2_cellid.specs.declared.tokens.TheConstants.{HEX_VALUES}

-- what stands for each byte from a first one on
unfoldable values_fit : ℕ → List ℕ → Bool
values_fit byte [] = true
values_fit byte (value ∷ values) =
    value == (if nat_lt (digit_value byte) 16 then digit_value byte else 16) && values_fit (suc byte) values

-- what a byte has as its value
abbrev pub value_or_16 : ℕ → ℕ
value_or_16 byte = if nat_lt (digit_value byte) 16 then digit_value byte else 16

fits_at : (first byte n : ℕ) (values : List ℕ) (default : ℕ) → byte ≡ first + n → IsTrue
    (values_fit first values)
    → n < length values → IsTrue (slice_index_or values n default == value_or_16 byte)
unfolding values_fit
fits_at first byte n [] default sum all below = absurd (omega arith)
fits_at first byte zero (value ∷ values) default sum all below =
    let same : byte ≡ first = omega arith in
    rw same ((and_parts (value == value_or_16 first) (values_fit (suc first) values) all).0)
fits_at first byte (suc n) (value ∷ values) default sum all below =
    fits_at (suc first) byte n values default (omega arith)
    ((and_parts (value == value_or_16 first) (values_fit (suc first) values) all).1) (omega arith)

all_fit : IsTrue (values_fit 0 HEX_VALUES)
unfolding values_fit
all_fit = refl

reported : (value digit : ℕ) → IsTrue (value == (if nat_lt digit 16 then digit else 16))
    → (value < 16 → (digit < 16) × (value ≡ digit)) × (16 ≤ value → digit < 16 → ⊥)
reported value digit fits = (
  λ below. (grind (arith, nat_tests), grind (arith, nat_tests)),
  λ above digit_below. grind (arith, nat_tests),
)

pub hex_value_at : (byte default : ℕ) → byte < 256 →
    (slice_index_or HEX_VALUES byte default < 16
    → (digit_value byte < 16) × (slice_index_or HEX_VALUES byte default ≡ digit_value byte))
    × (16 ≤ slice_index_or HEX_VALUES byte default → digit_value byte < 16 → ⊥)
hex_value_at byte default below =
    reported (slice_index_or HEX_VALUES byte default) (digit_value byte)
    (fits_at 0 byte byte HEX_VALUES default (omega arith) all_fit below)
