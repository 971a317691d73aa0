-- Places along the curve through a square of 2^n points along a side.
use Rattle.std.proofs.Common.{◌≡◌, ℕ, zero, suc, ◌+◌, ◌*◌, ◌/◌, ◌%◌, ◌^◌, ◌<◌, ◌≤◌, refl, sym, ◌∙◌, ap, arith}
use Rattle.std.proofs.lemmas.Nat.{pow-add, mul-pow, shr-shr, field_of, mod-pow-add, mul-add-lt, same_from_place, div-mul-add, mod-mul-add, mod_below, div-add-mod', div_below}
use Rattle.std.proofs.Math.Pow.{mod-mod-pow}
use Rattle.std.proofs.Math.Nat.{pow-suc, mod-mod, one-le-pow}
use Rattle.s2_hilbert.specs.Curve.{quadrant_at, place_of, turned, quadrant_of, place, turn_at, i_at, j_at}
use Rattle.s2_hilbert.proofs.lemmas.Quadrant.{is_place, is_quadrant}

pub quadrant_below : (n i j : ℕ) → quadrant_of n i j < 4
quadrant_below n i j = omega arith

-- the place of a point's quadrant
abbrev pub next_place : ℕ → ℕ → ℕ → ℕ → ℕ
next_place n turn i j = place_of turn (quadrant_of n i j)

pub place-suc : (n turn i j : ℕ) → place (suc n) turn i j
    ≡ next_place n turn i j * 4 ^ n + place n (turned turn (next_place n turn i j)) (i % 2 ^ n) (j % 2 ^ n)
unfolding place
place-suc n turn i j = refl

pub next_below : (n turn i j : ℕ) → turn < 4 → next_place n turn i j < 4
next_below n turn i j below = (is_quadrant turn (quadrant_of n i j) below (quadrant_below n i j)).place_below

pub next_turned : (n turn i j : ℕ) → turn < 4 → turned turn (next_place n turn i j) < 4
next_turned n turn i j below = (is_place turn (next_place n turn i j) below
    (next_below n turn i j below)).turned_below

digit_below : (p w r : ℕ) → p < 4 → r < w → p * w + r < w * 4
digit_below p w r p_below r_below = mul-add-lt p w r 4 p_below r_below

pub place_below : (n turn i j : ℕ) → turn < 4 → place n turn i j < 4 ^ n
unfolding place
place_below zero turn i j below = omega arith
place_below (suc n) turn i j below =
    let rest = place_below n (turned turn (next_place n turn i j)) (i % 2 ^ n) (j % 2 ^ n)
    (next_turned n turn i j below) in
    let whole : 4 ^ suc n ≡ 4 ^ n * 4 = pow-suc 4 n in
    rw whole (digit_below (next_place n turn i j) (4 ^ n) _ (next_below n turn i j below) rest)

pub turn_below : (n turn i j : ℕ) → turn < 4 → turn_at n turn i j < 4
unfolding turn_at
turn_below zero turn i j below = below
turn_below (suc n) turn i j below =
    turn_below n (turned turn (next_place n turn i j)) (i % 2 ^ n) (j % 2 ^ n) (next_turned n turn i j below)

-- a lower bit is that of the number without its higher bits
bit_kept : (n k i : ℕ) → i % 2 ^ (k + suc n) / 2 ^ n % 2 ≡ i / 2 ^ n % 2
bit_kept n k i =
    let power : k + suc n ≡ k + 1 + n = omega arith in
    rw power (ap (λ m. m % 2) (field_of i (k + 1) n) ∙ mod-mod-pow (i / 2 ^ n) k 1)

low_kept : (n k i : ℕ) → i % 2 ^ (k + suc n) % 2 ^ n ≡ i % 2 ^ n
low_kept n k i =
    let power : k + suc n ≡ k + 1 + n = omega arith in
    rw power (mod-mod-pow i (k + 1) n)

-- a place hangs on the lower bits alone
pub place_kept : (n k turn i j : ℕ) → place n turn (i % 2 ^ (k + n)) (j % 2 ^ (k + n)) ≡ place n turn i j
unfolding place
place_kept zero k turn i j = refl
place_kept (suc n) k turn i j =
    rw (bit_kept n k i, bit_kept n k j, low_kept n k i, low_kept n k j) refl

pub turn_kept : (n k turn i j : ℕ) → turn_at n turn (i % 2 ^ (k + n)) (j % 2 ^ (k + n)) ≡ turn_at n turn i j
unfolding turn_at
turn_kept zero k turn i j = refl
turn_kept (suc n) k turn i j =
    rw (bit_kept n k i, bit_kept n k j, low_kept n k i, low_kept n k j) refl

regroup : (p a w s r : ℕ) → p * (a * w) + (s * w + r) ≡ (p * a + s) * w + r
regroup p a w s r = omega arith

-- the highest bits of a number are those of the number without its n lowest
quadrant_high : (k n i j : ℕ) → quadrant_of (k + n) i j ≡ quadrant_of k (i / 2 ^ n) (j / 2 ^ n)
quadrant_high k n i j =
    let order : k + n ≡ n + k = omega arith in
    rw (order, ← shr-shr i n k, ← shr-shr j n k) refl

-- k levels and then n more are k + n levels
pub record IsSplit (k n m turn i j : ℕ) : Type 0 where
  pub places : place m turn i j ≡ place k turn (i / 2 ^ n) (j / 2 ^ n) * 4 ^ n
      + place n (turn_at k turn (i / 2 ^ n) (j / 2 ^ n)) (i % 2 ^ n) (j % 2 ^ n)
  pub turns : turn_at m turn i j ≡ turn_at n (turn_at k turn (i / 2 ^ n) (j / 2 ^ n)) (i % 2 ^ n) (j % 2 ^ n)

pub split_at : (k n m turn i j : ℕ) → m ≡ k + n → IsSplit k n m turn i j
unfolding place turn_at
split_at zero n m turn i j sum =
    let same : m ≡ 0 + n = omega (arith, sum) in
    let plain : 0 + n ≡ n = omega arith in
    record {
      places = rw (same, plain) (sym (place_kept n 0 turn i j) ∙ rw plain (omega arith));
      turns = rw (same, plain) (sym (turn_kept n 0 turn i j) ∙ rw plain refl);
    }
split_at (suc k) n zero turn i j sum = absurd (omega arith)
split_at (suc k) n (suc m) turn i j sum =
    let sum' : m ≡ k + n = omega arith in
    let next = next_place k turn (i / 2 ^ n) (j / 2 ^ n) in
    let rest = split_at k n (k + n) (turned turn next) (i % 2 ^ (k + n)) (j % 2 ^ (k + n)) refl in
    let places = rw (field_of i k n, field_of j k n, mod-mod-pow i k n, mod-mod-pow j k n) at rest.places in
    let turns = rw (field_of i k n, field_of j k n, mod-mod-pow i k n, mod-mod-pow j k n) at rest.turns in
    record {
      places = rw (sum', quadrant_high k n i j, places, pow-add 4 k n) (regroup next (4 ^ k) (4 ^ n) _ _);
      turns = rw (sum', quadrant_high k n i j) turns;
    }

bits_of : (x y x' y' : ℕ) → x < 2 → y < 2 → x' < 2 → y' < 2 → 2 * x + y ≡ 2 * x' + y' → (x ≡ x') × (y ≡ y')
bits_of x y x' y' a b a' b' same = (omega arith, omega arith)

-- a quadrant has one place
one_quadrant : (turn q q' : ℕ) → turn < 4 → q < 4 → q' < 4 → place_of turn q ≡ place_of turn q' → q ≡ q'
one_quadrant turn q q' below q_below q'_below same =
    sym ((is_quadrant turn q below q_below).undone) ∙ ap (λ p. quadrant_at turn p) same
    ∙ (is_quadrant turn q' below q'_below).undone

whole_of : (n i : ℕ) → i % 2 ^ suc n ≡ (i / 2 ^ n % 2) * 2 ^ n + i % 2 ^ n
whole_of n i = let power : suc n ≡ 1 + n = omega arith in rw power (mod-pow-add i 1 n)

-- two points of one place are one point
pub same_point : (n turn i j i' j' : ℕ) → turn < 4 → place n turn i j ≡ place n turn i' j'
    → (i % 2 ^ n ≡ i' % 2 ^ n) × (j % 2 ^ n ≡ j' % 2 ^ n)
same_point zero turn i j i' j' below same = (omega arith, omega arith)
same_point (suc n) turn i j i' j' below same =
    let next = next_place n turn i j in
    let next' = next_place n turn i' j' in
    let rest = place n (turned turn next) (i % 2 ^ n) (j % 2 ^ n) in
    let rest' = place n (turned turn next') (i' % 2 ^ n) (j' % 2 ^ n) in
    let sums : next * 4 ^ n + rest ≡ next' * 4 ^ n + rest' =
    sym (place-suc n turn i j) ∙ same ∙ place-suc n turn i' j' in
    let parts = same_from_place next rest next' rest' (4 ^ n)
    (place_below n (turned turn next) (i % 2 ^ n) (j % 2 ^ n) (next_turned n turn i j below))
    (place_below n (turned turn next') (i' % 2 ^ n) (j' % 2 ^ n) (next_turned n turn i' j' below)) sums in
    let quadrants = one_quadrant turn (quadrant_of n i j) (quadrant_of n i' j') below
    (quadrant_below n i j) (quadrant_below n i' j') parts.0 in
    let bits = bits_of (i / 2 ^ n % 2) (j / 2 ^ n % 2) (i' / 2 ^ n % 2) (j' / 2 ^ n % 2)
    (omega arith) (omega arith) (omega arith) (omega arith) quadrants in
    let turns : turned turn next' ≡ turned turn next = ap (λ p. turned turn p) (sym parts.0) in
    let rests : rest ≡ place n (turned turn next) (i' % 2 ^ n) (j' % 2 ^ n) =
    parts.1 ∙ ap (λ t. place n t (i' % 2 ^ n) (j' % 2 ^ n)) turns in
    let lower = same_point n (turned turn next) (i % 2 ^ n) (j % 2 ^ n) (i' % 2 ^ n) (j' % 2 ^ n)
    (next_turned n turn i j below) rests in
    let kept = simp mod-mod at lower in (
      whole_of n i ∙ ap (λ x. x * 2 ^ n + i % 2 ^ n) bits.0
          ∙ ap (λ x. i' / 2 ^ n % 2 * 2 ^ n + x) kept.0 ∙ sym (whole_of n i'),
      whole_of n j ∙ ap (λ x. x * 2 ^ n + j % 2 ^ n) bits.1
          ∙ ap (λ x. j' / 2 ^ n % 2 * 2 ^ n + x) kept.1 ∙ sym (whole_of n j'),
    )

pub four_pow_pos : (n : ℕ) → 0 < 4 ^ n
four_pow_pos n = let one : 1 ≤ 4 ^ n = one-le-pow n 4 (omega arith) in omega (arith, one)

along_below : (n along : ℕ) → along < 4 ^ suc n → along / 4 ^ n < 4
along_below n along below =
    let power : 4 ^ suc n ≡ 4 * 4 ^ n = pow-suc 4 n ∙ omega arith in
    div_below along (4 ^ n) 4 (four_pow_pos n) (rw power at below)

-- a number of one bit and the bits below it
record IsBitOver (bit width low number : ℕ) : Type 0 where
  below : number < 2 * width
  high : number / width % 2 ≡ bit
  rest : number % width ≡ low

bit_over : (bit width low : ℕ) → bit < 2 → low < width → IsBitOver bit width low (bit * width + low)
bit_over bit width low bit_below low_below =
    let high : (bit * width + low) / width ≡ bit = div-mul-add bit width low low_below in
    record {
      below = let sum : bit * width + low < width * 2 = mul-add-lt bit width low 2 bit_below low_below in
          omega (arith, sum);
      high = rw high (omega arith);
      rest = mod-mul-add bit width low low_below;
    }

-- the point at a place lies in the square, and has that place
pub record IsPoint (n turn along : ℕ) : Type 0 where
  pub i_below : i_at n turn along < 2 ^ n
  pub j_below : j_at n turn along < 2 ^ n
  pub undone : place n turn (i_at n turn along) (j_at n turn along) ≡ along

pub is_point : (n turn along : ℕ) → turn < 4 → along < 4 ^ n → IsPoint n turn along
unfolding place i_at j_at
is_point zero turn along turn_below along_below = record {
  i_below = omega arith;
  j_below = omega arith;
  undone = omega arith;
}
is_point (suc n) turn along turn_below below =
    let p = along / 4 ^ n in
    let p_below : p < 4 = along_below n along below in
    let step = is_place turn p turn_below p_below in
    let q = quadrant_at turn p in
    let q_below : q < 4 = step.quadrant_below in
    let low = along % 4 ^ n in
    let rest = is_point n (turned turn p) low step.turned_below (mod_below along (4 ^ n) (four_pow_pos n)) in
    let i = bit_over (q / 2) (2 ^ n) (i_at n (turned turn p) low) (omega arith) rest.i_below in
    let j = bit_over (q % 2) (2 ^ n) (j_at n (turned turn p) low) (omega arith) rest.j_below in
    let power : 2 ^ suc n ≡ 2 * 2 ^ n = pow-suc 2 n ∙ omega arith in
    let bits : 2 * (q / 2) + q % 2 ≡ q = omega arith in
    record {
      i_below = rw power i.below;
      j_below = rw power j.below;
      undone = rw (i.high, j.high, i.rest, j.rest, bits, step.undone, rest.undone) (div-add-mod' along
          (4 ^ n));
    }

-- two bits of a position for each level
pub power_of_four : (n : ℕ) → 4 ^ n ≡ 2 ^ (2 * n)
power_of_four n =
    let twice : 2 * n ≡ n + n = omega arith in
    rw twice (mul-pow 2 2 n ∙ sym (pow-add 2 n n))
