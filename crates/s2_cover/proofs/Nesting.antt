-- How the leaves of two cells lie to one another, and a cell's parent.
use Rattle.std.proofs.Common.{◌≡◌, ℕ, ◌+◌, ◌-◌, ◌*◌, ◌/◌, ◌%◌, ◌^◌, ◌<◌, ◌≤◌, sym, ◌∙◌, ap, subst, arith, inl, inr}
use Rattle.std.specs.Prelude.{IsTrue}
use Rattle.std.specs.Int.{w64, bit_at, IsInRange}
use Rattle.std.proofs.lemmas.Nat.{pow_pos, pow-add, mul-pow, shr_split, mod_below}
use Rattle.std.proofs.lemmas.Nat.Bits.{bit_at-trailing_zeros, bit_at-zero, bit_at_cat_low, bit_at_cat_high}
use Rattle.std.proofs.lemmas.Bool.{cases_lt}
use Rattle.std.proofs.lemmas.Bool.Decides.{nat_tests}
use Rattle.std.proofs.Math.Nat.{lt_of_mul-lt-mul_right, mul-le-mul_right, mul_assoc}
use Rattle.s2_hilbert.specs.Curve.{leaf_count}
use Rattle.s2_cellid.specs.Cell.{lowest_place, lowest_bit, face_of, level_of, IsCellId, first_leaf, last_leaf, cell_has}
use Rattle.s2_cellid.proofs.lemmas.Block.{block_of, number_of, ends_of, leaves_between}
use Rattle.s2_cover.specs.Covers.{parent_of}

-- a cell's leaves, as a block of as many as its lowest bit says
pub record HasLeaves (id : ℕ) : Type 0 where
  pub middle : id ≡ 2 * first_leaf id + lowest_bit id
  pub ended : last_leaf id + 1 ≡ first_leaf id + lowest_bit id
  pub some : 0 < lowest_bit id
  pub block : first_leaf id ≡ number_of id * lowest_bit id
  pub below : last_leaf id < 6 * 2 ^ 60

pub has_leaves : (id : ℕ) → IsCellId id → HasLeaves id
has_leaves id valid =
    let ends = ends_of id valid in
    let block = block_of id valid in
    let middle : id ≡ 2 * first_leaf id + lowest_bit id = omega (arith, ends) in
    record {
      middle = middle;
      ended = omega (arith, ends);
      some = ends.unit_positive;
      block = omega (arith, middle, block.id_is);
      below = omega (arith, ends);
    }

pub place_of : (id : ℕ) → IsCellId id → (lowest_place id % 2 ≡ 0) × (lowest_place id ≤ 60)
place_of id valid = (grind (arith, nat_tests, valid), grind (arith, nat_tests, valid))

-- of two aligned blocks with a common position, the smaller lies in the larger
smaller_inside : (small share large low high p : ℕ) → large ≡ share * small
    → low * small ≤ p → p < low * small + small → high * large ≤ p → p < high * large + large
    → (high * large ≤ low * small) × (low * small + small ≤ high * large + large)
smaller_inside small share large low high p shares a b c d =
    let product : high * large ≡ high * share * small =
    ap (λ n. high * n) shares ∙ sym (mul_assoc high share small) in
    let left_products : (high * share) * small < (low + 1) * small = omega (arith, product, b, c) in
    let left : high * share < low + 1 = lt_of_mul-lt-mul_right small left_products in
    let right_products : low * small < (high * share + share) * small =
    omega (arith, product, shares, a, d) in
    let right : low < high * share + share = lt_of_mul-lt-mul_right small right_products in
    let from : (high * share) * small ≤ low * small = mul-le-mul_right small (omega (arith, left)) in
    let to : (low + 1) * small ≤ (high * share + share) * small =
    mul-le-mul_right small (omega (arith, right)) in
    (omega (arith, product, from), omega (arith, product, shares, to))

power_share : (low high : ℕ) → low ≤ high → 2 ^ high ≡ 2 ^ (high - low) * 2 ^ low
power_share low high within =
    let whole : high ≡ high - low + low = omega arith in ap (λ n. 2 ^ n) whole
    ∙ pow-add 2 (high - low) low

-- a cell that lies in another, by their ends
pub record LiesIn (inner outer : ℕ) : Type 0 where
  pub first : first_leaf outer ≤ first_leaf inner
  pub last : last_leaf inner ≤ last_leaf outer

between : (id p : ℕ) → IsCellId id → IsTrue (cell_has id p)
    → IsInRange (first_leaf id) (last_leaf id) p
between id p valid = (leaves_between id valid p).0

-- of two cells with a common leaf, the one with the lower lowest bit lies in the other
pub nested : (a b p : ℕ) → IsCellId a → IsCellId b → IsTrue (cell_has a p) → IsTrue (cell_has b p)
    → lowest_place a ≤ lowest_place b → LiesIn a b
nested a b p valid_a valid_b has_a has_b places =
    let leaves_a = has_leaves a valid_a in
    let leaves_b = has_leaves b valid_b in
    let in_a = between a p valid_a has_a in
    let in_b = between b p valid_b has_b in
    let share = 2 ^ (lowest_place b - lowest_place a) in
    let inside =
    smaller_inside (lowest_bit a) share (lowest_bit b) (number_of a) (number_of b) p
    (power_share (lowest_place a) (lowest_place b) places) (omega (arith, leaves_a, in_a))
    (omega (arith, leaves_a, in_a)) (omega (arith, leaves_b, in_b)) (omega (arith, leaves_b, in_b)) in
    record {
      first = omega (arith, leaves_a, leaves_b, inside);
      last = omega (arith, leaves_a, leaves_b, inside);
    }

pub leaves_inside : (a b p : ℕ) → IsCellId a → IsCellId b → LiesIn a b → IsTrue (cell_has a p)
    → IsTrue (cell_has b p)
leaves_inside a b p valid_a valid_b lies has =
    let in_a = between a p valid_a has in
    (leaves_between b valid_b p).1 (omega (arith, in_a, lies), omega (arith, in_a, lies))

-- two cells of one level with a common leaf are one
pub same_cell : (a b p : ℕ) → IsCellId a → IsCellId b → IsTrue (cell_has a p)
    → IsTrue (cell_has b p) → lowest_place a ≡ lowest_place b → a ≡ b
same_cell a b p valid_a valid_b has_a has_b places =
    let one = nested a b p valid_a valid_b has_a has_b (omega (arith, places)) in
    let other = nested b a p valid_b valid_a has_b has_a (omega (arith, places)) in
    let bits : lowest_bit a ≡ lowest_bit b = ap (λ k. 2 ^ k) places in
    let leaves_a = has_leaves a valid_a in
    let leaves_b = has_leaves b valid_b in
    omega (arith, one, other, bits, leaves_a.middle, leaves_b.middle)

-- the lowest bit of an odd multiple of a power
odd_bit : (number k : ℕ) → bit_at (2 * (number * 2 ^ k) + 2 ^ k) k ≡ 1
odd_bit number k =
    let split : (2 * number + 1) * 2 ^ k + 0 ≡ 2 * (number * 2 ^ k) + 2 ^ k = omega arith in
    let same : k - k ≡ 0 = omega arith in
    ap (λ n. bit_at n k) (sym split) ∙ bit_at_cat_high (2 * number + 1) k 0 k (pow_pos k) (omega arith)
    ∙ ap (λ i. bit_at (2 * number + 1) i) same ∙ omega arith

odd_low : (number k i : ℕ) → i < k → bit_at (2 * (number * 2 ^ k) + 2 ^ k) i ≡ 0
odd_low number k i below =
    let split : (2 * number + 1) * 2 ^ k + 0 ≡ 2 * (number * 2 ^ k) + 2 ^ k = omega arith in
    ap (λ n. bit_at n i) (sym split) ∙ bit_at_cat_low (2 * number + 1) k 0 i below ∙ bit_at-zero i

place_of-odd : (id number k : ℕ) → id ≡ 2 * (number * 2 ^ k) + 2 ^ k → id < 2 ^ 64
    → lowest_place id ≡ k
place_of-odd id number k is fits =
    let bits = bit_at-trailing_zeros w64 id (omega (arith, is, pow_pos k)) fits in
    let one : bit_at id k ≡ 1 = ap (λ n. bit_at n k) is ∙ odd_bit number k in
    elim (cases_lt (lowest_place id) k) [
      | inl less ↦
          let none : bit_at id (lowest_place id) ≡ 0 =
          ap (λ n. bit_at n (lowest_place id)) is ∙ odd_low number k (lowest_place id) less in
          absurd (omega (arith, none, bits.1))
      | inr more ↦ elim (cases_lt k (lowest_place id)) [
        | inl above ↦ absurd (omega (arith, one, bits.2 k above))
        | inr same ↦ omega (arith, more, same)
      ]
    ]

-- the next larger block round a block, and how far it may reach
pub record IsParent (id parent : ℕ) : Type 0 where
  pub valid : IsCellId parent
  pub place : lowest_place parent ≡ lowest_place id + 2
  pub lies : LiesIn id parent

-- the block of four times as many positions that a block lies in, below a multiple of its size
parent_block : (id unit number bit q rest whole share : ℕ) → id ≡ 2 * (number * unit) + unit
    → 0 < unit → bit ≡ 4 * unit → q * (2 * bit) + rest ≡ id → rest < 2 * bit → whole ≡ share * (2 * bit)
    → id < whole
    → (q * bit ≤ number * unit) × (number * unit + unit ≤ q * bit + bit)
    × (q * (2 * bit) + 2 * bit ≤ whole)
parent_block id unit number bit q rest whole share is positive four split small shares below =
    let product : q * bit ≡ (4 * q) * unit = ap (λ n. q * n) four ∙ omega arith in
    let low : (8 * q) * unit < (2 * number + 2) * unit = omega (arith, product, is, split, positive) in
    let low_count : 8 * q < 2 * number + 2 = lt_of_mul-lt-mul_right unit low in
    let from : (4 * q) * unit ≤ number * unit = mul-le-mul_right unit (omega (arith, low_count)) in
    let high : (2 * number + 1) * unit < (8 * q + 8) * unit = omega
    (arith, product, is, split, small, four) in
    let high_count : 2 * number + 1 < 8 * q + 8 = lt_of_mul-lt-mul_right unit high in
    let to : (number + 1) * unit ≤ (4 * q + 4) * unit =
    mul-le-mul_right unit (omega (arith, high_count)) in
    let within : q * (2 * bit) < share * (2 * bit) = omega (arith, split, shares, below) in
    let fewer : q < share = lt_of_mul-lt-mul_right (2 * bit) within in
    let room : (q + 1) * (2 * bit) ≤ share * (2 * bit) =
    mul-le-mul_right (2 * bit) (omega (arith, fewer)) in
    (omega (arith, product, from), omega (arith, product, to, four), omega (arith, room, shares))

four_more : (n : ℕ) → 4 ^ (n + 1) ≡ 4 * 2 ^ (n + n)
four_more n =
    pow-add 4 n 1 ∙ ap (λ power. power * 4) (mul-pow 2 2 n ∙ sym (pow-add 2 n n)) ∙ omega arith

-- a cell of the level above has four times as many leaves
count_above : (id : ℕ) → IsCellId id → lowest_place id < 60
    → leaf_count (level_of id - 1) ≡ 4 * lowest_bit id
count_above id valid inner =
    let half = lowest_place id / 2 in
    let levels : 30 - (level_of id - 1) ≡ half + 1 = omega (arith, inner) in
    let even : half + half ≡ lowest_place id = omega (arith, place_of id valid) in
    ap (λ n. 4 ^ n) levels ∙ four_more half ∙ ap (λ k. 4 * 2 ^ k) even

pub parent_is : (id : ℕ) → IsCellId id → lowest_place id < 60 → IsParent id (parent_of id)
parent_is id valid inner =
    let k = lowest_place id in
    let unit = lowest_bit id in
    let bit = leaf_count (level_of id - 1) in
    let larger_bit : bit ≡ 4 * unit = count_above id valid inner in
    let q = id / (2 * bit) in
    let place = place_of id valid in
    let block = block_of id valid in
    let leaves = has_leaves id valid in
    let eight : 2 ^ (k + 3) ≡ 2 * bit = pow-add 2 k 3 ∙ omega (arith, larger_bit) in
    let four : 2 ^ (k + 2) ≡ bit = pow-add 2 k 2 ∙ omega (arith, larger_bit) in
    let split : q * (2 * bit) + id % (2 * bit) ≡ id =
    let P : ℕ → Type 0 = λ n. id / n * n + id % n ≡ id in subst P eight (shr_split id (k + 3)) in
    let share = 6 * 2 ^ (61 - (k + 3)) in
    let sixty : 61 - (k + 3) + (k + 3) ≡ 61 = omega (arith, place, inner) in
    let whole : 6 * 2 ^ 61 ≡ share * (2 * bit) =
    ap (λ n. 6 * 2 ^ n) (sym sixty) ∙ ap (λ n. 6 * n) (pow-add 2 (61 - (k + 3)) (k + 3))
    ∙ ap (λ n. 6 * (2 ^ (61 - (k + 3)) * n)) eight ∙ omega arith in
    let below : id < 6 * 2 ^ 61 = omega (arith, leaves) in
    let room =
    parent_block id unit (number_of id) bit q (id % (2 * bit)) (6 * 2 ^ 61) share block.id_is
    leaves.some
    larger_bit split (mod_below id (2 * bit) (omega (arith, leaves.some, larger_bit))) whole below in
    let parent = parent_of id in
    let fits : parent < 6 * 2 ^ 61 = omega (arith, room, leaves.some, larger_bit) in
    let odd : parent ≡ 2 * (q * 2 ^ (k + 2)) + 2 ^ (k + 2) =
    omega arith ∙ ap (λ n. 2 * (q * n) + n) (sym four) in
    let up : lowest_place parent ≡ k + 2 = place_of-odd parent q (k + 2) odd (omega (arith, fits)) in
    let on_face : face_of parent < 6 = omega (arith, fits) in
    let even : lowest_place parent % 2 ≡ 0 = omega (arith, up, place) in
    let at_most : lowest_place parent ≤ 60 = omega (arith, up, place, inner) in
    let valid_parent : IsCellId parent = grind (arith, nat_tests) in
    let larger = has_leaves parent valid_parent in
    let size : lowest_bit parent ≡ bit = ap (λ n. 2 ^ n) up ∙ four in
    record {
      valid = valid_parent;
      place = up;
      lies = record {
        first = omega (arith, larger, size, room, leaves, odd, four);
        last = omega (arith, larger, size, room, leaves, odd, four);
      };
    }
