-- A cell is a block of leaf positions: `unit` of them, from `number * unit` on.
use Rattle.std.proofs.Common.{◌≡◌, ℕ, ◌+◌, ◌-◌, ◌*◌, ◌/◌, ◌%◌, ◌^◌, ◌<◌, ◌≤◌, zero, suc, refl, sym, ◌∙◌, ap, arith, inl, inr}
use Rattle.std.specs.Prelude.{IsTrue, ◌↔◌}
use Rattle.std.specs.Int.{w64, bit_at, is_in_range, IsInRange}
use Rattle.std.proofs.lemmas.Nat.{pow_pos, pow-add, mod_below, shr_split}
use Rattle.std.proofs.lemmas.Nat.Bits.{bit_at-trailing_zeros, bit_at-zero, bit_at_cat_low, same_from_bits_below}
use Rattle.std.proofs.lemmas.Bool.{cases_lt}
use Rattle.std.specs.Int.Count.{trailing_of_zero}
use Rattle.std.proofs.lemmas.Bool.Decides.{nat_tests}
use Rattle.std.proofs.Math.Nat.{lt_of_mul-lt-mul_right, mul-le-mul_right, mul_assoc}
use Rattle.s2_cellid.specs.Cell.{lowest_place, lowest_bit, face_of, IsCellId, first_leaf_id, last_leaf_id, first_leaf, last_leaf, leaf_id_at, cell_has}

-- the id stands in the middle of the block, and the block lies within the six faces
pub record IsCellBlock (id unit number : ℕ) : Type 0 where
  pub positive : 0 < unit
  pub id_is : id ≡ 2 * (number * unit) + unit
  pub within : number * unit + unit ≤ 6 * 2 ^ 60

-- a number with no bit set below place k is a multiple of 2 ^ k
pub zero_low : (k n : ℕ) → ((i : ℕ) → i < k → bit_at n i ≡ 0) → n % 2 ^ k ≡ 0
zero_low k n unset =
    same_from_bits_below k (n % 2 ^ k) 0 (mod_below n (2 ^ k) (pow_pos k)) (pow_pos k) (λ i below.
    sym (bit_at_cat_low (n / 2 ^ k) k (n % 2 ^ k) i below) ∙ ap (λ m. bit_at m i) (shr_split n k)
    ∙ unset i below ∙ sym (bit_at-zero i))

odd_multiple : (n half number unit rest : ℕ) → half * unit + rest ≡ n → rest ≡ 0
    → half ≡ 2 * number + 1 → n ≡ 2 * (number * unit) + unit
odd_multiple n half number unit rest split none odd =
    let product : half * unit ≡ (2 * number + 1) * unit = ap (λ h. h * unit) odd in
    omega arith

-- a number is an odd multiple of its lowest set bit
pub odd_part : (n : ℕ) → 0 < n → n < 2 ^ 64
    → n ≡ 2 * (n / lowest_bit n / 2 * lowest_bit n) + lowest_bit n
odd_part n positive fits =
    let bits = bit_at-trailing_zeros w64 n positive fits in
    let low : n % lowest_bit n ≡ 0 = zero_low (lowest_place n) n bits.2 in
    let odd : n / lowest_bit n ≡ 2 * (n / lowest_bit n / 2) + 1 = omega (arith, bits.1) in
    odd_multiple n (n / lowest_bit n) (n / lowest_bit n / 2) (lowest_bit n) (n % lowest_bit n)
    (shr_split n (lowest_place n)) low odd

room : (number unit above : ℕ) → 2 * (number * unit) + unit < 12 * (above * unit)
    → number * unit + unit ≤ 6 * (above * unit)
room number unit above below =
    let products : (2 * number + 1) * unit < (12 * above) * unit = omega arith in
    let odd : 2 * number + 1 < 12 * above = lt_of_mul-lt-mul_right unit products in
    let next : number + 1 ≤ 6 * above = omega arith in
    let scaled : (number + 1) * unit ≤ (6 * above) * unit = mul-le-mul_right unit next in
    omega arith

pow_split : (k : ℕ) → k ≤ 60 → 2 ^ (60 - k) * 2 ^ k ≡ 2 ^ 60
pow_split k within =
    let whole : 60 - k + k ≡ 60 = omega arith in sym (pow-add 2 (60 - k) k) ∙ ap (λ n. 2 ^ n) whole

not_zero : (id : ℕ) → lowest_place id ≤ 60 → 0 < id
not_zero zero place = let all = rw (trailing_of_zero 64) at place in absurd (omega (arith, all))
not_zero (suc n) place = omega arith

-- how many blocks of the same size lie before that of an id
abbrev pub number_of : ℕ → ℕ
number_of id = id / lowest_bit id / 2

-- what a valid id is, as arithmetic
pub block_of : (id : ℕ) → IsCellId id → IsCellBlock id (lowest_bit id) (number_of id)
block_of id valid =
    let on_face : face_of id < 6 = grind (arith, nat_tests, valid) in
    let place : lowest_place id ≤ 60 = grind (arith, nat_tests, valid) in
    let set : 0 < id = not_zero id place in
    let odd : id ≡ 2 * (number_of id * lowest_bit id) + lowest_bit id = odd_part id set (omega arith) in
    let above = 2 ^ (60 - lowest_place id) in
    let whole : above * lowest_bit id ≡ 2 ^ 60 = pow_split (lowest_place id) place in
    let below : 2 * (number_of id * lowest_bit id) + lowest_bit id < 12 * (above * lowest_bit id) =
    omega arith in
    record {
      positive = pow_pos (lowest_place id);
      id_is = odd;
      within = omega (arith, whole, room (number_of id) (lowest_bit id) above below);
    }

pub id_between : (id : ℕ) → IsCellId id → (0 < id) × (id < 2 ^ 64)
id_between id valid =
    let on_face : face_of id < 6 = grind (arith, nat_tests, valid) in
    let place : lowest_place id ≤ 60 = grind (arith, nat_tests, valid) in
    (not_zero id place, omega (arith, on_face))

-- the ends of a block, as ids and as positions
pub record HasEnds (id : ℕ) : Type 0 where
  pub unit_within : lowest_bit id ≤ id
  pub unit_positive : 0 < lowest_bit id
  pub first_odd : 2 * (first_leaf_id id / 2) + 1 ≡ first_leaf_id id
  pub last_odd : 2 * (last_leaf_id id / 2) + 1 ≡ last_leaf_id id
  pub ordered : first_leaf_id id ≤ id × id ≤ last_leaf_id id
  pub below : last_leaf_id id < 12 * 2 ^ 60

ends_of_block : (id unit number : ℕ) → IsCellBlock id unit number → lowest_bit id ≡ unit → HasEnds id
ends_of_block id unit number block is =
    let first : first_leaf_id id ≡ 2 * (number * unit) + 1 = omega (arith, is, block) in
    let last : last_leaf_id id + 1 ≡ 2 * (number * unit) + 2 * unit = omega (arith, is, block) in
    record {
      unit_within = omega (arith, block, is);
      unit_positive = omega (arith, block, is);
      first_odd = omega (arith, first);
      last_odd = omega (arith, last, block);
      ordered = (omega (arith, first, block), omega (arith, last, block));
      below = omega (arith, last, block);
    }

pub ends_of : (id : ℕ) → IsCellId id → HasEnds id
ends_of id valid =
    ends_of_block id (lowest_bit id) (number_of id) (block_of id valid) refl

-- of two blocks, one whose middle lies in the other lies in it whole
inside_larger : (number unit other share small : ℕ) → unit ≡ share * small
    → 2 * (number * unit) < 2 * (other * small) + small
    → 2 * (other * small) + small < 2 * (number * unit) + 2 * unit
    → (number * unit ≤ other * small) × (other * small + small ≤ number * unit + unit)
inside_larger number unit other share small shares above below =
    let product : number * unit ≡ number * share * small =
    ap (λ n. number * n) shares ∙ sym (mul_assoc number share small) in
    let low_products : (2 * (number * share)) * small < (2 * other + 1) * small =
    omega (arith, product, above) in
    let low : 2 * (number * share) < 2 * other + 1 = lt_of_mul-lt-mul_right small low_products in
    let high_products : (2 * other + 1) * small < (2 * (number * share + share)) * small =
    omega (arith, product, below, shares) in
    let high : 2 * other + 1 < 2 * (number * share + share) =
    lt_of_mul-lt-mul_right small high_products in
    let from : (number * share) * small ≤ other * small =
    mul-le-mul_right small (omega (arith, low)) in
    let to : (other + 1) * small ≤ (number * share + share) * small =
    mul-le-mul_right small (omega (arith, high)) in
    (omega (arith, product, from), omega (arith, product, shares, to))

-- and no larger block has its middle in a smaller one
never_larger : (number unit other share large : ℕ) → large ≡ share * (2 * unit)
    → 2 * (number * unit) < 2 * (other * large) + large
    → 2 * (other * large) + large < 2 * (number * unit) + 2 * unit → ⊥
never_larger number unit other share large shares above below =
    let middle : 2 * (other * large) + large ≡ ((2 * other + 1) * share) * (2 * unit) =
    ap (λ n. 2 * (other * n) + n) shares ∙ omega arith in
    let low : number < (2 * other + 1) * share =
    lt_of_mul-lt-mul_right (2 * unit) (omega (arith, middle, above)) in
    let high : (2 * other + 1) * share < number + 1 =
    lt_of_mul-lt-mul_right (2 * unit) (omega (arith, middle, below)) in
    omega (arith, low, high)

power_share : (low high : ℕ) → low ≤ high → 2 ^ high ≡ 2 ^ (high - low) * 2 ^ low
power_share low high within =
    let whole : high ≡ high - low + low = omega arith in ap (λ n. 2 ^ n) whole
    ∙ pow-add 2 (high - low) low

pub power_double : (low high : ℕ) → low < high → 2 ^ high ≡ 2 ^ (high - low - 1) * (2 * 2 ^ low)
power_double low high within =
    let whole : high ≡ (high - low - 1) + (low + 1) = omega arith in
    let twice : 2 ^ (low + 1) ≡ 2 * 2 ^ low = pow-add 2 low 1 ∙ omega arith in
    ap (λ n. 2 ^ n) whole ∙ pow-add 2 (high - low - 1) (low + 1)
    ∙ ap (λ n. 2 ^ (high - low - 1) * n) twice

-- an id in a cell's closed range is that of a cell inside it
pub range_inside : (a b : ℕ) → IsCellId a → IsCellId b → first_leaf_id a ≤ b → b ≤ last_leaf_id a
    → (first_leaf_id a ≤ first_leaf_id b) × (last_leaf_id b ≤ last_leaf_id a)
range_inside a b valid_a valid_b above below =
    let block_a = block_of a valid_a in
    let block_b = block_of b valid_b in
    let low : 2 * (number_of a * lowest_bit a) < 2 * (number_of b * lowest_bit b) + lowest_bit b =
    omega (arith, block_a, block_b) in
    let high :
    2 * (number_of b * lowest_bit b) + lowest_bit b
    < 2 * (number_of a * lowest_bit a) + 2 * lowest_bit a = omega (arith, block_a, block_b) in
    elim (cases_lt (lowest_place a) (lowest_place b)) [
      | inl larger ↦
          let share = 2 ^ (lowest_place b - lowest_place a - 1) in
          absurd (never_larger (number_of a) (lowest_bit a) (number_of b) share (lowest_bit b)
          (power_double (lowest_place a) (lowest_place b) larger) low high)
      | inr smaller ↦
          let share = 2 ^ (lowest_place a - lowest_place b) in
          let inside = inside_larger (number_of a) (lowest_bit a) (number_of b) share (lowest_bit b)
          (power_share (lowest_place b) (lowest_place a) smaller) low high in
          (omega (arith, block_a, block_b, inside), omega (arith, block_a, block_b, inside))
    ]

in_range : (first id last : ℕ) → IsTrue (is_in_range first last id) → IsInRange first last id
in_range first id last holds = (grind (arith, nat_tests), grind (arith, nat_tests))

of_range : (first id last : ℕ) → IsInRange first last id → IsTrue (is_in_range first last id)
of_range first id last holds = grind (arith, nat_tests)

-- the leaves of a cell are those from its first to its last
pub leaves_between : (id : ℕ) → IsCellId id → (p : ℕ)
    → IsTrue (cell_has id p) ↔ IsInRange (first_leaf id) (last_leaf id) p
leaves_between id valid p =
    let ends = ends_of id valid in (
      λ has. let range =
          in_range (first_leaf_id id) (leaf_id_at p) (last_leaf_id id) has in
          (omega (arith, ends, range), omega (arith, ends, range)),
      λ between. of_range (first_leaf_id id) (leaf_id_at p) (last_leaf_id id)
          (omega (arith, ends, between), omega (arith, ends, between)),
    )

pub first_is_leaf : (id : ℕ) → IsCellId id → leaf_id_at (first_leaf id) ≡ first_leaf_id id
first_is_leaf id valid = (ends_of id valid).first_odd

pub last_is_leaf : (id : ℕ) → IsCellId id → leaf_id_at (last_leaf id) ≡ last_leaf_id id
last_is_leaf id valid = (ends_of id valid).last_odd

pub ends_below : (id : ℕ) → IsCellId id
    → (first_leaf id ≤ last_leaf id) × (last_leaf id < 6 * 2 ^ 60)
ends_below id valid = let ends = ends_of id valid in (omega (arith, ends), omega (arith, ends))

pub first_belongs : (id : ℕ) → IsCellId id → IsTrue (cell_has id (first_leaf id))
first_belongs id valid =
    (leaves_between id valid (first_leaf id)).1 (omega arith, (ends_below id valid).0)

pub last_belongs : (id : ℕ) → IsCellId id → IsTrue (cell_has id (last_leaf id))
last_belongs id valid =
    (leaves_between id valid (last_leaf id)).1 ((ends_below id valid).0, omega arith)

-- an id lies in a cell's closed range exactly where its cell has no leaf outside that cell
pub range_by_leaves : (a b : ℕ) → IsCellId a → IsCellId b
    → IsInRange (first_leaf_id a) (last_leaf_id a) b ↔
    ((p : ℕ) → IsTrue (cell_has b p) → IsTrue (cell_has a p))
range_by_leaves a b valid_a valid_b = (
  λ between. let inside = range_inside a b valid_a valid_b between.0 between.1 in
      λ p has. let range = in_range (first_leaf_id b) (leaf_id_at p) (last_leaf_id b) has in
      of_range (first_leaf_id a) (leaf_id_at p) (last_leaf_id a)
      (omega (arith, inside, range), omega (arith, inside, range)),
  λ all. let ends = ends_of b valid_b in
      let first =
      in_range (first_leaf_id a) (leaf_id_at (first_leaf b)) (last_leaf_id a)
      (all (first_leaf b) (first_belongs b valid_b)) in
      let last =
      in_range (first_leaf_id a) (leaf_id_at (last_leaf b)) (last_leaf_id a)
      (all (last_leaf b) (last_belongs b valid_b)) in
      (omega (arith, ends, first, last), omega (arith, ends, first, last)),
)

abbrev pub SharesLeaf : ℕ → ℕ → Type 0
SharesLeaf a b = (p : ℕ) × (IsTrue (cell_has a p) × IsTrue (cell_has b p))

shared_at : (a b p : ℕ) → leaf_id_at p ≡ first_leaf_id a → IsCellId a
    → first_leaf_id b ≤ first_leaf_id a → first_leaf_id a ≤ last_leaf_id b → SharesLeaf a b
shared_at a b p is valid low high =
    let ends = ends_of a valid in (
      p,
      (
        of_range (first_leaf_id a) (leaf_id_at p) (last_leaf_id a)
            (omega (arith, ends, is), omega (arith, ends, is)),
        of_range (first_leaf_id b) (leaf_id_at p) (last_leaf_id b)
            (omega (arith, is, low), omega (arith, is, high)),
      ),
    )

pub shared_leaf : (a b : ℕ) → IsCellId a → IsCellId b → first_leaf_id a ≤ last_leaf_id b
    → first_leaf_id b ≤ last_leaf_id a → SharesLeaf a b
shared_leaf a b valid_a valid_b low high =
    elim (cases_lt (first_leaf_id a) (first_leaf_id b)) [
      | inl less ↦ let shared =
          shared_at b a (first_leaf b) (first_is_leaf b valid_b) valid_b (omega (arith, less))
          high in (shared.0, (shared.1.1, shared.1.0))
      | inr more ↦ shared_at a b (first_leaf a) (first_is_leaf a valid_a) valid_a more low
    ]

pub ranges_meet : (a b : ℕ) → SharesLeaf a b
    → (first_leaf_id a ≤ last_leaf_id b) × (first_leaf_id b ≤ last_leaf_id a)
ranges_meet a b shared =
    let range_a = in_range (first_leaf_id a) (leaf_id_at shared.0) (last_leaf_id a) shared.1.0 in
    let range_b = in_range (first_leaf_id b) (leaf_id_at shared.0) (last_leaf_id b) shared.1.1 in
    (omega (arith, range_a, range_b), omega (arith, range_a, range_b))

-- an odd number has no zero at its end
odd_place : (position : ℕ) → 0 < leaf_id_at position → leaf_id_at position < 2 ^ 64
    → lowest_place (leaf_id_at position) ≡ 0
odd_place position positive fits =
    let bits = bit_at-trailing_zeros w64 (leaf_id_at position) positive fits in
    elim (cases_lt 0 (lowest_place (leaf_id_at position))) [
      | inl some ↦ let even : leaf_id_at position / 2 ^ 0 % 2 ≡ 0 = bits.2 0 some in
          absurd (omega (arith, even))
      | inr none ↦ omega (arith, none)
    ]

pub leaf_has_itself : (position p : ℕ) → position < 6 * 2 ^ 60
    → IsTrue (cell_has (leaf_id_at position) p) ↔ (p ≡ position)
leaf_has_itself position p below =
    let id = leaf_id_at position in
    let place : lowest_place id ≡ 0 = odd_place position (omega arith) (omega arith) in
    let unit : lowest_bit id ≡ 1 = ap (λ k. 2 ^ k) place in (
      λ has.
          let range = in_range (first_leaf_id id) (leaf_id_at p) (last_leaf_id id) has in
          omega (arith, unit, range),
      λ same. of_range (first_leaf_id id) (leaf_id_at p) (last_leaf_id id)
          (omega (arith, unit, same), omega (arith, unit, same)),
    )
