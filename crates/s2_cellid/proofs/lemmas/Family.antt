-- A cell is a square: its leaves' positions, divided by the number of leaves of such a square, are one
-- number.
use Rattle.std.proofs.Common.{◌≡◌, ℕ, ◌+◌, ◌-◌, ◌*◌, ◌/◌, ◌%◌, ◌^◌, ◌<◌, ◌≤◌, bit_and, refl, sym, ◌∙◌, ap, subst, arith, inl, inr}
use Rattle.std.specs.Prelude.{IsTrue, ◌↔◌}
use Rattle.std.specs.Int.{w64, bit_at}
use Rattle.std.proofs.lemmas.Nat.{pow_pos, pow-add, shl-shr, mul-le, div_below, div-mul-add}
use Rattle.std.proofs.Math.Nat.{div-div-eq-div-mul, pow-le-pow_right}
use Rattle.std.proofs.lemmas.Nat.Bits.{bit_at-trailing_zeros, and_high_mask}
use Rattle.std.proofs.lemmas.Bool.{cases_lt}
use Rattle.std.proofs.lemmas.Bool.Decides.{nat_tests}
use Rattle.s2_hilbert.specs.Grid.{GridLeaf, IsLeaf, ShareSquare, GridSquare, IsSquare, LiesInSquare}
use Rattle.s2_hilbert.specs.Curve.{position_of, grid_leaf_at, leaf_count}
use Rattle.s2_hilbert.proofs.lemmas.Place.{power_of_four}
use Rattle.s2_hilbert.proofs.lemmas.Curve.{powers, position_is, place_on_face_below, position_below, position_undone, leaf_is, same_leaf, square_number, first_is}
use Rattle.s2_hilbert.proofs.lemmas.Square.{quotient_range, same_square, square_quotient, has_positions, quarter_count}
use Rattle.s2_hilbert.proofs.lemmas.Place.{four_pow_pos}
use Rattle.s2_cellid.specs.Cell.{lowest_place, lowest_bit, level_of, face_of, IsCellId, first_leaf, last_leaf, leaf_id_at, cell_has, leaf_id, cell_has_leaf, square_id, parent_id, child_id}
use Rattle.s2_cellid.proofs.lemmas.Block.{SharesLeaf, leaves_between, ends_below, leaf_has_itself, power_double, block_of, number_of, id_between}

pub count_room : (level : ℕ) → (0 < leaf_count level) × (leaf_count level ≤ 2 ^ 60)
count_room level =
    let within : 30 - level ≤ 30 = omega arith in
    let power : 4 ^ (30 - level) ≤ 4 ^ 30 = pow-le-pow_right (omega arith) within in
    (four_pow_pos (30 - level), power)

-- an id by the number of its cell among the cells of its level
abbrev pub block_id : ℕ → ℕ → ℕ
block_id level number = 2 * (number * leaf_count level) + leaf_count level

even_below : (n number k low : ℕ) → n ≡ (2 * number + 1) * 2 ^ k → low < k → bit_at n low ≡ 0
even_below n number k low is below =
    let power = power_double low k below in
    let product : n ≡ (2 * ((2 * number + 1) * 2 ^ (k - low - 1))) * 2 ^ low =
    is ∙ ap (λ m. (2 * number + 1) * m) power ∙ regroup (2 * number + 1) (2 ^ (k - low - 1)) (2 ^ low) in
    let half : n / 2 ^ low ≡ 2 * ((2 * number + 1) * 2 ^ (k - low - 1)) =
    ap (λ m. m / 2 ^ low) product ∙ shl-shr (2 * ((2 * number + 1) * 2 ^ (k - low - 1))) low in
    omega (arith, half)
  where
    regroup : (a b c : ℕ) → a * (b * (2 * c)) ≡ (2 * (a * b)) * c
    regroup a b c = omega arith

odd_at : (n number k : ℕ) → n ≡ (2 * number + 1) * 2 ^ k → bit_at n k ≡ 1
odd_at n number k is =
    let half : n / 2 ^ k ≡ 2 * number + 1 = ap (λ m. m / 2 ^ k) is ∙ shl-shr (2 * number + 1) k in
    omega (arith, half)

-- the lowest set bit of an odd multiple of 2^k
odd_place_at : (n number k : ℕ) → n ≡ (2 * number + 1) * 2 ^ k → n < 2 ^ 64 → lowest_place n ≡ k
odd_place_at n number k is fits =
    let positive : 0 < n = omega (arith, is, pow_pos k) in
    let bits = bit_at-trailing_zeros w64 n positive fits in
    elim (cases_lt (lowest_place n) k) [
      | inl below ↦ absurd (omega (arith, even_below n number k (lowest_place n) is below, bits.1))
      | inr above ↦ elim (cases_lt k (lowest_place n)) [
        | inl more ↦ absurd (omega (arith, bits.2 k more, odd_at n number k is))
        | inr same ↦ omega (arith, above, same)
      ]
    ]

-- the cell of a level whose leaves are those at the positions with one quotient
pub record IsCellOf (id level number : ℕ) : Type 0 where
  pub valid : IsCellId id
  pub level_at_most : level ≤ 30
  pub level_is : level_of id ≡ level
  pub lowest_is : lowest_bit id ≡ leaf_count level
  pub id_is : id ≡ block_id level number
  pub within : number * leaf_count level + leaf_count level ≤ 6 * 2 ^ 60
  pub first_is : first_leaf id ≡ number * leaf_count level
  pub has : (p : ℕ) → IsTrue (cell_has id p) ↔ (p / leaf_count level ≡ number)

first_of : (id level number : ℕ) → lowest_bit id ≡ leaf_count level → id ≡ block_id level number
    → first_leaf id ≡ number * leaf_count level
first_of id level number lowest is = omega (arith, lowest, is, four_pow_pos (30 - level))

-- the positions from the first to the last leaf have one quotient
has_of : (id level number : ℕ) → IsCellId id → lowest_bit id ≡ leaf_count level → id ≡ block_id level number
    → (p : ℕ) → IsTrue (cell_has id p) ↔ (p / leaf_count level ≡ number)
has_of id level number valid lowest is p =
    let positive = four_pow_pos (30 - level) in
    let first = first_of id level number lowest is in
    let last : last_leaf id ≡ number * leaf_count level + (leaf_count level - 1) = omega
    (arith, lowest, is, positive) in
    let between = leaves_between id valid p in
    let quotient = quotient_range p (leaf_count level) number positive in (
      λ has. let range = between.0 has in quotient.1 (
        omega (arith, range, first),
        omega
            (arith, range, last),
      ),
      λ same. let range = quotient.0 same in between.1 (
        omega (arith, range, first),
        omega
            (arith, range, last),
      ),
    )

pub cell_of : (id level number : ℕ) → level ≤ 30 → number * leaf_count level + leaf_count level ≤ 6 * 2 ^ 60
    → id ≡ block_id level number → IsCellOf id level number
cell_of id level number at_most within is =
    let power : leaf_count level ≡ 2 ^ (2 * (30 - level)) = power_of_four (30 - level) in
    let odd : id ≡ (2 * number + 1) * 2 ^ (2 * (30 - level)) =
    is ∙ ap (λ c. 2 * (number * c) + c) power ∙ omega arith in
    let fits : id < 12 * 2 ^ 60 = omega (arith, is, within, four_pow_pos (30 - level)) in
    let place = odd_place_at id number (2 * (30 - level)) odd (omega arith) in
    let lowest : lowest_bit id ≡ leaf_count level = ap (λ k. 2 ^ k) place ∙ sym power in
    let on_face : face_of id < 6 = omega arith in
    let even : lowest_place id % 2 ≡ 0 = omega (arith, place) in
    let bounded : lowest_place id ≤ 60 = omega (arith, place) in
    let valid : IsCellId id = grind (arith, nat_tests) in
    record {
      valid = valid;
      level_at_most = at_most;
      level_is = omega (arith, place);
      lowest_is = lowest;
      id_is = is;
      within = within;
      first_is = first_of id level number lowest is;
      has = has_of id level number valid lowest is;
    }

-- each cell is one of them
pub is_cell_of : (id : ℕ) → IsCellId id → IsCellOf id (level_of id) (number_of id)
is_cell_of id valid =
    let bounded : lowest_place id ≤ 60 = grind (arith, nat_tests, valid) in
    let even : lowest_place id % 2 ≡ 0 = grind (arith, nat_tests, valid) in
    let place : lowest_place id ≡ 2 * (30 - level_of id) = omega arith in
    let lowest : lowest_bit id ≡ leaf_count (level_of id) = ap (λ k. 2 ^ k) place ∙ sym (power_of_four
    (30 - level_of id)) in
    let block = block_of id valid in
    let is : id ≡ block_id (level_of id) (number_of id) =
    subst (λ c. id ≡ 2 * (number_of id * c) + c) lowest block.id_is in
    record {
      valid = valid;
      level_at_most = omega arith;
      level_is = refl;
      lowest_is = lowest;
      id_is = is;
      within = subst (λ c. number_of id * c + c ≤ 6 * 2 ^ 60) lowest block.within;
      first_is = first_of id (level_of id) (number_of id) lowest is;
      has = has_of id (level_of id) (number_of id) valid lowest is;
    }

-- the leaves of a cell are exactly the square of its level round any of them
pub cell_square : (id level number : ℕ) (inner leaf : GridLeaf) → IsCellOf id level number → IsLeaf inner
    → IsLeaf leaf
    → position_of inner / leaf_count level ≡ number
    → IsTrue (cell_has_leaf id leaf) ↔ ShareSquare level inner leaf
cell_square id level number inner leaf cell inner_is leaf_is here =
    let shares = same_square level inner leaf cell.level_at_most inner_is leaf_is in
    let has = cell.has (position_of leaf) in (
      λ holds. shares.1 (here ∙ sym (has.0 holds)),
      λ share. has.1 (sym (shares.0 share) ∙ here),
    )

-- the cell of one leaf
pub leaf_cell : (position : ℕ) → position < 6 * 2 ^ 60 → IsCellOf (leaf_id_at position) 30 position
leaf_cell position below = cell_of (leaf_id_at position) 30 position (omega arith) (omega arith) (omega arith)

pub leaf_cell_has : (leaf other : GridLeaf) → IsLeaf leaf → IsLeaf other
    → IsTrue (cell_has_leaf (leaf_id leaf) other) ↔ (other ≡ leaf)
leaf_cell_has leaf other is other_is =
    let itself = leaf_has_itself (position_of leaf) (position_of other) (position_below leaf is) in (
      λ has. same_leaf other leaf other_is is (itself.0 has),
      λ same. itself.1 (ap position_of same),
    )

-- the cell of a square
pub square_cell : (square : GridSquare) → IsSquare square
    → IsCellOf (square_id square) square.level (square_number square)
square_cell square is =
    let first = first_is square is.level_at_most in
    let facts = has_positions square is in
    cell_of (square_id square) square.level (square_number square) is.level_at_most
    (omega (arith, first, facts.last_below, facts.count_positive)) (omega (arith, first))

pub square_cell_has : (leaf : GridLeaf) (square : GridSquare) → IsLeaf leaf → IsSquare square
    → IsTrue (cell_has_leaf (square_id square) leaf) ↔ LiesInSquare leaf square
square_cell_has leaf square is square_is =
    let has = (square_cell square square_is).has (position_of leaf) in
    let quotient = square_quotient leaf square is square_is in
    (λ holds. quotient.1 (has.0 holds), λ within. has.1 (quotient.0 within))

-- the cell above
pub parent_cell : (level id : ℕ) → IsCellId id → level ≤ 30 → IsCellOf (parent_id level id) level (id /
    (2 * leaf_count level))
parent_cell level id valid at_most =
    let count = leaf_count level in
    let positive = four_pow_pos (30 - level) in
    let whole = powers level at_most in
    let cell = is_cell_of id valid in
    let below : id < 12 * 2 ^ 60 = omega (arith, cell.id_is, cell.within, four_pow_pos (30 - level_of id)) in
    let range : id < 6 * 4 ^ level * (2 * count) = omega (arith, below, whole) in
    let number : id / (2 * count) < 6 * 4 ^ level = div_below id (2 * count) (6 * 4 ^ level) (omega
    (arith, positive)) range in
    let product : (id / (2 * count) + 1) * count ≤ 6 * 4 ^ level * count =
    mul-le (id / (2 * count) + 1) count (6 * 4 ^ level) count (omega (arith, number)) (omega arith) in
    cell_of (parent_id level id) level (id / (2 * count)) at_most (omega (arith, product, whole))
    (omega arith)

-- the bits of a valid id above the lowest set bit of a level
pub kept_above : (level id : ℕ) → IsCellId id
    → bit_and id (2 ^ 64 - 1 - (2 * leaf_count level - 1)) ≡ id / (2 * leaf_count level) *
    (2 * leaf_count level)
kept_above level id valid =
    let place = 2 * (30 - level) + 1 in
    let power : 2 * leaf_count level ≡ 2 ^ place =
    ap (λ n. 2 * n) (power_of_four (30 - level)) ∙ omega (arith, pow-add 2 (2 * (30 - level)) 1) in
    let room = count_room level in
    let mask : 2 ^ 64 - 1 - (2 * leaf_count level - 1) ≡ 2 ^ 64 - 2 ^ place = omega (arith, power, room) in
    let fits : id < 2 ^ 64 = (id_between id valid).1 in
    rw (mask, power) (and_high_mask 64 place (omega arith) id fits)

-- the number of the cell above, by the cell's and by those of its leaves
pub parent_number : (level id p : ℕ) → IsCellId id → level ≤ level_of id → IsTrue (cell_has id p)
    → p / leaf_count level ≡ id / (2 * leaf_count level)
parent_number level id p valid at_most has =
    let cell = is_cell_of id valid in
    let count = leaf_count (level_of id) in
    let share = 4 ^ (level_of id - level) in
    let sum : 30 - level ≡ 30 - level_of id + (level_of id - level) = omega (arith, cell.level_at_most) in
    let counts : leaf_count level ≡ count * share = ap (λ n. 4 ^ n) sum ∙ pow-add 4 (30 - level_of id)
    (level_of id - level) in
    let doubles : 2 * (count * share) ≡ 2 * count * share = omega arith in
    let split : id ≡ number_of id * (2 * count) + count = omega (arith, cell.id_is) in
    let number : id / (2 * count) ≡ number_of id =
    ap (λ m. m / (2 * count)) split
    ∙ div-mul-add (number_of id) (2 * count) count (omega (arith, four_pow_pos (30 - level_of id))) in
    rw (
      counts,
      doubles,
      ← div-div-eq-div-mul p count share,
      ← div-div-eq-div-mul id
          (2 * count) share,
      number,
      (cell.has p).0 has,
    ) refl

pub parent_cell_has : (level id : ℕ) (inner leaf : GridLeaf) → IsCellId id → level ≤ level_of id
    → IsLeaf inner → IsLeaf leaf
    → IsTrue (cell_has_leaf id inner) → IsTrue (cell_has_leaf (parent_id level id) leaf)
    ↔ ShareSquare level inner leaf
parent_cell_has level id inner leaf valid at_most inner_is leaf_is has =
    cell_square (parent_id level id) level (id / (2 * leaf_count level)) inner leaf
    (parent_cell level id valid (omega arith)) inner_is leaf_is (parent_number level id
    (position_of inner) valid at_most has)

-- the cell below
pub child_cell : (k id : ℕ) → IsCellId id → k < 4 → level_of id < 30
    → IsCellOf (child_id k id) (level_of id + 1) (4 * number_of id + k)
child_cell k id valid k_below inside =
    let cell = is_cell_of id valid in
    let count = leaf_count (level_of id + 1) in
    let lowest : lowest_bit id ≡ 4 * count = cell.lowest_is ∙ quarter_count (level_of id) inside in
    let quarter : lowest_bit id / 4 ≡ count = omega (arith, lowest) in
    let split : id ≡ 2 * (number_of id * (4 * count)) + 4 * count =
    cell.id_is ∙ ap (λ c. 2 * (number_of id * c) + c) (quarter_count (level_of id) inside) in
    let within : number_of id * (4 * count) + 4 * count ≤ 6 * 2 ^ 60 =
    subst (λ c. number_of id * c + c ≤ 6 * 2 ^ 60) (quarter_count (level_of id) inside) cell.within in
    let product : (k + 1) * count ≤ 4 * count = mul-le (k + 1) count 4 count (omega arith) (omega arith) in
    let id_is : child_id k id ≡ id - 4 * count + (2 * k + 1) * count = rw (quarter, lowest) refl in
    cell_of (child_id k id) (level_of id + 1) (4 * number_of id + k) (omega arith)
    (omega (arith, within, product)) (id_is ∙ omega (arith, split))

-- the quarters of a quotient
quarters : (p n count k : ℕ) → 0 < count → k < 4
    → (p / count ≡ 4 * n + k) ↔ ((p / (4 * count) ≡ n) × ((p - n * (4 * count)) / count ≡ k))
quarters p n count k positive k_below =
    let product : (k + 1) * count ≤ 4 * count = mul-le (k + 1) count 4 count (omega arith) (omega arith) in
    let below = quotient_range p count (4 * n + k) positive in
    let above = quotient_range p (4 * count) n (omega arith) in
    let part = quotient_range (p - n * (4 * count)) count k positive in (
      λ is. let range = below.0 is in (
        above.1 (omega (arith, range), omega (arith, range, product)),
        part.1 (omega (arith, range), omega (arith, range)),
      ),
      λ both. let range = above.0 both.0 in
          let inside = part.0 both.1 in
          below.1 (omega (arith, range, inside), omega (arith, range, inside)),
    )

-- the leaves of the child at place k are those of the cell in the k-th quarter of its positions
pub child_cell_has : (k id p : ℕ) → IsCellId id → k < 4 → level_of id < 30
    → IsTrue (cell_has (child_id k id) p)
    ↔ (IsTrue (cell_has id p) × ((p - first_leaf id) / leaf_count (level_of (child_id k id)) ≡ k))
child_cell_has k id p valid k_below inside =
    let cell = is_cell_of id valid in
    let child = child_cell k id valid k_below inside in
    let count = leaf_count (level_of id + 1) in
    let counts = quarter_count (level_of id) inside in
    let parts = quarters p (number_of id) count k (four_pow_pos (30 - (level_of id + 1))) k_below in
    let first : first_leaf id ≡ number_of id * (4 * count) = cell.first_is ∙ ap
    (λ c. number_of id * c) counts in
    let in_cell = rw counts at (cell.has p) in
    rw (child.level_is, first) (
      λ has. let both = parts.0 ((child.has p).0 has) in (in_cell.1 both.0, both.1),
      λ both. (child.has p).1 (parts.1 (in_cell.0 both.0, both.1)),
    )

-- the square of its level round any leaf of a cell
pub level_square : (id : ℕ) (inner leaf : GridLeaf) → IsCellId id → IsLeaf inner → IsLeaf leaf
    → IsTrue (cell_has_leaf id inner) → IsTrue (cell_has_leaf id leaf) ↔ ShareSquare (level_of id) inner leaf
level_square id inner leaf valid inner_is leaf_is has =
    let cell = is_cell_of id valid in
    cell_square id (level_of id) (number_of id) inner leaf cell inner_is leaf_is ((cell.has
    (position_of inner)).0 has)

-- the face of a cell is that of its leaves
pub face_square : (id : ℕ) (leaf : GridLeaf) → IsCellId id → IsLeaf leaf → IsTrue (cell_has_leaf id leaf)
    → leaf.face ≡ face_of id
face_square id leaf valid is has =
    let number : position_of leaf / 2 ^ 60 ≡ id / 2 ^ 61 = parent_number 0 id (position_of leaf) valid
    (omega arith) has in
    omega (arith, number, position_is leaf, place_on_face_below leaf)

-- a position of a cell is one of a leaf
pub position_in : (id p : ℕ) → IsCellId id → IsTrue (cell_has id p) → p < 6 * 2 ^ 60
position_in id p valid has =
    let range = (leaves_between id valid p).0 has in
    omega (arith, range, (ends_below id valid).1)

-- what holds of all positions of a cell holds of all its leaves, and the other way round
pub all_leaves : (a b : ℕ) → IsCellId b
    → ((p : ℕ) → IsTrue (cell_has b p) → IsTrue (cell_has a p))
    ↔ ((leaf : GridLeaf) → IsLeaf leaf → IsTrue (cell_has_leaf b leaf) → IsTrue (cell_has_leaf a leaf))
all_leaves a b valid = (
  λ all. λ leaf is has. all (position_of leaf) has,
  λ all. λ p has.
      let below = position_in b p valid has in
      let same = position_undone p in
      subst (λ n. IsTrue (cell_has a n)) same
      (all (grid_leaf_at p) (leaf_is p below) (subst (λ n. IsTrue (cell_has b n)) (sym same) has)),
)

abbrev pub SharesGridLeaf : ℕ → ℕ → Type 0
SharesGridLeaf a b = (leaf : GridLeaf) × (IsLeaf leaf × IsTrue (cell_has_leaf a leaf) × IsTrue
    (cell_has_leaf b leaf))

pub some_leaf : (a b : ℕ) → IsCellId b → SharesLeaf a b ↔ SharesGridLeaf a b
some_leaf a b valid = (
  λ shared. let p = shared.0 in
      let same = position_undone p in (
        grid_leaf_at p,
        (
          leaf_is p (position_in b p valid shared.1.1),
          subst (λ n. IsTrue (cell_has a n)) (sym same) shared.1.0,
          subst (λ n. IsTrue (cell_has b n)) (sym same) shared.1.1,
        ),
      ),
  λ shared. (position_of shared.0, (shared.1.1, shared.1.2)),
)
