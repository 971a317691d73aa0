-- Squares as cells: the block of positions of a square's cell.
use Rattle.std.proofs.Common.{◌≡◌, ℕ, ◌+◌, ◌-◌, ◌*◌, ◌^◌, ◌<◌, ◌≤◌, refl, ◌∙◌, ap, arith}
use Rattle.std.proofs.Math.Nat.{mul-le-mul_right}
use Rattle.std.specs.Prelude.{IsTrue}
use Rattle.std.proofs.lemmas.Nat.{pow-add}
use Rattle.s2_hilbert.specs.Grid.{GridSquare, IsSquare}
use Rattle.s2_hilbert.specs.Curve.{first_position, last_position, leaf_count}
use Rattle.s2_cellid.specs.Cell.{lowest_place, level_of, IsCellId, first_leaf, last_leaf, cell_has, square_id}
use Rattle.s2_cellid.proofs.lemmas.Block.{first_belongs}
use Rattle.s2_cellid.proofs.lemmas.Family.{IsCellOf, cell_of, square_cell, count_room}
use Rattle.s2_cover.specs.Covers.{parent_of}
use Rattle.s2_cover.proofs.Laid.{has_position}
use Rattle.s2_cover.proofs.Nesting.{has_leaves, place_of, parent_is, leaves_inside, same_cell}

-- a cell of a level, whose leaves are at the positions from `first` on
pub record IsBlock (id level first : ℕ) : Type 0 where
  pub valid : IsCellId id
  pub level_at_most : level ≤ 30
  pub level_is : level_of id ≡ level
  pub place : lowest_place id ≡ 60 - 2 * level
  pub begins : first_leaf id ≡ first
  pub ends : last_leaf id + 1 ≡ first + leaf_count level

block_from : (id level number : ℕ) → IsCellOf id level number → IsBlock id level (number * leaf_count level)
block_from id level number is =
    let leaves = has_leaves id is.valid in
    record {
      valid = is.valid;
      level_at_most = is.level_at_most;
      level_is = is.level_is;
      place = omega (arith, place_of id is.valid, is.level_is, is.level_at_most);
      begins = is.first_is;
      ends = omega (arith, leaves.ended, is.first_is, is.lowest_is);
    }

-- the cell at a multiple of its number of leaves
pub block_at : (level number : ℕ) → level ≤ 30
    → number * leaf_count level + leaf_count level ≤ 6 * 2 ^ 60
    → IsBlock (2 * (number * leaf_count level) + leaf_count level) level (number * leaf_count level)
block_at level number at_most within =
    let id = 2 * (number * leaf_count level) + leaf_count level in
    block_from id level number (cell_of id level number at_most within refl)

-- the cell of a square
pub square_block : (square : GridSquare) → IsSquare square
    → IsBlock (square_id square) square.level (first_position square)
square_block square is =
    let cell = square_cell square is in
    let block = block_from (square_id square) square.level _ cell in
    let leaves = has_leaves (square_id square) cell.valid in
    let first : first_leaf (square_id square) ≡ first_position square =
    omega (arith, leaves.middle, cell.lowest_is) in
    record {
      valid = block.valid;
      level_at_most = block.level_at_most;
      level_is = block.level_is;
      place = block.place;
      begins = first;
      ends = omega (arith, block.ends, block.begins, first);
    }

pub some_leaves : (level : ℕ) → 0 < leaf_count level
some_leaves level = (count_room level).0

-- the positions of a square are positions of leaves
pub last_below : (square : GridSquare) → IsSquare square → last_position square < 6 * 2 ^ 60
last_below square is =
    let block = square_block square is in
    omega (arith, block.ends, (has_leaves (square_id square) block.valid).below, some_leaves square.level)

-- a cell has as many leaves as its four children
pub four_children : (level : ℕ) → level < 30 → leaf_count level ≡ 4 * leaf_count (level + 1)
four_children level inner =
    let levels : 30 - level ≡ 30 - (level + 1) + 1 = omega (arith, inner) in
    ap (λ n. 4 ^ n) levels ∙ pow-add 4 (30 - (level + 1)) 1 ∙ omega arith

-- the parent of a quarter of a cell is that cell
pub parent_block : (id parent level first k : ℕ) → IsBlock parent level first → k < 4 → level < 30
    → IsBlock id (level + 1) (first + k * leaf_count (level + 1)) → parent_of id ≡ parent
parent_block id parent level first k whole below inner quarter =
    let up = parent_is id quarter.valid (omega (arith, quarter.place, inner)) in
    let p = first_leaf id in
    let count = leaf_count (level + 1) in
    let four = four_children level inner in
    let within : k * count + count ≤ 4 * count = mul_room k count below in
    let in_up : IsTrue (cell_has (parent_of id) p) =
    leaves_inside id (parent_of id) p quarter.valid up.valid up.lies (first_belongs id quarter.valid) in
    let in_whole : IsTrue (cell_has parent p) =
    has_position parent p whole.valid (omega (arith, whole.begins, quarter.begins))
    (omega (arith, whole.ends, quarter.begins, four, within, some_leaves (level + 1))) in
    same_cell (parent_of id) parent p up.valid whole.valid in_up in_whole
    (omega (arith, up.place, quarter.place, whole.place, inner)) where
      mul_room : (k count : ℕ) → k < 4 → k * count + count ≤ 4 * count
      mul_room k count below =
          let more : k + 1 ≤ 4 = omega (arith, below) in omega (arith, mul-le-mul_right count more)
