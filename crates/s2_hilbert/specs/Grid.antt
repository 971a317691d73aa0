-- The leaf cells of the S2 geometry library (class S2CellId) and the squares that they make up.
-- Each of the six faces of the cube is a grid of 2^30 by 2^30 leaves. A square of level k, from 0 for
-- a whole face to 30 for a leaf, has 2^(30-k) leaves along each side.
use Rattle.std.specs.Prelude.{◌≡◌, ℕ, ◌-◌, ◌/◌, ◌^◌, ◌<◌, ◌≤◌}

-- how many faces there are
abbrev pub face_count : ℕ
face_count = 6

-- the level of a leaf (S2CellId::kMaxLevel)
abbrev pub leaf_level : ℕ
leaf_level = 30

-- how many leaves a square of the level has along a side
abbrev pub side_of : ℕ → ℕ
side_of level = 2 ^ (leaf_level - level)

-- a leaf: its face, and its coordinates in the grid of that face
pub record GridLeaf : Type 0 where
  pub face : ℕ
  pub i : ℕ
  pub j : ℕ

abbrev pub grid_leaf : ℕ → ℕ → ℕ → GridLeaf
grid_leaf face i j = record { face = face; i = i; j = j }

-- the three numbers are those of a leaf
pub record IsLeaf (leaf : GridLeaf) : Type 0 where
  pub face_below : leaf.face < face_count
  pub i_below : leaf.i < side_of 0
  pub j_below : leaf.j < side_of 0

-- two leaves lie in one square of the level
pub record ShareSquare (level : ℕ) (one other : GridLeaf) : Type 0 where
  pub same_face : one.face ≡ other.face
  pub same_i : one.i / side_of level ≡ other.i / side_of level
  pub same_j : one.j / side_of level ≡ other.j / side_of level

-- a square: its face, its level, and its coordinates in the grid of the squares of that level
pub record GridSquare : Type 0 where
  pub face : ℕ
  pub level : ℕ
  pub a : ℕ
  pub b : ℕ

abbrev pub grid_square : ℕ → ℕ → ℕ → ℕ → GridSquare
grid_square face level a b = record { face = face; level = level; a = a; b = b }

-- the four numbers are those of a square
pub record IsSquare (square : GridSquare) : Type 0 where
  pub face_below : square.face < face_count
  pub level_at_most : square.level ≤ leaf_level
  pub a_below : square.a < 2 ^ square.level
  pub b_below : square.b < 2 ^ square.level

-- the leaf lies in the square
pub record LiesInSquare (leaf : GridLeaf) (square : GridSquare) : Type 0 where
  pub on_face : leaf.face ≡ square.face
  pub i_within : leaf.i / side_of square.level ≡ square.a
  pub j_within : leaf.j / side_of square.level ≡ square.b
