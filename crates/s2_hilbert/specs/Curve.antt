-- The Hilbert curve of the S2 geometry library over the leaves of the six faces, one level at a step.
-- A square is parted into four quadrants. The quadrant `2 * x + y` lies in the half x of the square
-- along i and in the half y along j, each 0 or 1. An orientation has a swap bit 1 and an invert bit 2.
use Rattle.std.specs.Prelude.{ℕ, zero, suc, ◌+◌, ◌-◌, ◌*◌, ◌/◌, ◌%◌, ◌^◌, ◌==◌, bit_xor, List, [], ◌∷◌, slice_index, slice_index_or}
use Rattle.std.specs.List.{position_or_len}
use Rattle.s2_hilbert.specs.Grid.{leaf_level, GridLeaf, GridSquare}

-- for each orientation, its four quadrants in curve order (kPosToIJ of S2, as s2coords.h and the page
-- "S2 Cell Hierarchy" of its documentation have it)
abbrev pub table_of_quadrants : List (List ℕ)
table_of_quadrants =
    (0 ∷ 1 ∷ 3 ∷ 2 ∷ [])
    ∷ (0 ∷ 2 ∷ 3 ∷ 1 ∷ [])
    ∷ (3 ∷ 2 ∷ 0 ∷ 1 ∷ [])
    ∷ (3 ∷ 1 ∷ 0 ∷ 2 ∷ [])
    ∷ []

-- what changes in the orientation on going down to the quadrant at each place (kPosToOrientation)
abbrev pub changes_of_turn : List ℕ
changes_of_turn = 1 ∷ 0 ∷ 0 ∷ 3 ∷ []

-- the quadrants in curve order, where the square has the orientation
abbrev pub quadrants_of : ℕ → List ℕ
quadrants_of turn = slice_index_or table_of_quadrants turn []

-- the quadrant at a place of the curve
unfoldable pub quadrant_at : ℕ → ℕ → ℕ
quadrant_at turn place = slice_index (quadrants_of turn) place

-- the place of a quadrant along the curve
unfoldable pub place_of : ℕ → ℕ → ℕ
place_of turn quadrant = position_or_len (λ q. q == quadrant) (quadrants_of turn)

-- the orientation of the quadrant at a place, in a square with the orientation `turn`
unfoldable pub turned : ℕ → ℕ → ℕ
turned turn place = bit_xor turn (slice_index changes_of_turn place)

-- the quadrant of a point in a square of 2^(n+1) points along a side: the bits n of its coordinates
abbrev pub quadrant_of : ℕ → ℕ → ℕ → ℕ
quadrant_of n i j = 2 * (i / 2 ^ n % 2) + j / 2 ^ n % 2

-- the place of a point along the curve through a square of 2^n points along a side
unfoldable pub place : ℕ → ℕ → ℕ → ℕ → ℕ
place zero turn i j = 0
place (suc n) turn i j =
    let p = place_of turn (quadrant_of n i j) in
    p * 4 ^ n + place n (turned turn p) (i % 2 ^ n) (j % 2 ^ n)

-- the orientation of the curve at that point, n levels down
unfoldable pub turn_at : ℕ → ℕ → ℕ → ℕ → ℕ
turn_at zero turn i j = turn
turn_at (suc n) turn i j =
    let p = place_of turn (quadrant_of n i j) in
    turn_at n (turned turn p) (i % 2 ^ n) (j % 2 ^ n)

-- how many leaves a square of the level has
abbrev pub leaf_count : ℕ → ℕ
leaf_count level = 4 ^ (leaf_level - level)

-- the position of a leaf among all leaves; a face begins with the orientation `face % 2`
unfoldable pub position_of : GridLeaf → ℕ
position_of leaf = leaf.face * leaf_count 0 + place leaf_level (leaf.face % 2) leaf.i leaf.j

-- the coordinates of the point at a place along the curve
unfoldable pub i_at : ℕ → ℕ → ℕ → ℕ
i_at zero turn along = 0
i_at (suc n) turn along =
    let p = along / 4 ^ n in
    quadrant_at turn p / 2 * 2 ^ n + i_at n (turned turn p) (along % 4 ^ n)

unfoldable pub j_at : ℕ → ℕ → ℕ → ℕ
j_at zero turn along = 0
j_at (suc n) turn along =
    let p = along / 4 ^ n in
    quadrant_at turn p % 2 * 2 ^ n + j_at n (turned turn p) (along % 4 ^ n)

-- the leaf at a position
unfoldable pub grid_leaf_at : ℕ → GridLeaf
grid_leaf_at position =
    let face = position / leaf_count 0 in
    let along = position % leaf_count 0 in
    record { face = face; i = i_at leaf_level (face % 2) along; j = j_at leaf_level (face % 2) along }

-- the orientation of a square
unfoldable pub turn_of : GridSquare → ℕ
turn_of square = turn_at square.level (square.face % 2) square.a square.b

-- the position of a square's first leaf: the squares of a level, too, stand in the order of the curve
unfoldable pub first_position : GridSquare → ℕ
first_position square =
    square.face * leaf_count 0
    + place square.level (square.face % 2) square.a square.b * leaf_count square.level

-- the position of a square's last leaf
abbrev pub last_position : GridSquare → ℕ
last_position square = first_position square + (leaf_count square.level - 1)
