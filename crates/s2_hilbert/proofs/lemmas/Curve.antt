-- Positions of leaves, and the positions of a square's leaves.
use Rattle.std.proofs.Common.{◌≡◌, ℕ, ◌+◌, ◌-◌, ◌*◌, ◌/◌, ◌%◌, ◌^◌, ◌<◌, ◌≤◌, refl, sym, ◌∙◌, ap, subst, arith}
use Rattle.std.specs.Prelude.{◌↔◌}
use Rattle.std.specs.Int.{IsInRange}
use Rattle.std.proofs.lemmas.Nat.{pow-add, same_from_place, div-add-mod', shr_below}
use Rattle.std.proofs.Math.Nat.{mod-eq_of_lt}
use Rattle.s2_hilbert.specs.Grid.{GridLeaf, grid_leaf, IsLeaf, side_of, GridSquare, IsSquare, LiesInSquare}
use Rattle.s2_hilbert.specs.Curve.{place, turn_at, position_of, grid_leaf_at, leaf_count, first_position, last_position}
use Rattle.s2_hilbert.proofs.lemmas.Place.{place_below, turn_below, split_at, same_point, is_point, four_pow_pos}

-- the place of a leaf on its face's curve
abbrev pub place_on_face : GridLeaf → ℕ
place_on_face leaf = place 30 (leaf.face % 2) leaf.i leaf.j

pub place_on_face_below : (leaf : GridLeaf) → place_on_face leaf < 2 ^ 60
place_on_face_below leaf = place_below 30 (leaf.face % 2) leaf.i leaf.j (omega arith)

pub position_is : (leaf : GridLeaf) → position_of leaf ≡ leaf.face * 2 ^ 60 + place_on_face leaf
unfolding position_of
position_is leaf = refl

pub position_below : (leaf : GridLeaf) → IsLeaf leaf → position_of leaf < 6 * 2 ^ 60
position_below leaf is = omega (arith, place_on_face_below leaf, position_is leaf, is.face_below)

same_leaf_by : (one other : GridLeaf) → one.face ≡ other.face → one.i ≡ other.i → one.j ≡ other.j → one
    ≡ other
same_leaf_by one other face i j = λ k. record { face = face k; i = i k; j = j k }

-- two leaves of one position are one leaf
pub same_leaf : (one other : GridLeaf) → IsLeaf one → IsLeaf other → position_of one ≡ position_of other
    → one ≡ other
same_leaf one other one_is other_is same =
    let sums : one.face * 2 ^ 60 + place_on_face one ≡ other.face * 2 ^ 60 + place_on_face other =
    sym (position_is one) ∙ same ∙ position_is other in
    let parts = same_from_place one.face (place_on_face one) other.face (place_on_face other) (2 ^ 60)
    (place_on_face_below one) (place_on_face_below other) sums in
    let places : place_on_face one ≡ place 30 (one.face % 2) other.i other.j =
    parts.1 ∙ ap (λ f. place 30 (f % 2) other.i other.j) (sym parts.0) in
    let point = same_point 30 (one.face % 2) one.i one.j other.i other.j (omega arith) places in
    same_leaf_by one other parts.0
    (sym (mod-eq_of_lt one_is.i_below) ∙ point.0 ∙ mod-eq_of_lt other_is.i_below)
    (sym (mod-eq_of_lt one_is.j_below) ∙ point.1 ∙ mod-eq_of_lt other_is.j_below)

-- the leaf at a position is a leaf, and has that position
pub leaf_is : (position : ℕ) → position < 6 * 2 ^ 60 → IsLeaf (grid_leaf_at position)
unfolding grid_leaf_at
leaf_is position below =
    let point = is_point 30 (position / 2 ^ 60 % 2) (position % 2 ^ 60) (omega arith) (omega arith) in
    record { face_below = omega arith; i_below = point.i_below; j_below = point.j_below }

pub position_undone : (position : ℕ) → position_of (grid_leaf_at position) ≡ position
unfolding grid_leaf_at position_of
position_undone position =
    let point = is_point 30 (position / 2 ^ 60 % 2) (position % 2 ^ 60) (omega arith) (omega arith) in
    rw point.undone (div-add-mod' position (2 ^ 60))

pub leaf_undone : (leaf : GridLeaf) → IsLeaf leaf → grid_leaf_at (position_of leaf) ≡ leaf
leaf_undone leaf is =
    same_leaf (grid_leaf_at (position_of leaf)) leaf (leaf_is (position_of leaf) (position_below leaf is)) is
    (position_undone (position_of leaf))

-- the place of a square on its face's curve, among the squares of its level
abbrev pub square_place : GridSquare → ℕ
square_place square = place square.level (square.face % 2) square.a square.b

pub powers : (level : ℕ) → level ≤ 30 → 4 ^ level * leaf_count level ≡ 2 ^ 60
powers level below =
    let sum : 30 ≡ level + (30 - level) = omega arith in
    sym (ap (λ n. 4 ^ n) sum ∙ pow-add 4 level (30 - level))

-- a position is that of the leaf's square of a level, and the place in that square
pub record IsInSquare (level : ℕ) (leaf : GridLeaf) (low : ℕ) : Type 0 where
  pub low_below : low < leaf_count level
  pub position : position_of leaf
      ≡ (leaf.face * 4 ^ level + place level (leaf.face % 2) (leaf.i / side_of level)
      (leaf.j / side_of level))
      * leaf_count level + low

joined : (face p low levels count : ℕ) → face * (levels * count) + (p * count + low) ≡
    (face * levels + p) * count + low
joined face p low levels count = omega arith

-- the place of a leaf within its square of a level
abbrev pub place_within : ℕ → GridLeaf → ℕ
place_within level leaf =
    place (30 - level) (turn_at level (leaf.face % 2) (leaf.i / side_of level) (leaf.j / side_of level))
    (leaf.i % side_of level) (leaf.j % side_of level)

pub in_square : (level : ℕ) (leaf : GridLeaf) → level ≤ 30 → IsInSquare level leaf (place_within level leaf)
in_square level leaf below =
    let sum : 30 ≡ level + (30 - level) = omega arith in
    let split = split_at level (30 - level) 30 (leaf.face % 2) leaf.i leaf.j sum in
    let turn = turn_at level (leaf.face % 2) (leaf.i / side_of level) (leaf.j / side_of level) in
    let turn_low : turn < 4 = turn_below level (leaf.face % 2) (leaf.i / side_of level)
    (leaf.j / side_of level) (omega arith) in
    let above = place level (leaf.face % 2) (leaf.i / side_of level) (leaf.j / side_of level) in
    record {
      low_below = place_below (30 - level) turn (leaf.i % side_of level) (leaf.j % side_of level) turn_low;
      position = position_is leaf
          ∙ ap (λ p. leaf.face * 2 ^ 60 + p) split.places
          ∙ ap (λ n. leaf.face * n + (above * leaf_count level + place_within level leaf)) (sym
          (powers level below))
          ∙ joined leaf.face above (place_within level leaf) (4 ^ level) (leaf_count level);
    }

-- the number of a square among the squares of its level on all faces
abbrev pub square_number : GridSquare → ℕ
square_number square = square.face * 4 ^ square.level + square_place square

pub first_is : (square : GridSquare) → square.level ≤ 30
    → first_position square ≡ square_number square * leaf_count square.level
unfolding first_position
first_is square below =
    ap (λ n. square.face * n + square_place square * leaf_count square.level) (sym
    (powers square.level below))
    ∙ regrouped square.face (square_place square) (4 ^ square.level) (leaf_count square.level)
  where
    regrouped : (face p levels count : ℕ) → face * (levels * count) + p * count ≡ (face * levels + p) * count
    regrouped face p levels count = omega arith

-- the number of the square of a level round a leaf
abbrev pub number_round : ℕ → GridLeaf → ℕ
number_round level leaf =
    leaf.face * 4 ^ level + place level (leaf.face % 2) (leaf.i / side_of level) (leaf.j / side_of level)

number_within : (leaf : GridLeaf) (square : GridSquare) → LiesInSquare leaf square
    → number_round square.level leaf ≡ square_number square
number_within leaf square within = rw (within.on_face, within.i_within, within.j_within) refl

pub coordinate_below : (i level : ℕ) → level ≤ 30 → i < 2 ^ 30 → i / side_of level < 2 ^ level
coordinate_below i level at_most below =
    let sum : 30 ≡ level + (30 - level) = omega arith in
    shr_below i level (30 - level) (subst (λ n. i < 2 ^ n) sum below)

within_number : (leaf : GridLeaf) (square : GridSquare) → IsLeaf leaf → IsSquare square
    → number_round square.level leaf ≡ square_number square → LiesInSquare leaf square
within_number leaf square leaf_is square_is same =
    let i = leaf.i / side_of square.level in
    let j = leaf.j / side_of square.level in
    let parts = same_from_place leaf.face (place square.level (leaf.face % 2) i j) square.face
    (square_place square)
    (4 ^ square.level) (place_below square.level (leaf.face % 2) i j (omega arith))
    (place_below square.level (square.face % 2) square.a square.b (omega arith)) same in
    let places : place square.level (leaf.face % 2) i j ≡ place square.level
    (leaf.face % 2) square.a square.b =
    parts.1 ∙ ap (λ f. place square.level (f % 2) square.a square.b) (sym parts.0) in
    let point = same_point square.level (leaf.face % 2) i j square.a square.b (omega arith) places in
    record {
      on_face = parts.0;
      i_within = sym (mod-eq_of_lt (coordinate_below leaf.i square.level square_is.level_at_most
          leaf_is.i_below))
          ∙ point.0 ∙ mod-eq_of_lt square_is.a_below;
      j_within = sym (mod-eq_of_lt (coordinate_below leaf.j square.level square_is.level_at_most
          leaf_is.j_below))
          ∙ point.1 ∙ mod-eq_of_lt square_is.b_below;
    }

-- a leaf lies in a square exactly where its position is one of the square's
pub square_leaves : (leaf : GridLeaf) (square : GridSquare) → IsLeaf leaf → IsSquare square
    → LiesInSquare leaf square ↔ IsInRange (first_position square) (last_position square) (position_of leaf)
square_leaves leaf square leaf_is square_is =
    let count = leaf_count square.level in
    let first = first_is square square_is.level_at_most in
    let round = in_square square.level leaf square_is.level_at_most in (
      λ within. let position : position_of leaf
          ≡ square_number square * count + place_within square.level leaf =
          round.position ∙ ap (λ n. n * count + place_within square.level leaf)
          (number_within leaf square within) in
          (omega (arith, first, position), omega (arith, first, position, round.low_below)),
      λ range. let low = position_of leaf - first_position square in
          let low_below : low < count = omega (arith, range, four_pow_pos (30 - square.level)) in
          let sums : number_round square.level leaf * count + place_within square.level leaf
          ≡ square_number square * count + low = omega (arith, round.position, first, range) in
          let parts = same_from_place (number_round square.level leaf) (place_within square.level leaf)
          (square_number square) low count round.low_below low_below sums in
          within_number leaf square leaf_is square_is parts.0,
    )

-- the leaf of a point on its face
pub position_at : (position i j : ℕ) → place 30 (position / 2 ^ 60 % 2) i j ≡ position % 2 ^ 60
    → position_of (grid_leaf (position / 2 ^ 60) i j) ≡ position
unfolding position_of
position_at position i j undone = rw undone (div-add-mod' position (2 ^ 60))

-- what is known of the leaf that a walk found at a position
pub record IsLeafFound (position : ℕ) (leaf : GridLeaf) : Type 0 where
  pub is : IsLeaf leaf
  pub undone : position_of leaf ≡ position
  pub value : leaf ≡ grid_leaf_at position
  pub only : (other : GridLeaf) → IsLeaf other → position_of other ≡ position → other ≡ leaf

pub found_at : (position i j : ℕ) → position < 6 * 2 ^ 60 → i < 2 ^ 30 → j < 2 ^ 30
    → place 30 (position / 2 ^ 60 % 2) i j ≡ position % 2 ^ 60 → IsLeafFound position (grid_leaf
    (position / 2 ^ 60) i j)
found_at position i j below i_below j_below place_is =
    let leaf = grid_leaf (position / 2 ^ 60) i j in
    let is : IsLeaf leaf = record { face_below = omega arith; i_below = i_below; j_below = j_below } in
    let undone = position_at position i j place_is in
    record {
      is = is;
      undone = undone;
      value = same_leaf leaf (grid_leaf_at position) is (leaf_is position below) (undone ∙ sym
          (position_undone position));
      only = λ other other_is at. same_leaf other leaf other_is is (at ∙ sym undone);
    }
