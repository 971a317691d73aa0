-- Laws of squares: their positions are one run, and they have one quotient by the number of leaves.
use Rattle.std.proofs.Common.{◌≡◌, ℕ, ◌+◌, ◌-◌, ◌*◌, ◌/◌, ◌%◌, ◌^◌, ◌<◌, ◌≤◌, refl, sym, ◌∙◌, ap, subst, arith}
use Rattle.std.specs.Prelude.{◌↔◌}
use Rattle.std.specs.Int.{IsInRange}
use Rattle.std.proofs.lemmas.Nat.{pow-add, mul-le, div-mul-add, div-add-mod', mod_below}
use Rattle.s2_hilbert.specs.Grid.{GridLeaf, IsLeaf, side_of, GridSquare, IsSquare, LiesInSquare, ShareSquare, grid_square}
use Rattle.s2_hilbert.specs.Curve.{position_of, leaf_count, first_position, last_position}
use Rattle.s2_hilbert.proofs.lemmas.Place.{place_below, four_pow_pos}
use Rattle.s2_hilbert.proofs.lemmas.Curve.{powers, square_place, square_leaves, square_number, first_is, coordinate_below}

pub first_position_is : (square : GridSquare)
    → first_position square ≡ square.face * 2 ^ 60 + square_place square * leaf_count square.level
unfolding first_position
first_position_is square = refl

-- the positions of a square lie within its face
pub record HasPositions (square : GridSquare) : Type 0 where
  pub count_positive : 0 < leaf_count square.level
  pub place_room : square_place square * leaf_count square.level + leaf_count square.level ≤ 2 ^ 60
  pub last_below : last_position square < 6 * 2 ^ 60

pub has_positions : (square : GridSquare) → IsSquare square → HasPositions square
has_positions square is =
    let below = place_below square.level (square.face % 2) square.a square.b (omega arith) in
    let products : (square_place square + 1) * leaf_count square.level ≤ 4 ^ square.level * leaf_count
    square.level =
    mul-le (square_place square + 1) (leaf_count square.level) (4 ^ square.level) (leaf_count square.level)
    (omega (arith, below)) (omega arith) in
    let room : square_place square * leaf_count square.level + leaf_count square.level ≤ 2 ^ 60 =
    omega (arith, products, powers square.level is.level_at_most) in
    let positive = four_pow_pos (30 - square.level) in
    record {
      count_positive = positive;
      place_room = room;
      last_below = omega (arith, first_position_is square, room, positive, is.face_below);
    }

pub quarter_count : (level : ℕ) → level < 30 → leaf_count level ≡ 4 * leaf_count (level + 1)
quarter_count level below =
    let sum : 30 - level ≡ 30 - (level + 1) + 1 = omega arith in
    ap (λ n. 4 ^ n) sum ∙ pow-add 4 (30 - (level + 1)) 1 ∙ omega arith

-- the numbers of a quotient
pub quotient_range : (n count k : ℕ) → 0 < count → (n / count ≡ k) ↔ IsInRange (k * count) (k * count +
    (count - 1)) n
quotient_range n count k positive = (
  λ is. let split : k * count + n % count ≡ n = subst (λ q. q * count + n % count ≡ n) is
      (div-add-mod' n count) in
      let low : n % count < count = mod_below n count positive in
      (omega (arith, split), omega (arith, split, low)),
  λ range. let low = n - k * count in
      let sum : n ≡ k * count + low = omega (arith, range) in
      let low_below : low < count = omega (arith, range) in
      ap (λ m. m / count) sum ∙ div-mul-add k count low low_below,
)

-- the leaves of a square are those that share it with any of them
pub share_square : (one other : GridLeaf) (square : GridSquare) → LiesInSquare one square
    → LiesInSquare other square ↔ ShareSquare square.level one other
share_square one other square within = (
  λ both. record {
    same_face = within.on_face ∙ sym both.on_face;
    same_i = within.i_within ∙ sym both.i_within;
    same_j = within.j_within ∙ sym both.j_within;
  },
  λ share. record {
    on_face = sym share.same_face ∙ within.on_face;
    i_within = sym share.same_i ∙ within.i_within;
    j_within = sym share.same_j ∙ within.j_within;
  },
)

-- the square of a level round a leaf
abbrev pub square_round : ℕ → GridLeaf → GridSquare
square_round level leaf = grid_square leaf.face level (leaf.i / side_of level) (leaf.j / side_of level)

square_round_is : (level : ℕ) (leaf : GridLeaf) → level ≤ 30 → IsLeaf leaf → IsSquare
    (square_round level leaf)
square_round_is level leaf at_most is = record {
  face_below = is.face_below;
  level_at_most = at_most;
  a_below = coordinate_below leaf.i level at_most is.i_below;
  b_below = coordinate_below leaf.j level at_most is.j_below;
}

-- a leaf lies in a square exactly where its position, divided by the number of leaves, is the square's number
pub square_quotient : (leaf : GridLeaf) (square : GridSquare) → IsLeaf leaf → IsSquare square
    → LiesInSquare leaf square ↔ (position_of leaf / leaf_count square.level ≡ square_number square)
square_quotient leaf square is square_is =
    let positive = four_pow_pos (30 - square.level) in
    let first = first_is square square_is.level_at_most in
    let range = square_leaves leaf square is square_is in
    let quotient = quotient_range (position_of leaf) (leaf_count square.level)
    (square_number square) positive in (
      λ within. let ends = range.0 within in quotient.1 (
        omega (arith, ends, first),
        omega
            (arith, ends, first),
      ),
      λ same. let ends = quotient.0 same in range.1 (omega (arith, ends, first), omega (arith, ends, first)),
    )

-- two leaves lie in one square of a level exactly where their positions have one quotient
pub same_square : (level : ℕ) (one other : GridLeaf) → level ≤ 30 → IsLeaf one → IsLeaf other
    → ShareSquare level one other ↔ (position_of one / leaf_count level
    ≡ position_of other / leaf_count level)
same_square level one other at_most one_is other_is =
    let square = square_round level one in
    let square_is = square_round_is level one at_most one_is in
    let within : LiesInSquare one square = record { on_face = refl; i_within = refl; j_within = refl } in
    let shares = share_square one other square within in
    let here = (square_quotient one square one_is square_is).0 within in
    let there = square_quotient other square other_is square_is in (
      λ share. here ∙ sym (there.0 (shares.1 share)),
      λ same. shares.0 (there.1 (sym same ∙ here)),
    )
