-- The first and last position of a square and of its children, and its spans.
use Rattle.std.proofs.Common.{◌≡◌, ℕ, ◌+◌, ◌-◌, ◌*◌, ◌/◌, ◌%◌, ◌^◌, ◌<◌, ◌≤◌, refl, sym, ◌∙◌, ap, arith}
use Rattle.std.specs.Prelude.{◌↔◌}
use Rattle.std.proofs.lemmas.Nat.{pow_pos, pow-add, mul-le, div-mul-add}
use Rattle.std.proofs.Math.Nat.{mul-div_cancel}
use Rattle.s2_hilbert.specs.Grid.{GridLeaf, IsLeaf, side_of, GridSquare, IsSquare, LiesInSquare, grid_square}
use Rattle.s2_hilbert.specs.Curve.{quadrant_at, turned, place, turn_at, position_of, leaf_count, turn_of, first_position}
use Rattle.s2_hilbert.proofs.lemmas.Quadrant.{is_place}
use Rattle.s2_hilbert.proofs.lemmas.Place.{turn_below, four_pow_pos, place_below, split_at}
use Rattle.s2_hilbert.proofs.lemmas.Curve.{square_leaves}
use Rattle.s2_hilbert.proofs.lemmas.Square.{quarter_count, quotient_range}
use Rattle.s2_hilbert.proofs.Steps.{has_last, last_quadrant}

pub turn_of_below : (square : GridSquare) → turn_of square < 4
unfolding turn_of
turn_of_below square = turn_below square.level (square.face % 2) square.a square.b (omega arith)

pub face_turn : (face : ℕ) → face % 2 ≡ turn_of (grid_square face 0 0 0)
unfolding turn_of turn_at
face_turn face = refl

pub record ChildFacts (parent child : GridSquare) (k : ℕ) : Type 0 where
  pub quadrant_below : quadrant_at (turn_of parent) k < 4
  pub square : IsSquare child
  pub turn_is : turned (turn_of parent) k ≡ turn_of child
  pub first_is : first_position child ≡ first_position parent + k * leaf_count child.level

quarters : (first place k count : ℕ) → first + (4 * place + k) * count ≡ first + place *
    (4 * count) + k * count
quarters first place k count = omega arith

pub child_facts : (face level a b k quadrant : ℕ) → level < 30 → IsSquare (grid_square face level a b)
    → k < 4 → quadrant ≡ quadrant_at (turn_of (grid_square face level a b)) k
    → ChildFacts (grid_square face level a b) (grid_square face (level + 1) (2 * a + quadrant / 2)
    (2 * b + quadrant % 2)) k
unfolding turn_of first_position
child_facts face level a b k quadrant below is k_below quadrant_is =
    let turn = turn_at level (face % 2) a b in
    let turn_low : turn < 4 = turn_below level (face % 2) a b (omega arith) in
    let facts = is_place turn k turn_low k_below in
    let quadrant_low : quadrant < 4 = rw quadrant_is facts.quadrant_below in
    let a' = 2 * a + quadrant / 2 in
    let b' = 2 * b + quadrant % 2 in
    let a_half : a' / 2 ≡ a = omega arith in
    let b_half : b' / 2 ≡ b = omega arith in
    let last : last_quadrant a' b' ≡ quadrant = omega arith in
    let whole = has_last level (face % 2) a' b' in
    let places = rw (a_half, b_half, last, quadrant_is, facts.undone) at whole.places in
    let turns = rw (a_half, b_half, last, quadrant_is, facts.undone) at whole.turns in
    let power : 2 ^ (level + 1) ≡ 2 * 2 ^ level = pow-add 2 level 1 ∙ omega arith in
    record {
      quadrant_below = facts.quadrant_below;
      square = record {
        face_below = is.face_below;
        level_at_most = omega arith;
        a_below = rw power (omega (arith, is.a_below));
        b_below = rw power (omega (arith, is.b_below));
      };
      turn_is = rw quadrant_is (sym turns);
      first_is = rw (quadrant_is, places, quarter_count level below)
          (quarters (face * 2 ^ 60) (place level (face % 2) a b) k (leaf_count (level + 1)));
    }

-- the positions of the child at place k are the k-th quarter of its parent's
pub child_leaves : (parent child : GridSquare) (k : ℕ) (leaf : GridLeaf) → IsSquare parent
    → IsSquare child
    → IsLeaf leaf → k < 4 → parent.level < 30 → child.level ≡ parent.level + 1
    → first_position child ≡ first_position parent + k * leaf_count child.level
    → LiesInSquare leaf child ↔ (LiesInSquare leaf parent
    × ((position_of leaf - first_position parent) / leaf_count child.level ≡ k))
child_leaves parent child k leaf parent_is child_is leaf_is k_below inside level_is first_is =
    let count = leaf_count child.level in
    let positive : 0 < count = four_pow_pos (30 - child.level) in
    let counts : leaf_count parent.level ≡ 4 * count = quarter_count parent.level inside ∙ ap
    (λ l. 4 * leaf_count l) (sym level_is) in
    let product : (k + 1) * count ≤ 4 * count =
    mul-le (k + 1) count 4 count (omega arith) (omega arith) in
    let in_child = square_leaves leaf child leaf_is child_is in
    let in_parent = square_leaves leaf parent leaf_is parent_is in
    let quarter = quotient_range (position_of leaf - first_position parent) count k positive in (
      λ within. let range = in_child.0 within in (
        in_parent.1 (
          omega (arith, range, first_is),
          omega
              (arith, range, first_is, counts, product, positive),
        ),
        quarter.1 (omega (arith, range, first_is), omega (arith, range, first_is)),
      ),
      λ both. let range = in_parent.0 both.0 in
          let part = quarter.0 both.1 in
          in_child.1 (omega (arith, range, part, first_is), omega (arith, range, part, first_is)),
    )

-- the leaves along a side of a square lie within the face
pub side_room : (level coordinate : ℕ) → level ≤ 30 → coordinate < 2 ^ level
    → coordinate * side_of level + side_of level ≤ 2 ^ 30
side_room level coordinate at_most below =
    let sum : 30 ≡ level + (30 - level) = omega arith in
    let whole : 2 ^ 30 ≡ 2 ^ level * side_of level = ap (λ n. 2 ^ n) sum
    ∙ pow-add 2 level (30 - level) in
    let product : (coordinate + 1) * side_of level ≤ 2 ^ level * side_of level =
    mul-le (coordinate + 1) (side_of level) (2 ^ level) (side_of level) (omega arith) (omega arith) in
    omega (arith, product, whole)

pub side_positive : (level : ℕ) → 0 < side_of level
side_positive level = pow_pos (30 - level)

pub face_square : (face : ℕ) → face < 6 → IsSquare (grid_square face 0 0 0)
face_square face below = record {
  face_below = below;
  level_at_most = omega arith;
  a_below = omega arith;
  b_below = omega arith;
}

-- the place of a square, from that of the leaf at its first coordinates
pub square_place_is : (level turn a b : ℕ) → level ≤ 30 → turn < 4
    → place 30 turn (a * side_of level) (b * side_of level) / leaf_count level ≡ place level turn a b
square_place_is level turn a b below turn_low =
    let sum : 30 ≡ level + (30 - level) = omega (arith, below) in
    let split = split_at level (30 - level) 30 turn (a * side_of level) (b * side_of level) sum in
    let some : 0 < side_of level = pow_pos (30 - level) in
    let i : a * side_of level / side_of level ≡ a = mul-div_cancel a some in
    let j : b * side_of level / side_of level ≡ b = mul-div_cancel b some in
    let inner = turn_at level turn (a * side_of level / side_of level)
    (b * side_of level / side_of level) in
    let inner_low : inner < 4 =
    turn_below level turn (a * side_of level / side_of level) (b * side_of level / side_of level)
    turn_low in
    let low = place (30 - level) inner (a * side_of level % side_of level)
    (b * side_of level % side_of level)
    in
    let low_below : low < leaf_count level =
    place_below (30 - level) inner (a * side_of level % side_of level)
    (b * side_of level % side_of level)
    inner_low in
    ap (λ p. p / leaf_count level) split.places
    ∙ div-mul-add (place level turn (a * side_of level / side_of level)
    (b * side_of level / side_of level))
    (leaf_count level) low low_below
    ∙ ap (λ x. place level turn x (b * side_of level / side_of level)) i
    ∙ ap (λ y. place level turn a y) j
