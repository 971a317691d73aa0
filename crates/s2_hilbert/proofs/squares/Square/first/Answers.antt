use Rattle.std.proofs.Common.{sym, arith}
use Rattle.s2_hilbert.specs.Grid.{grid_square}
use Rattle.s2_hilbert.proofs.lemmas.Curve.{square_leaves}
use Rattle.s2_hilbert.proofs.lemmas.Square.{first_position_is, has_positions}
use Rattle.s2_hilbert.proofs.squares.Square.first.Goals as goal

pub overflow_mul-result-2 : goal.overflow_mul-result-2
overflow_mul-result-2 c =
    let inside = c.self.inside in
    let facts = has_positions (grid_square inside.face inside.level inside.a inside.b) c.self.invariant.0 in
    rw (c.place_of_square-place.ensures.value, c.leaf_count.ensures) (omega (arith, facts.place_room))

pub overflow_add-result : goal.overflow_add-result
overflow_add-result c =
    let inside = c.self.inside in
    let facts = has_positions (grid_square inside.face inside.level inside.a inside.b) c.self.invariant.0 in
    rw (c.place_of_square-place.ensures.value, c.leaf_count.ensures, c.from.ensures)
    (omega (arith, facts.place_room, c.self.invariant.0.face_below))

pub returns-clause-value : goal.returns-clause-value
returns-clause-value c =
    let inside = c.self.inside in
    rw (← c.self.view_is, c.from.ensures, c.place_of_square-place.ensures.value, c.leaf_count.ensures)
    (sym (first_position_is (grid_square inside.face inside.level inside.a inside.b)))

pub returns-clause-leaves : goal.returns-clause-leaves
returns-clause-leaves c =
    let inside = c.self.inside in
    let square = grid_square inside.face inside.level inside.a inside.b in
    rw (
      ← c.self.view_is,
      c.from.ensures,
      c.place_of_square-place.ensures.value,
      c.leaf_count.ensures,
      ←
          first_position_is square,
    )
    (λ leaf is. square_leaves leaf square is c.self.invariant.0)

pub returns-clause-below : goal.returns-clause-below
returns-clause-below c =
    let inside = c.self.inside in
    let square = grid_square inside.face inside.level inside.a inside.b in
    rw (
      c.from.ensures,
      c.place_of_square-place.ensures.value,
      c.leaf_count.ensures,
      ← first_position_is
          square,
    )
    (omega (arith, (has_positions square c.self.invariant.0).last_below))
