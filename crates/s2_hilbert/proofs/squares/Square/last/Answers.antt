use Rattle.std.proofs.Common.{arith}
use Rattle.s2_hilbert.specs.Grid.{grid_square}
use Rattle.s2_hilbert.proofs.lemmas.Square.{has_positions}
use Rattle.s2_hilbert.proofs.squares.Square.last.Goals as goal

pub overflow_sub-result : goal.overflow_sub-result
overflow_sub-result c =
    let inside = c.self.inside in
    let facts = has_positions (grid_square inside.face inside.level inside.a inside.b) c.self.invariant.0 in
    rw c.leaf_count.ensures (omega (arith, facts.count_positive))

pub overflow_add-result : goal.overflow_add-result
overflow_add-result c =
    let inside = c.self.inside in
    let facts = has_positions (grid_square inside.face inside.level inside.a inside.b) c.self.invariant.0 in
    rw (c.first.ensures.value, ← c.self.view_is, c.leaf_count.ensures) (omega (arith, facts.last_below))

pub returns-clause-below : goal.returns-clause-below
returns-clause-below c =
    let inside = c.self.inside in
    let facts = has_positions (grid_square inside.face inside.level inside.a inside.b) c.self.invariant.0 in
    rw (c.first.ensures.value, ← c.self.view_is, c.leaf_count.ensures) facts.last_below
