use Rattle.std.proofs.Common.{◌+◌, ◌*◌, refl, ap, ◌∙◌}
use Rattle.s2_hilbert.specs.Grid.{grid_square}
use Rattle.s2_hilbert.specs.Curve.{quadrant_at, turned}
use Rattle.s2_hilbert.proofs.SquareFacts.{ChildFacts, turn_of_below, child_facts, child_leaves}
use Rattle.s2_hilbert.proofs.squares.Square.child.Goals as goal

pub quadrant_at-quadrant-requires-clause-turn : goal.quadrant_at-quadrant-requires-clause-turn
quadrant_at-quadrant-requires-clause-turn c =
    let inside = c.self.inside in
    rw c.self.invariant.1 (turn_of_below (grid_square inside.face inside.level inside.a inside.b))

pub turned-requires-clause-turn : goal.turned-requires-clause-turn
turned-requires-clause-turn c =
    let inside = c.self.inside in
    rw c.self.invariant.1 (turn_of_below (grid_square inside.face inside.level inside.a inside.b))

-- what the code made is the child
facts_of : (c : goal.After-turned) → ChildFacts
    (grid_square c.self.inside.face c.self.inside.level c.self.inside.a c.self.inside.b)
    (grid_square c.self.inside.face (c.self.inside.level + 1)
    (2 * c.self.inside.a + c.from.result) (2 * c.self.inside.b + c.from-2.result)) c.args.k
facts_of c =
    let inside = c.self.inside in
    rw (c.from.ensures, c.from-2.ensures)
    (child_facts inside.face inside.level inside.a inside.b c.args.k c.quadrant_at-quadrant.result
    (rw (← c.self.view_is) at c.requires.level) c.self.invariant.0 c.requires.k
    (c.quadrant_at-quadrant.ensures.value ∙ ap (λ t. quadrant_at t c.args.k) c.self.invariant.1))

pub invariant_of-result : goal.invariant_of-result
invariant_of-result c =
    let facts = facts_of c in (
      facts.square,
      c.turned.ensures.value ∙ ap (λ t. turned t c.args.k) c.self.invariant.1 ∙ facts.turn_is,
    )

pub returns-clause-first : goal.returns-clause-first
returns-clause-first c = rw (← c.self.view_is) (facts_of c).first_is

pub returns-clause-leaves : goal.returns-clause-leaves
returns-clause-leaves c =
    let inside = c.self.inside in
    let facts = facts_of c in
    rw (← c.self.view_is)
    (λ leaf is. child_leaves (grid_square inside.face inside.level inside.a inside.b)
    (grid_square inside.face (inside.level + 1) (2 * inside.a + c.from.result)
    (2 * inside.b + c.from-2.result))
    c.args.k leaf c.self.invariant.0 facts.square is c.requires.k (rw
    (← c.self.view_is) at c.requires.level) refl facts.first_is)
