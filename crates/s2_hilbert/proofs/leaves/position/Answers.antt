use Rattle.std.proofs.Common.{sym}
use Rattle.s2_hilbert.specs.Grid.{grid_leaf}
use Rattle.s2_hilbert.proofs.lemmas.Curve.{position_is}
use Rattle.s2_hilbert.proofs.leaves.position.Goals as goal

pub returns-clause-value : goal.returns-clause-value
returns-clause-value c =
    let inside = c.leaf.inside in
    rw (← c.leaf.view_is, c.from.ensures, c.place_on_face-along.ensures.value)
    (sym (position_is (grid_leaf inside.face inside.i inside.j)))
