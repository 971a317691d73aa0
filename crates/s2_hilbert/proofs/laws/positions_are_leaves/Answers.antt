use Rattle.s2_hilbert.proofs.lemmas.Curve.{leaf_is, position_undone, position_below, leaf_undone}
use Rattle.s2_hilbert.proofs.laws.positions_are_leaves.Goals as goal

pub returns-clause-leaf : goal.returns-clause-leaf
returns-clause-leaf c = leaf_is

pub returns-clause-position : goal.returns-clause-position
returns-clause-position c = λ position below. position_undone position

pub returns-clause-below : goal.returns-clause-below
returns-clause-below c = position_below

pub returns-clause-inverse : goal.returns-clause-inverse
returns-clause-inverse c = leaf_undone
