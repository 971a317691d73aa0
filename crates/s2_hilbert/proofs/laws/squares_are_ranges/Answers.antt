use Rattle.s2_hilbert.proofs.lemmas.Curve.{square_leaves}
use Rattle.s2_hilbert.proofs.lemmas.Square.{share_square}
use Rattle.s2_hilbert.proofs.laws.squares_are_ranges.Goals as goal

pub returns-clause-range : goal.returns-clause-range
returns-clause-range c = square_leaves

pub returns-clause-share : goal.returns-clause-share
returns-clause-share c = share_square
