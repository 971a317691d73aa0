use Rattle.s2_hilbert.proofs.lemmas.Square.{same_square}
use Rattle.s2_hilbert.proofs.laws.squares_are_quotients.Goals as goal

pub returns : goal.returns
returns c = same_square
