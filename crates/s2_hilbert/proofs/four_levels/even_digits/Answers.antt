use Rattle.s2_hilbert.proofs.Digits.{even_digits_at}
use Rattle.s2_hilbert.proofs.four_levels.even_digits.Goals as goal

pub returns : goal.returns
returns c = even_digits_at c.args.i c.args.j
