use Rattle.s2_hilbert.proofs.Digits.{paired_at}
use Rattle.s2_hilbert.proofs.four_levels.paired_digits.Goals as goal

pub returns : goal.returns
returns c = λ digit below.
    paired_at c.args.i c.args.j c.even_digits.result c.even_digits-2.result digit
    c.even_digits.ensures c.even_digits-2.ensures below
