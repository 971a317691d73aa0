use Rattle.s2_cover.proofs.Counting.{few}
use Rattle.s2_cover.proofs.laws.ranges_are_few.Goals as goal

pub returns : goal.returns
returns c = few
