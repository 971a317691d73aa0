use Rattle.s2_cover.proofs.Counting.{counted}
use Rattle.s2_cover.proofs.laws.ranges_are_counted.Goals as goal

pub returns : goal.returns
returns c = counted
