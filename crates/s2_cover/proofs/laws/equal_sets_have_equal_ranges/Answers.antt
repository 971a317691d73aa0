use Rattle.s2_cover.proofs.Merging.{ranges_same}
use Rattle.s2_cover.proofs.laws.equal_sets_have_equal_ranges.Goals as goal

pub returns : goal.returns
returns c = ranges_same
