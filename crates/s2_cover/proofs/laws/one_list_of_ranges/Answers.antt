use Rattle.s2_cover.proofs.Uniqueness.{same_ranges}
use Rattle.s2_cover.proofs.laws.one_list_of_ranges.Goals as goal

pub returns : goal.returns
returns c = same_ranges
