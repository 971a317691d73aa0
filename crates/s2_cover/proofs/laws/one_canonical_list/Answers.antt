use Rattle.s2_cover.proofs.Uniqueness.{same_canonical}
use Rattle.s2_cover.proofs.laws.one_canonical_list.Goals as goal

pub returns : goal.returns
returns c = same_canonical
