use Rattle.s2_cover.proofs.Laid.{canonical_same}
use Rattle.s2_cover.proofs.laws.equal_sets_have_equal_covers.Goals as goal

pub returns : goal.returns
returns c = canonical_same
