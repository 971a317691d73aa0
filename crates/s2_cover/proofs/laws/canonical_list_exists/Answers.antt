use Rattle.s2_cover.proofs.Existence.{has_canonical}
use Rattle.s2_cover.proofs.laws.canonical_list_exists.Goals as goal

pub returns : goal.returns
returns c = has_canonical
