use Rattle.s2_cover.proofs.Listing.{list_is}
use Rattle.s2_cover.proofs.laws.canonical_list_is.Goals as goal

pub returns : goal.returns
returns c = list_is
