use Rattle.slab_regions.proofs.RegionLemmas.{one_has}
use Rattle.slab_regions.proofs.sought.SearchArea.one.Goals as goal

pub returns : goal.returns
returns c = λ x here. one_has c.args.extent.now _ x c.from_ref.ensures.value here
