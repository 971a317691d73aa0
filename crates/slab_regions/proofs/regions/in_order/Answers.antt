use Rattle.slab_regions.proofs.RegionLemmas.{same_slabs}
use Rattle.slab_regions.proofs.regions.in_order.Goals as goal

pub returns : goal.returns
returns c =
    same_slabs c.args.extents.items c.sort_unstable_by_key.new.self.items
    c.sort_unstable_by_key.ensures.permutation
