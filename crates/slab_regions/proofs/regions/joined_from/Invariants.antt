use Rattle.std.proofs.Common.{take}
use Rattle.slab_regions.proofs.RegionLemmas.{AreGathered}
use Rattle.slab_regions.proofs.regions.joined_from.Given as goal

abbrev pub invariant-loop-extent : goal.invariant-loop-extent
invariant-loop-extent l = AreGathered l.first (take l.extent-index l.others) l.regions.items l.region
