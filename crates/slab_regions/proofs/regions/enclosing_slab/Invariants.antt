use Rattle.std.proofs.Common.{◌∷◌, take}
use Rattle.volume4d.specs.Slab.{HasAll, slabs_have}
use Rattle.slab_regions.proofs.regions.enclosing_slab.Given as goal

abbrev pub invariant-loop-extent : goal.invariant-loop-extent
invariant-loop-extent l = HasAll (slabs_have (l.first ∷ take l.extent-index l.others)) l.whole
