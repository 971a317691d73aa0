use Rattle.std.proofs.Common.{◌≡◌, cond, None, take}
use Rattle.volume4d.specs.Volume.{Point}
use Rattle.volume4d.specs.Slab.{slab_has, top_held, greater}
use Rattle.slab_regions.proofs.regions.push_clipped.Given as goal

abbrev pub invariant-loop-held : goal.invariant-loop-held
invariant-loop-held l = (x : Point) → top_held l.helds.items x
    ≡ greater (top_held l.fn.helds.items x)
    (cond (slab_has l.region x) (top_held (take l.held-index l.more) x) None)
