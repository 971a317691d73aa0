use Rattle.std.proofs.Common.{◌&&◌, take}
use Rattle.volume4d.specs.Slab.{slab_has, slabs_have}
use Rattle.volume4d.specs.Sweep.{IsFirstPoint}
use Rattle.volume4d.proofs.sweep.first_shared_with.Given as goal

-- the first point that the slabs so far share with the other
abbrev pub invariant-loop-slab : goal.invariant-loop-slab
invariant-loop-slab l = IsFirstPoint (λ x. slabs_have (take l.slab-index l.mine) x && slab_has l.other x)
    l.first
