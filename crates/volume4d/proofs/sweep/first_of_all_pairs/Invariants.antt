use Rattle.std.proofs.Common.{◌&&◌, take}
use Rattle.volume4d.specs.Slab.{slabs_have}
use Rattle.volume4d.specs.Sweep.{IsFirstPoint, items_have}
use Rattle.volume4d.proofs.sweep.first_of_all_pairs.Given as goal

-- the first point shared with those so far
abbrev pub invariant-loop-item : goal.invariant-loop-item
invariant-loop-item g l = IsFirstPoint
    (λ x. slabs_have l.mine x && items_have g.T.HasSlab.slab_of (take l.item-index l.theirs) x) l.first
