use Rattle.std.proofs.Common.{◌≡◌, take}
use Rattle.volume4d.specs.Volume.{Point}
use Rattle.volume4d.specs.Slab.{slabs_have, top_held, greater, level_where}
use Rattle.desk_store.proofs.plan.push_all.Given as goal

-- the levels before, and the priority where a slab so far has the point
abbrev pub invariant-loop-slab : goal.invariant-loop-slab
invariant-loop-slab l = (x : Point) → top_held l.helds.items x
    ≡ greater (top_held l.fn.helds.items x) (level_where (slabs_have (take l.slab-index l.slabs) x)
    l.priority)
