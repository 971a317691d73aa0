use Rattle.std.proofs.Common.{◌≡◌, true, take}
use Rattle.volume4d.specs.Volume.{Point}
use Rattle.volume4d.specs.Slab.{slabs_have, top_held, greater, level_where}
use Rattle.volume4d.specs.Sweep.{Ascend}
use Rattle.desk_run.specs.HeldAmong.{AreLeft}
use Rattle.desk_run.proofs.pending.near.push_slabs.Given as goal

-- what is left of the slabs, and the levels before with the priority where a slab so far has the point
abbrev pub invariant-loop-slab : goal.invariant-loop-slab
invariant-loop-slab l =
    record {
      order : Ascend (λ s. s) l.left;
      left : AreLeft l.position l.mine l.left;
      levels :
          (x : Point) → slabs_have l.mine x ≡ true → top_held l.theirs.items x
          ≡ greater (top_held l.fn.theirs.items x) (level_where (slabs_have (take l.slab-index l.slabs) x)
          l.priority);
    }
