use Rattle.std.proofs.Common.{◌≡◌, ◌||◌, true, length, All}
use Rattle.volume4d.specs.Slab.{IsFilled, slabs_have}
use Rattle.volume4d.specs.Volume.{Point}
use Rattle.volume4d.specs.Sweep.{Ascend}
use Rattle.desk_run.specs.HeldAmong.{Keep}
use Rattle.desk_run.proofs.pending.own.push_clusters.Given as goal

-- each point of the slabs is in an extent or in the rest
abbrev pub invariant-loop-rest : goal.invariant-loop-rest
invariant-loop-rest l =
    record {
      kept : Keep l.fn.extents.items l.extents.items;
      covered :
          (x : Point) → slabs_have l.slabs x ≡ true
          → (slabs_have l.extents.items x || slabs_have l.rest x) ≡ true;
      filled : All IsFilled l.rest;
      order : Ascend (λ s. s) l.rest;
    }

abbrev pub decreases-loop-rest : goal.decreases-loop-rest
decreases-loop-rest l = length l.rest
