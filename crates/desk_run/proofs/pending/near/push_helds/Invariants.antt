use Rattle.std.proofs.Common.{◌≡◌, true, take}
use Rattle.volume4d.specs.Volume.{Point}
use Rattle.volume4d.specs.Slab.{slabs_have, top_held, greater}
use Rattle.volume4d.specs.Sweep.{Ascend}
use Rattle.desk_rules.specs.Conflict.{at_least}
use Rattle.desk_run.specs.HeldAmong.{AreLeft}
use Rattle.desk_run.proofs.pending.near.push_helds.Given as goal

-- what is left of the slabs, and the levels before with those of the held slabs so far
abbrev pub invariant-loop-held : goal.invariant-loop-held
invariant-loop-held l =
    record {
      order : Ascend (λ s. s) l.left;
      left : AreLeft l.position l.mine l.left;
      levels :
          (x : Point) → slabs_have l.mine x ≡ true → top_held l.theirs.items x
          ≡ greater (top_held l.fn.theirs.items x) (at_least l.least
          (top_held (take l.held-index l.helds) x));
    }
