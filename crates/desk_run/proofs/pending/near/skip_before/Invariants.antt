use Rattle.std.proofs.Common.{length}
use Rattle.volume4d.specs.Sweep.{Ascend}
use Rattle.desk_run.specs.HeldAmong.{AreLeft}
use Rattle.desk_run.proofs.pending.near.skip_before.Given as goal

abbrev pub invariant-loop-first : goal.invariant-loop-first
invariant-loop-first l = record { order : Ascend (λ s. s) l.left; left : AreLeft l.position l.slabs l.left }

abbrev pub decreases-loop-first : goal.decreases-loop-first
decreases-loop-first l = length l.left
