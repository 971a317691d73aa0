use Rattle.std.proofs.Common.{length}
use Rattle.volume4d.specs.Sweep.{Ascend, KeepsFrom}
use Rattle.volume4d.proofs.sweep.without_skipped.Given as goal

abbrev pub invariant-loop-slab : goal.invariant-loop-slab
invariant-loop-slab l =
    record { order : Ascend (λ s. s) l.left; left : KeepsFrom l.window l.position l.slabs l.left }

abbrev pub decreases-loop-slab : goal.decreases-loop-slab
decreases-loop-slab l = length l.left
