use Rattle.volume4d.specs.Sweep.{lanes_have}
use Rattle.volume4d.proofs.LaneLemmas.{IsSweeping}
use Rattle.volume4d.proofs.sweep.first_along.Given as goal

-- the first point so far, and what is left in the lanes
abbrev pub invariant-loop-item : goal.invariant-loop-item
invariant-loop-item g l =
    IsSweeping g.T.HasSlab.slab_of (lanes_have l.fn.lanes) l.theirs l.item-index l.lanes l.first
