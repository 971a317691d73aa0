use Rattle.volume4d.proofs.LaneLemmas.{IsAcross}
use Rattle.volume4d.proofs.sweep.first_across.Given as goal

-- the lanes so far are moved, and the first point that they share
abbrev pub invariant-loop-lane : goal.invariant-loop-lane
invariant-loop-lane l = IsAcross l.fn.lanes l.lanes l.lane-index l.other l.fn.found l.first
