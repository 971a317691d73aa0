use Rattle.s2_hilbert.proofs.FourSteps.{HasFoundFours}
use Rattle.s2_hilbert.proofs.four_levels.point_on_face.Given as goal

abbrev pub invariant-loop-step : goal.invariant-loop-step
invariant-loop-step l = HasFoundFours l.turn l.along l.step l.row l.i l.j
