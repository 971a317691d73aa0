use Rattle.s2_hilbert.proofs.FourSteps.{HasFours}
use Rattle.s2_hilbert.proofs.four_levels.place_on_face.Given as goal

abbrev pub invariant-loop-step : goal.invariant-loop-step
invariant-loop-step l = HasFours l.turn l.i l.j l.step l.row l.place
