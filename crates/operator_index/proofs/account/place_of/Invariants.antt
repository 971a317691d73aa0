use Rattle.std.proofs.Common.{length, ◌-◌}
use Rattle.operator_index.proofs.RollLemmas.{IsSoFar}
use Rattle.operator_index.proofs.account.place_of.Given as goal

abbrev pub invariant-loop-at : goal.invariant-loop-at
invariant-loop-at l = IsSoFar l.state l.plans l.at

abbrev pub decreases-loop-at : goal.decreases-loop-at
decreases-loop-at l = length l.plans - l.at
