use Rattle.std.proofs.Common.{length, ◌-◌, ◌≤◌}
use Rattle.live_index.proofs.group.group_with.Given as goal

abbrev pub invariant-loop-at : goal.invariant-loop-at
invariant-loop-at l = l.at ≤ length l.groups

abbrev pub decreases-loop-at : goal.decreases-loop-at
decreases-loop-at l = length l.groups - l.at
