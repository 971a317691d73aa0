use Rattle.std.proofs.Common.{length, ◌-◌, ◌≤◌}
use Rattle.live_index.proofs.chunk.chunk_with.Given as goal

abbrev pub invariant-loop-at : goal.invariant-loop-at
invariant-loop-at l = l.at ≤ length l.chunks

abbrev pub decreases-loop-at : goal.decreases-loop-at
decreases-loop-at l = length l.chunks - l.at
