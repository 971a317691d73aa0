use Rattle.std.proofs.Common.{length, ◌-◌}
use Rattle.live_index.specs.Live.{IsBoundedChunk, is_of_other_plan}
use Rattle.live_index.proofs.GatherLemmas.{AreLeft}
use Rattle.live_index.proofs.chunk.remove_from_all.Given as goal

abbrev pub invariant-loop-at : goal.invariant-loop-at
invariant-loop-at l =
    AreLeft (λ c. c.volumes.items) IsBoundedChunk (is_of_other_plan l.operator l.id) l.fn.chunks.items l.at l.chunks.items

abbrev pub decreases-loop-at : goal.decreases-loop-at
decreases-loop-at l = length l.fn.chunks.items - l.at
