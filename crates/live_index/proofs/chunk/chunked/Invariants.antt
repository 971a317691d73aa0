use Rattle.std.proofs.Common.{length}
use Rattle.live_index.specs.Live.{IsBoundedChunk}
use Rattle.live_index.proofs.ChunkLemmas.{AreCut}
use Rattle.live_index.proofs.chunk.chunked.Given as goal

abbrev pub invariant-loop-rest : goal.invariant-loop-rest
invariant-loop-rest l = AreCut (λ c. c.volumes.items) IsBoundedChunk l.lives l.chunks.items l.rest

abbrev pub decreases-loop-rest : goal.decreases-loop-rest
decreases-loop-rest l = length l.rest
