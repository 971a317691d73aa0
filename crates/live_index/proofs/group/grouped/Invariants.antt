use Rattle.std.proofs.Common.{length}
use Rattle.live_index.specs.Live.{IsBoundedGroup, volumes_in}
use Rattle.live_index.proofs.ChunkLemmas.{AreCut}
use Rattle.live_index.proofs.group.grouped.Given as goal

abbrev pub invariant-loop-rest : goal.invariant-loop-rest
invariant-loop-rest l = AreCut (λ g. volumes_in g.chunks.items) IsBoundedGroup l.lives l.groups.items l.rest

abbrev pub decreases-loop-rest : goal.decreases-loop-rest
decreases-loop-rest l = length l.rest
