use Rattle.std.proofs.Common.{take}
use Rattle.slab_regions.specs.Regions.{sought_has}
use Rattle.live_index.specs.Live.{AreBoundedChunks, volumes_in, AddsPlans}
use Rattle.live_index.proofs.chunk.add_near_in.Given as goal

abbrev pub invariant-loop-chunk : goal.invariant-loop-chunk
invariant-loop-chunk l = AreBoundedChunks l.chunks
    → AddsPlans l.wanted (sought_has l.sought) (volumes_in (take l.chunk-index l.chunks)) l.fn.near l.near
