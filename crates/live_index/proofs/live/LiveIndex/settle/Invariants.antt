use Rattle.std.proofs.Common.{length}
use Rattle.desk_store.specs.World.{World}
use Rattle.live_index.specs.Live.{AreKeptOnce}
use Rattle.live_index.proofs.live.LiveIndex.settle.Given as goal

abbrev pub invariant-loop-alloc : goal.invariant-loop-alloc
invariant-loop-alloc l = (w : World) → AreKeptOnce l.fn.self w → AreKeptOnce l.self w

abbrev pub decreases-loop-alloc : goal.decreases-loop-alloc
decreases-loop-alloc l = length l.self.unindexed.items
