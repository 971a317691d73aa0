use Rattle.std.proofs.Common.{take}
use Rattle.slab_regions.specs.Regions.{sought_has}
use Rattle.live_index.specs.Live.{AddsPlans}
use Rattle.live_index.proofs.near.add_each.Given as goal

abbrev pub invariant-loop-live : goal.invariant-loop-live
invariant-loop-live l =
    AddsPlans l.wanted (sought_has l.sought) (take l.live-index l.lives) l.fn.near l.near
