use Rattle.std.proofs.Common.{take}
use Rattle.slab_regions.specs.Regions.{sought_has}
use Rattle.live_index.specs.Live.{AreBoundedGroups, volumes_under, AddsPlans}
use Rattle.live_index.proofs.group.add_near_in.Given as goal

abbrev pub invariant-loop-group : goal.invariant-loop-group
invariant-loop-group l = AreBoundedGroups l.groups
    → AddsPlans l.wanted (sought_has l.sought) (volumes_under (take l.group-index l.groups)) l.fn.near l.near
