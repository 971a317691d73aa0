use Rattle.std.proofs.Common.{◌≡◌, [], take}
use Rattle.volume4d.specs.Slab.{slabs_have}
use Rattle.live_index.specs.declared.near.NearPlans.{NearPlans}
use Rattle.live_index.specs.Live.{AreBoundedGroups, volumes_of, AddsPlans}
use Rattle.live_index.proofs.live.LiveIndex.near_one_by_one.Given as goal

abbrev pub invariant-loop-extent : goal.invariant-loop-extent
invariant-loop-extent l = (start : NearPlans) × (start.keys.keys ≡ []) × (AreBoundedGroups l.self.groups.items
    → AddsPlans l.wanted (slabs_have (take l.extent-index l.extents)) (volumes_of l.self) start l.near)
