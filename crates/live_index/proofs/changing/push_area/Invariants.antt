use Rattle.std.proofs.Common.{take}
use Rattle.desk_store.specs.Changes.{filed_by}
use Rattle.live_index.specs.Live.{AddsLiveVolumes}
use Rattle.live_index.proofs.changing.push_area.Given as goal

-- the volumes so far are appended
abbrev pub invariant-loop-volume : goal.invariant-loop-volume
invariant-loop-volume l = AddsLiveVolumes (filed_by l.operator l.row) (take l.volume-index l.volume-items)
    l.fn.volumes.items l.volumes.items
