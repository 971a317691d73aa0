use Rattle.std.proofs.Common.{◌≡◌, ◌++◌, take}
use Rattle.live_index.proofs.changing.push_all.Given as goal

-- the volumes so far are appended, in the room that there was
abbrev pub invariant-loop-live : goal.invariant-loop-live
invariant-loop-live l = (l.volumes.items ≡ l.fn.volumes.items ++ take l.live-index l.fresh)
    × (l.volumes.cap ≡ l.fn.volumes.cap)
