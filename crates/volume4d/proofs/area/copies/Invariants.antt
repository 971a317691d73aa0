use Rattle.std.proofs.Common.{◌≡◌, take}
use Rattle.volume4d.proofs.area.copies.Given as goal

-- the volumes so far
abbrev pub invariant-loop-volume : goal.invariant-loop-volume
invariant-loop-volume l = l.copies.items ≡ take l.volume-index l.volumes.items
