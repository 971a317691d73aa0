use Rattle.std.proofs.Common.{take}
use Rattle.volume4d.proofs.Filled.{AreSoFar}
use Rattle.volume4d.proofs.area.slabs_of.Given as goal

-- the slabs of the volumes so far
abbrev pub invariant-loop-volume : goal.invariant-loop-volume
invariant-loop-volume l = AreSoFar (take l.volume-index l.volumes) l.slabs.items
