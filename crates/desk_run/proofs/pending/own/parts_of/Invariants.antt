use Rattle.std.proofs.Common.{take}
use Rattle.volume4d.specs.Volume.{area_has}
use Rattle.desk_run.specs.HeldAmong.{HaveAll}
use Rattle.desk_run.proofs.pending.own.parts_of.Given as goal

-- the parts have the points of the volumes so far
abbrev pub invariant-loop-volume : goal.invariant-loop-volume
invariant-loop-volume l = HaveAll (area_has (take l.volume-index l.area)) l.parts.items
