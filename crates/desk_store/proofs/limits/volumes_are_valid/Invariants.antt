use Rattle.std.proofs.Common.{take}
use Rattle.std.specs.List.{AllByRecursion}
use Rattle.desk_store.specs.World.{IsValidVolume}
use Rattle.desk_store.proofs.limits.volumes_are_valid.Given as goal

-- the volumes so far
abbrev pub invariant-loop-volume : goal.invariant-loop-volume
invariant-loop-volume l = AllByRecursion IsValidVolume (take l.volume-index l.volumes)
