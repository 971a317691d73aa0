use Rattle.std.proofs.Common.{map, take}
use Rattle.std.specs.List.{AllByRecursion}
use Rattle.row_codec.specs.Tables.{AreAskedOf}
use Rattle.desk_store.specs.World.{IsValidVolume}
use Rattle.row_codec.proofs.records.asked_of.Given as goal

-- the bytes of the volumes so far
abbrev pub invariant-loop-volume : goal.invariant-loop-volume
invariant-loop-volume l = AreAskedOf (take l.volume-index l.volumes)
    (map (λ bytes. bytes.items) l.asked.items) × AllByRecursion IsValidVolume (take l.volume-index l.volumes)
