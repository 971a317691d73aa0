use Rattle.std.proofs.Common.{map, take}
use Rattle.row_codec.specs.Tables.{AreCanonOf}
use Rattle.row_codec.proofs.canon.canons_of.Given as goal

-- the bytes of the covers of the volumes so far
abbrev pub invariant-loop-volume : goal.invariant-loop-volume
invariant-loop-volume l =
    AreCanonOf (take l.volume-index l.volumes) (map (λ bytes. bytes.items) l.canon.items)
