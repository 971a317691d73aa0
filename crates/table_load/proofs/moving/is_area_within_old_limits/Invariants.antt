use Rattle.std.proofs.Common.{length}
use Rattle.volume4d.specs.Volume.{Block}
use Rattle.table_load.specs.Moving.{IsOldShape}
use Rattle.table_load.proofs.lemmas.Moving.{AllIf}
use Rattle.table_load.proofs.moving.is_area_within_old_limits.Given as goal

abbrev pub invariant-volume : goal.invariant-volume
invariant-volume l = AllIf (λ (v : Block). IsOldShape v.footprint) l.volumes l.left

abbrev pub decreases-volume : goal.decreases-volume
decreases-volume l = length l.left
