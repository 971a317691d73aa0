use Rattle.std.proofs.Common.{length}
use Rattle.desk_store.specs.World.{Filed}
use Rattle.table_load.specs.Moving.{IsOldArea}
use Rattle.table_load.proofs.lemmas.Moving.{AllIf}
use Rattle.table_load.proofs.moving.are_within_old_limits.Given as goal

abbrev pub invariant-plan : goal.invariant-plan
invariant-plan l = AllIf (λ (p : Filed). IsOldArea p.row.area) l.plans l.left

abbrev pub decreases-plan : goal.decreases-plan
decreases-plan l = length l.left
