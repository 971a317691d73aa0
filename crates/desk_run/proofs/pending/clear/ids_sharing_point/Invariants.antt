use Rattle.std.proofs.Common.{◌≡◌, ◌∷◌, [], take}
use Rattle.volume4d.specs.Volume.{Block}
use Rattle.desk_rules.specs.Conflict.{AreSlabsOf}
use Rattle.desk_run.specs.Calls.{ids_in}
use Rattle.desk_run.proofs.pending.clear.ids_sharing_point.Given as goal

-- the ids of the plans so far
abbrev pub invariant-loop-row : goal.invariant-loop-row
invariant-loop-row l =
    (extent : Block) → AreSlabsOf l.slabs (extent ∷ []) → l.ids.items
    ≡ ids_in extent (take l.row-index l.rows)
