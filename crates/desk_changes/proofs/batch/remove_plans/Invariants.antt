use Rattle.std.proofs.Common.{◌≡◌, map, take}
use Rattle.std.specs.String.{string_bytes}
use Rattle.desk_changes.specs.RowChanges.{RemovesPlans}
use Rattle.desk_changes.proofs.BatchLemmas.{HasAdded}
use Rattle.desk_changes.proofs.batch.remove_plans.Given as goal

abbrev pub invariant-ids : goal.invariant-ids
invariant-ids g l = (l.tx.conn.ghost_name ≡ l.fn.tx.conn.ghost_name)
    × HasAdded g.S.Store l.fn.tx.conn.now l.tx.conn.now
    (RemovesPlans l.operator (map string_bytes (take l.id-index l.ids)))
