use Rattle.std.proofs.Common.{take}
use Rattle.desk_tables.proofs.KeyLemmas.{IsReadingPlans}
use Rattle.desk_tables.proofs.tables.DeskTables.held_by_plans.Given as goal

abbrev pub invariant-loop-key : goal.invariant-loop-key
invariant-loop-key g l =
    IsReadingPlans g.S.Store l.least l.extent l.fn.self l.self (take l.key-index l.keys) l.helds.items
