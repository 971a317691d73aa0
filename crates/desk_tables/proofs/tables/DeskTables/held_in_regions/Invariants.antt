use Rattle.std.proofs.Common.{take}
use Rattle.desk_tables.proofs.OtherLemmas.{IsReading}
use Rattle.desk_tables.proofs.tables.DeskTables.held_in_regions.Given as goal

abbrev pub invariant-loop-region : goal.invariant-loop-region
invariant-loop-region g l =
    IsReading g.S.Store l.fn.self l.self l.operator (take l.region-index l.regions) l.helds.items
