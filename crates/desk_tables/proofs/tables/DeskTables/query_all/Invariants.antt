use Rattle.std.proofs.Common.{take}
use Rattle.row_codec.specs.RowsRead.{is_asked}
use Rattle.desk_tables.proofs.AskingLemmas.{IsAsking}
use Rattle.desk_tables.proofs.tables.DeskTables.query_all.Given as goal

abbrev pub invariant-loop-query : goal.invariant-loop-query
invariant-loop-query g l =
    IsAsking g.S.Store l.fn.self l.self (is_asked l.wanted l.extent) (take l.query-index l.queries)
    l.helds.items
