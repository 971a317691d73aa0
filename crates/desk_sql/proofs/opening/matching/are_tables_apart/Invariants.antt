use Rattle.std.proofs.Common.{◌≡◌, drop}
use Rattle.desk_sql.specs.Schema.{are_tables_apart}
use Rattle.desk_sql.proofs.opening.matching.are_tables_apart.Given as goal

abbrev pub invariant-tables : goal.invariant-tables
invariant-tables l = are_tables_apart l.before (drop l.table-index l.tables) ≡ are_tables_apart l.last l.tables
