use Rattle.std.proofs.Common.{sym}
use Rattle.desk_sql.proofs.old_tables.RowLemmas.{some_more}
use Rattle.desk_sql.proofs.old.rows.AnyRowRowVisitor.take.Goals as goal

pub returns-clause-taken : goal.returns-clause-taken
returns-clause-taken c rows h = sym (some_more rows c.args._row.now)
