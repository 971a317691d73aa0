use Rattle.desk_sql.proofs.StatementLemmas.{plan_of_selected}
use Rattle.desk_sql.proofs.reading.query.plan_of_text.Goals as goal

pub returns : goal.returns
returns c = plan_of_selected
