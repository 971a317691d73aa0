use Rattle.desk_sql.proofs.StatementLemmas.{own_plans_selected}
use Rattle.desk_sql.proofs.reading.query.own_plans_text.Goals as goal

pub returns : goal.returns
returns c = own_plans_selected
