use Rattle.desk_tables.proofs.CloseLemmas.{plan_closed}
use Rattle.desk_tables.proofs.laws.a_plan_closed_changes_rows.Goals as goal

pub returns : goal.returns
returns c = plan_closed
