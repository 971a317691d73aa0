use Rattle.desk_tables.proofs.SetLemmas.{operator_is_put}
use Rattle.desk_tables.proofs.laws.an_operator_put_changes_rows.Goals as goal

pub returns : goal.returns
returns c = operator_is_put
