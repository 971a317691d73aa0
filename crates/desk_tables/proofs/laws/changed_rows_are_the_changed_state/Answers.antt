use Rattle.desk_tables.proofs.ChangeLemmas.{change_tables}
use Rattle.desk_tables.proofs.laws.changed_rows_are_the_changed_state.Goals as goal

pub returns : goal.returns
returns c = change_tables
