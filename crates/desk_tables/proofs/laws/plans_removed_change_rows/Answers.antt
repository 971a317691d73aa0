use Rattle.desk_tables.proofs.ClearLemmas.{removal_is_clear}
use Rattle.desk_tables.proofs.laws.plans_removed_change_rows.Goals as goal

pub returns : goal.returns
returns c = removal_is_clear
