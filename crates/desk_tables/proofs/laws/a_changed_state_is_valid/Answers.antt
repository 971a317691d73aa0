use Rattle.desk_tables.proofs.ChangeLemmas.{change_content}
use Rattle.desk_tables.proofs.laws.a_changed_state_is_valid.Goals as goal

pub returns : goal.returns
returns c = change_content
