use Rattle.table_load.proofs.lemmas.Content.{one_world}
use Rattle.desk_tables.proofs.laws.one_state.Goals as goal

pub returns : goal.returns
returns c = one_world c.one_shape.ensures
