use Rattle.desk_store.proofs.lemmas.Parse.{parsed_id}
use Rattle.desk_tables.proofs.laws.what_is_read_is_an_id.Goals as goal

pub returns : goal.returns
returns c = parsed_id
