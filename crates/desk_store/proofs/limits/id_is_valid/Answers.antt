use Rattle.desk_store.proofs.lemmas.Parse.{parsed_id}
use Rattle.desk_store.proofs.limits.id_is_valid.Goals as goal

pub returns : goal.returns
returns c = parsed_id c.encode-text.result.now c.args.id.now c.encode-text.ensures.parsed
