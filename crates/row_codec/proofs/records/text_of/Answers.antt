use Rattle.desk_store.proofs.lemmas.Parse.{parsed_id}
use Rattle.row_codec.proofs.records.text_of.Goals as goal

pub returns-clause-valid : goal.returns-clause-valid
returns-clause-valid c = parsed_id c.encode.result.now c.args.id.now c.encode.ensures.parsed
