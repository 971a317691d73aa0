use Rattle.row_codec.proofs.lemmas.Id.{text_order}
use Rattle.desk_tables.proofs.laws.id_texts_are_ordered_as_ids.Goals as goal

pub returns : goal.returns
returns c = text_order
