use Rattle.desk_record.proofs.LawLemmas.{no_short}
use Rattle.desk_record.proofs.laws.an_entry_is_not_short.Goals as goal

pub returns : goal.returns
returns c = no_short
