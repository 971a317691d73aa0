use Rattle.desk_record.proofs.LawLemmas.{short_beginning}
use Rattle.desk_record.proofs.laws.beginnings_are_short.Goals as goal

pub returns : goal.returns
returns c = short_beginning
