use Rattle.desk_record.proofs.LawLemmas.{length_of}
use Rattle.desk_record.proofs.laws.lengths.Goals as goal

pub returns : goal.returns
returns c = length_of
