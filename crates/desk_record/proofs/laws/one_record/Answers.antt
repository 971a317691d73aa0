use Rattle.desk_record.proofs.LawLemmas.{one_list}
use Rattle.desk_record.proofs.laws.one_record.Goals as goal

pub returns : goal.returns
returns c = one_list
