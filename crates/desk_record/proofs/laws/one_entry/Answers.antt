use Rattle.desk_record.proofs.LawLemmas.{one_at}
use Rattle.desk_record.proofs.laws.one_entry.Goals as goal

pub returns : goal.returns
returns c = λ e other rest left fits other_fits same. one_at e other rest left fits other_fits same
