use Rattle.desk_rules.proofs.SharingLemmas.{is_there, is_found}
use Rattle.desk_rules.proofs.laws.shared_point_is_found.Goals as goal

pub returns : goal.returns
returns c = λ area other. (is_there area other, is_found area other)
