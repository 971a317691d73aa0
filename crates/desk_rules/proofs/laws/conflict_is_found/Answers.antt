use Rattle.desk_rules.proofs.ConflictLemmas.{conflict_is}
use Rattle.desk_rules.proofs.laws.conflict_is_found.Goals as goal

pub returns : goal.returns
returns c = conflict_is
