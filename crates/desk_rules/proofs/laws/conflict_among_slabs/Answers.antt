use Rattle.desk_rules.proofs.ConflictLemmas.{conflict_among}
use Rattle.desk_rules.proofs.laws.conflict_among_slabs.Goals as goal

pub returns : goal.returns
returns c = conflict_among
