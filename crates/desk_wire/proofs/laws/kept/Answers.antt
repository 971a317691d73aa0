use Rattle.desk_wire.proofs.KeptLemmas.{found_after}
use Rattle.desk_wire.proofs.laws.kept.Goals as goal

pub returns : goal.returns
returns c = found_after
