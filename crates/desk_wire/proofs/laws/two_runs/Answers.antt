use Rattle.desk_wire.proofs.HeadlineLemmas.{same_for}
use Rattle.desk_wire.proofs.laws.two_runs.Goals as goal

pub returns : goal.returns
returns c = same_for
