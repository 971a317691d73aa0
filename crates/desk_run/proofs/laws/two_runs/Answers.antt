use Rattle.desk_run.proofs.lemmas.TwoRun.{same_for}
use Rattle.desk_run.proofs.laws.two_runs.Goals as goal

pub returns : goal.returns
returns c = same_for
