use Rattle.desk_run.proofs.lemmas.Step.{own_stays}
use Rattle.desk_run.proofs.laws.own_is_decided.Goals as goal

pub returns : goal.returns
returns c = λ w operator moment call. own_stays w operator moment call
