use Rattle.desk_run.proofs.lemmas.Step.{others_stay}
use Rattle.desk_run.proofs.laws.others_are_kept.Goals as goal

pub returns : goal.returns
returns c = λ w operator other moment call e. others_stay w operator other moment call e
