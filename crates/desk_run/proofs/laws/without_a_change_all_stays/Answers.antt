use Rattle.desk_run.proofs.lemmas.Step.{unchanged}
use Rattle.desk_run.proofs.laws.without_a_change_all_stays.Goals as goal

pub returns : goal.returns
returns c = λ w operator moment call e. unchanged w operator moment call e
