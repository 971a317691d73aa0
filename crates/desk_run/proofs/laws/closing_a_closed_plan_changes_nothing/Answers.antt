use Rattle.desk_run.proofs.lemmas.Step.{closing_closed}
use Rattle.desk_run.proofs.laws.closing_a_closed_plan_changes_nothing.Goals as goal

pub returns : goal.returns
returns c = λ w operator id moment row h stored shut. closing_closed w operator id moment row h stored shut
