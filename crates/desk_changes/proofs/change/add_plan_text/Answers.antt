use Rattle.desk_changes.proofs.ChangeTexts.{add_plan_does}
use Rattle.desk_changes.proofs.change.add_plan_text.Goals as goal

pub returns : goal.returns
returns c = add_plan_does
