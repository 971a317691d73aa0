use Rattle.desk_changes.proofs.ChangeTexts.{remove_plan_does}
use Rattle.desk_changes.proofs.change.remove_plan_text.Goals as goal

pub returns : goal.returns
returns c = remove_plan_does
