use Rattle.desk_changes.proofs.ChangeTexts.{add_operator_does}
use Rattle.desk_changes.proofs.change.add_operator_text.Goals as goal

pub returns : goal.returns
returns c = add_operator_does
