use Rattle.desk_changes.proofs.ChangeTexts.{set_closed_does}
use Rattle.desk_changes.proofs.change.set_closed_text.Goals as goal

pub returns : goal.returns
returns c = set_closed_does
