use Rattle.desk_changes.proofs.ChangeTexts.{set_ceiling_does}
use Rattle.desk_changes.proofs.change.set_ceiling_text.Goals as goal

pub returns : goal.returns
returns c = set_ceiling_does
