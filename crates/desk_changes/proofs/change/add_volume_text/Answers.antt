use Rattle.desk_changes.proofs.ChangeTexts.{add_volume_does}
use Rattle.desk_changes.proofs.change.add_volume_text.Goals as goal

pub returns : goal.returns
returns c = add_volume_does
