use Rattle.desk_changes.proofs.ChangeTexts.{add_span_does}
use Rattle.desk_changes.proofs.change.add_span_text.Goals as goal

pub returns : goal.returns
returns c = add_span_does
