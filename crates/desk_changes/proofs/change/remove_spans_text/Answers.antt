use Rattle.desk_changes.proofs.ChangeTexts.{remove_spans_does}
use Rattle.desk_changes.proofs.change.remove_spans_text.Goals as goal

pub returns : goal.returns
returns c = remove_spans_does
