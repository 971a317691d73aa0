use Rattle.desk_sql.proofs.WholeTexts.{old_spans_selected}
use Rattle.desk_sql.proofs.reading.whole.old_spans_text.Goals as goal

pub returns : goal.returns
returns c = old_spans_selected
