use Rattle.desk_sql.proofs.WholeTexts.{spans_selected}
use Rattle.desk_sql.proofs.reading.whole.spans_text.Goals as goal

pub returns : goal.returns
returns c = spans_selected
