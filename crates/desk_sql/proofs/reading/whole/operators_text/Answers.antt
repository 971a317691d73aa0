use Rattle.desk_sql.proofs.WholeTexts.{operators_selected}
use Rattle.desk_sql.proofs.reading.whole.operators_text.Goals as goal

pub returns : goal.returns
returns c = operators_selected
