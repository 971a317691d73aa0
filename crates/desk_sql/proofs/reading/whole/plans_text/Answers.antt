use Rattle.desk_sql.proofs.WholeTexts.{plans_selected}
use Rattle.desk_sql.proofs.reading.whole.plans_text.Goals as goal

pub returns : goal.returns
returns c = plans_selected
