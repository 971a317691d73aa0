use Rattle.desk_sql.proofs.WholeTexts.{old_volumes_selected}
use Rattle.desk_sql.proofs.reading.whole.old_volumes_text.Goals as goal

pub returns : goal.returns
returns c = old_volumes_selected
