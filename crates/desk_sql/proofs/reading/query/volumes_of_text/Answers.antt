use Rattle.desk_sql.proofs.StatementLemmas.{volumes_of_selected}
use Rattle.desk_sql.proofs.reading.query.volumes_of_text.Goals as goal

pub returns : goal.returns
returns c = volumes_of_selected
