use Rattle.table_load.proofs.lemmas.Leftover.{holds_still, none_still}
use Rattle.desk_tables.proofs.laws.a_failed_opening_keeps_the_database.Goals as goal

pub returns-clause-held : goal.returns-clause-held
returns-clause-held g c = λ image next it db held remains. holds_still image next it remains db held

pub returns-clause-none : goal.returns-clause-none
returns-clause-none g c = λ image next it nothing remains. none_still image next it remains nothing
