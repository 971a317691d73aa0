use Rattle.db_file.proofs.DamageLemmas.{long}
use Rattle.db_file.proofs.laws.damaged_is_long.Goals as goal

pub returns : goal.returns
returns c log stop commits damaged = long _ log stop commits damaged
