use Rattle.db_file.proofs.DamageLemmas.{empty}
use Rattle.db_file.proofs.laws.empty_is_sound.Goals as goal

pub returns : goal.returns
returns c = empty
