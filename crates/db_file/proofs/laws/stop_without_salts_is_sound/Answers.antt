use Rattle.db_file.proofs.DamageLemmas.{shut}
use Rattle.db_file.proofs.laws.stop_without_salts_is_sound.Goals as goal

pub returns : goal.returns
returns c log first taken unsalted stop commits damaged = shut _ log first stop commits taken unsalted damaged
