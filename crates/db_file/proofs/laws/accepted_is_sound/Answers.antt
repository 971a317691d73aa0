use Rattle.db_file.proofs.DamageLemmas.{good}
use Rattle.db_file.proofs.laws.accepted_is_sound.Goals as goal

pub returns : goal.returns
returns c log taken stop commits damaged = good _ log stop commits taken damaged
