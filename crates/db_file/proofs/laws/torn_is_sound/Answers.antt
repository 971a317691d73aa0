use Rattle.db_file.proofs.DamageLemmas.{torn}
use Rattle.db_file.proofs.laws.torn_is_sound.Goals as goal

pub returns : goal.returns
returns c log first last taken none unsalted stop commits damaged =
    torn _ log first last none stop commits taken unsalted damaged
