use Rattle.db_file.proofs.WalCommitLemmas.{long}
use Rattle.db_file.proofs.laws.commits_are_long.Goals as goal

pub returns : goal.returns
returns c log has = long log has
