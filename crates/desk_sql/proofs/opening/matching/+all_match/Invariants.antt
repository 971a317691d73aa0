use Rattle.std.proofs.Common.{length}
use Rattle.desk_sql.proofs.opening.matching.+all_match.Given as goal

abbrev pub decreases-all_match : goal.decreases-all_match
decreases-all_match g l = length l.found.now
