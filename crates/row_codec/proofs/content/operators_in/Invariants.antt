use Rattle.std.proofs.Common.{length}
use Rattle.row_codec.proofs.OperatorLemmas.{AreListed}
use Rattle.row_codec.proofs.content.operators_in.Given as goal

abbrev pub invariant-loop-row : goal.invariant-loop-row
invariant-loop-row l = AreListed l.rows l.operators.items l.left

abbrev pub decreases-loop-row : goal.decreases-loop-row
decreases-loop-row l = length l.left
