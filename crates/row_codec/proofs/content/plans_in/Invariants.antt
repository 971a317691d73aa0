use Rattle.std.proofs.Common.{length}
use Rattle.row_codec.proofs.lemmas.Plan.{AreFiled}
use Rattle.row_codec.proofs.content.plans_in.Given as goal

abbrev pub invariant-loop-head : goal.invariant-loop-head
invariant-loop-head l = AreFiled l.head_rows l.volumes l.plans.items l.left l.rest

abbrev pub decreases-loop-head : goal.decreases-loop-head
decreases-loop-head l = length l.left
