use Rattle.std.proofs.Common.{length}
use Rattle.table_load.specs.OpeningSteps.{IsPlanHead}
use Rattle.table_load.proofs.lemmas.Moving.{AllIf}
use Rattle.table_load.proofs.naming.check_plan_rows.Given as goal

abbrev pub invariant-head : goal.invariant-head
invariant-head l = AllIf IsPlanHead l.heads l.left

abbrev pub decreases-head : goal.decreases-head
decreases-head l = length l.left
