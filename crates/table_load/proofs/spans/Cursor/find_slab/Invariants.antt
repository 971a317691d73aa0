use Rattle.std.proofs.Common.{◌-◌, length}
use Rattle.table_load.specs.SpanChecks.{AwaitsAlike}
use Rattle.table_load.proofs.spans.Cursor.find_slab.Given as goal

abbrev pub invariant-loop-plan : goal.invariant-loop-plan
invariant-loop-plan l = AwaitsAlike l.fn.plans l.fn.self l.self

abbrev pub decreases-loop-plan : goal.decreases-loop-plan
decreases-loop-plan l = length l.plans - l.self.plan
