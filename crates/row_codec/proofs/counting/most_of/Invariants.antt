use Rattle.std.proofs.Common.{length}
use Rattle.row_codec.specs.SpanBounds.{count_of}
use Rattle.row_codec.proofs.CountingLemmas.{AreSummed}
use Rattle.row_codec.proofs.counting.most_of.Given as goal

abbrev pub invariant-loop-first : goal.invariant-loop-first
invariant-loop-first l = AreSummed (count_of l.counted) l.plans l.left l.most

abbrev pub decreases-loop-first : goal.decreases-loop-first
decreases-loop-first l = length l.left
