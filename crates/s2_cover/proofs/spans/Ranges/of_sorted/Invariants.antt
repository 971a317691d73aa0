use Rattle.std.proofs.Common.{◌+◌}
use Rattle.s2_cover.proofs.Merging.{IsMerged}
use Rattle.s2_cover.proofs.spans.Ranges.of_sorted.Given as goal

abbrev pub invariant-loop-cell : goal.invariant-loop-cell
invariant-loop-cell l = IsMerged l.cells (l.cell-index + 1) l.spans.items l.current
