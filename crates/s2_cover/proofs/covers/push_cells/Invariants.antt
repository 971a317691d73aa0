use Rattle.std.proofs.Common.{◌+◌, ◌-◌, ◌≤◌}
use Rattle.s2_cover.specs.Covers.{IsLaid}
use Rattle.s2_cover.proofs.Laid.{IsCutAt}
use Rattle.s2_cover.proofs.covers.push_cells.Given as goal

abbrev pub invariant-loop-position : goal.invariant-loop-position
invariant-loop-position g l = record {
  laid : IsLaid g.set l.cells.items l.position;
  cut : IsCutAt l.span l.position;
  from : l.span.first ≤ l.position;
  upto : l.position ≤ l.span.last + 1;
}

abbrev pub decreases-loop-position : goal.decreases-loop-position
decreases-loop-position g l = l.span.last + 1 - l.position
