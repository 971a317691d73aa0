use Rattle.s2_cover.specs.Covers.{spans_have}
use Rattle.s2_cover.proofs.covers.normalise.Given as goal

abbrev pub ghost-largest_cells : goal.ghost-largest_cells
ghost-largest_cells a = spans_have a.spans.now
