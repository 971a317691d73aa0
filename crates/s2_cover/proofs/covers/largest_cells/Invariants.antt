use Rattle.s2_cover.specs.Covers.{IsLaid}
use Rattle.s2_cover.proofs.Runs.{end_of}
use Rattle.s2_cover.proofs.covers.largest_cells.Given as goal

abbrev pub ghost-push_cells : goal.ghost-push_cells
ghost-push_cells g a = g.set

abbrev pub invariant-loop-span : goal.invariant-loop-span
invariant-loop-span g l = IsLaid g.set l.cells.items (end_of l.spans l.span-index)
