use Rattle.volume4d.proofs.SpanLemmas.{few_cells}
use Rattle.volume4d.proofs.laws.cells_are_few.Goals as goal

pub returns : goal.returns
returns c = few_cells
