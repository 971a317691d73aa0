use Rattle.desk_store.proofs.SpanLemmas.{few_cells}
use Rattle.desk_store.proofs.laws.cells_are_few.Goals as goal

pub returns : goal.returns
returns c = few_cells c.cells_are_few.ensures
