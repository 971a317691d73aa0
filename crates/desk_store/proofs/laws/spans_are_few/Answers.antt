use Rattle.desk_store.proofs.SpanLemmas.{few_spans}
use Rattle.desk_store.proofs.laws.spans_are_few.Goals as goal

pub returns : goal.returns
returns c = few_spans c.spans_are_few.ensures
