use Rattle.volume4d.proofs.SpanLemmas.{few_spans}
use Rattle.volume4d.proofs.laws.spans_are_few.Goals as goal

pub returns : goal.returns
returns c =
    few_spans c.covers_are_few.ensures c.one_canonical_list.ensures c.canonical_list_exists.ensures
    c.canonical_list_is.ensures c.ranges_are_few.ensures
