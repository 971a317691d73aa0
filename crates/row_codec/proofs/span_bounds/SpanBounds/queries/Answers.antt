use Rattle.std.proofs.Common.{None, rules}
use Rattle.row_codec.proofs.LongSpanLemmas.{asked_on}
use Rattle.row_codec.proofs.span_bounds.SpanBounds.queries.Goals as goal

pub loop-long_span-preserved : goal.loop-long_span-preserved
loop-long_span-preserved c =
    asked_on c.args.extent.now c.low-low.result c.args.self.now.long_spans c.loop-long_span.long_span-index
    None
    c.loop-long_span.queries.items c.push_query.new.queries.items (search rules) c.loop-long_span.invariant
    c.in_ok-push_query.ensures.asked c.in_ok-push_query.ensures.kept c.in_ok-push_query.ensures.within
