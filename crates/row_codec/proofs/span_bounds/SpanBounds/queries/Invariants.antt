use Rattle.std.proofs.Common.{take}
use Rattle.row_codec.proofs.LongSpanLemmas.{AreAskedFor}
use Rattle.row_codec.proofs.span_bounds.SpanBounds.queries.Given as goal

abbrev pub invariant-loop-long_span : goal.invariant-loop-long_span
invariant-loop-long_span l = AreAskedFor l.extent l.low
    (take l.long_span-index l.self.long_spans) l.queries.items
