use Rattle.std.proofs.Common.{refl}
use Rattle.row_codec.proofs.LongSpanLemmas.{keeps_long_spans}
use Rattle.row_codec.proofs.span_bounds.SpanBounds.with_span.Goals as goal

pub returns-in-Some-clause-kept : goal.returns-in-Some-clause-kept
returns-in-Some-clause-kept c =
    keeps_long_spans c.args.self.now (record {
      bound = c.args.self.now.bound;
      long_spans =
          c.in-Some.long_spans;
    }) refl
    c.in-Some.ensures.kept
