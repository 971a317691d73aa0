use Rattle.std.proofs.Common.{◌+◌, drop}
use Rattle.std.proofs.Math.ListN.{drop_of_length-le}
use Rattle.std.proofs.lemmas.List.{drop_more}
use Rattle.desk_changes.specs.RowChanges.{span_row_in}
use Rattle.row_codec.proofs.lemmas.SpanBound.{records_on, records_end}
use Rattle.row_codec.proofs.records.bounds_with_rows.Goals as goal

pub loop-span-preserved : goal.loop-span-preserved
loop-span-preserved c =
    let spans = c.args.spans.now in
    let place = c.loop-span.span-index in (
      records_on span_row_in spans (drop place spans) c.loop-span.after c.loop-span.invariant.0
          _ (drop (place + 1) spans) (drop_more spans place _ c.loop-span-test.true)
          c.with_span_row-after.result c.with_span_row-after.ensures.kept c.with_span_row-after.ensures.known,
      λ span was. c.with_span_row-after.ensures.kept span (c.loop-span.invariant.1 span was),
    )

pub returns-clause-known : goal.returns-clause-known
returns-clause-known c =
    let spans = c.args.spans.now in
    records_end span_row_in spans (drop c.loop-span.span-index spans) c.loop-span.after
    c.loop-span.invariant.0
    (drop_of_length-le spans c.loop-span-test.false)
