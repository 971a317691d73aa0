use Rattle.std.proofs.Common.{◌∙◌, sym, Some, None}
use Rattle.std.proofs.lemmas.List.Sorted.{list_any-IsPermutation}
use Rattle.row_codec.specs.SpanBounds.{takes_in}
use Rattle.row_codec.proofs.LongSpanLemmas.{set_passes, set_kept}
use Rattle.row_codec.proofs.span_bounds.with_long_span.Goals as goal

pub returns-clause-kept : goal.returns-clause-kept
returns-clause-kept c = λ known among.
    sym (list_any-IsPermutation (takes_in known) _ c.sorted_by_first.result c.sorted_by_first.ensures)
    ∙ set_kept (takes_in known) c.args.long_spans.now c.in_ok-at.at None (Some c.longer_of.result)
    (c.longer_of.ensures.kept known) among

pub returns-clause-among : goal.returns-clause-among
returns-clause-among c =
    sym (list_any-IsPermutation (takes_in c.args.span) _ c.sorted_by_first.result c.sorted_by_first.ensures)
    ∙ set_passes (takes_in c.args.span) c.args.long_spans.now c.in_ok-at.at (Some c.longer_of.result)
    c.in_ok-at.ensures.1 c.longer_of.ensures.among
