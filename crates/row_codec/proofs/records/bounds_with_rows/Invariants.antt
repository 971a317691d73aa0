use Rattle.std.proofs.Common.{drop}
use Rattle.desk_changes.specs.RowChanges.{span_row_in}
use Rattle.row_codec.specs.SpanBounds.{IsKnownRow, Keeps}
use Rattle.row_codec.proofs.lemmas.SpanBound.{AreLeft}
use Rattle.row_codec.proofs.records.bounds_with_rows.Given as goal

abbrev pub invariant-loop-span : goal.invariant-loop-span
invariant-loop-span l =
    AreLeft (λ n s. IsKnownRow n (span_row_in s)) l.spans (drop l.span-index l.spans) l.after
    × Keeps l.span_bounds l.after
