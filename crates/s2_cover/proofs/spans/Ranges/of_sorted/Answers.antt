use Rattle.std.proofs.Common.{◌+◌, arith}
use Rattle.s2_cover.specs.Covers.{leaves_of, IsRanges}
use Rattle.s2_cover.proofs.Merging.{IsSpanOf, merged_joined, merged_opened, merged_all, span_of_rest, ranges_alone}
use Rattle.s2_cover.proofs.spans.Ranges.of_sorted.Goals as goal
use Rattle.s2_cover.proofs.spans.Ranges.of_sorted.Goals.{then-span-current, else-span-current+in_ok-push}

pub loop-cell-preserved : goal.loop-cell-preserved
loop-cell-preserved c =
    let cells = c.args.cells.now in
    let count = c.loop-cell.cell-index + 1 in
    let spans = c.loop-cell.spans.items in
    let current = c.loop-cell.current in
    let span = c.span_of-span.result in
    let reported = c.span_of-span.ensures in
    let next : IsSpanOf cells count span =
    span_of_rest cells c.in-Some.rest.now c.in-Some.first.now c.cell-item.result
    c.loop-cell.cell-index span c.in-Some.ensures.cases.0 c.loop-cell-test.true c.cell-item.is
    reported.valid reported.first reported.leaves in
    elim c.if-span-current.branch [
      | then-span-current w ↦
          rw (w.current-is, w.spans-is, w.max.ensures)
          (merged_joined cells count spans current span c.loop-cell.invariant next
          w.if-span-current.true)
      | else-span-current+in_ok-push w ↦
          rw (w.current-is, w.spans-is, w.in_ok-push.ensures.items)
          (merged_opened cells count spans current span c.requires c.loop-cell.invariant next
          w.if-span-current.false)
    ]

all_merged : (c : goal.In_ok-push-2) → IsRanges (leaves_of c.args.cells.now) c.push-2.new.self.items
all_merged c =
    rw c.in_ok-push-2.ensures.items
    (merged_all c.args.cells.now (c.loop-cell.cell-index + 1) c.loop-cell.spans.items
    c.loop-cell.current c.loop-cell.invariant
    (omega (arith, c.loop-cell-test, c.in-Some.ensures.cases.1)))

pub invariant_of-result-2 : goal.invariant_of-result-2
invariant_of-result-2 c =
    ranges_alone (leaves_of c.args.cells.now) c.push-2.new.self.items (all_merged c)

pub returns-clause-ranges : goal.returns-clause-ranges
returns-clause-ranges c = all_merged c
