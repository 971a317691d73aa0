use Rattle.std.proofs.Common.{◌+◌, true, ap, sym, ◌∙◌, arith}
use Rattle.desk_rules.specs.Outcome.{row_cells, row_spans}
use Rattle.desk_store.specs.World.{cells_beside, rows_by, spans_beside, filed_of, filed_all}
use Rattle.desk_store.proofs.SpanLemmas.{count_added, count_none, same_sizes}
use Rattle.desk_store.proofs.list.sizes_of.Goals as goal

pub loop-key-preserved-then-is_by : goal.loop-key-preserved-then-is_by
loop-key-preserved-then-is_by c =
    let o = c.args.operator.now in
    let id = c.args.id.now in
    let p = filed_of (c.in-Some.key.now, c.in-Some.plan.now) in
    let rest = filed_all c.next.new.self in
    let spans =
    ap (λ es. c.loop-key.sizes.spans + spans_beside id (rows_by o (filed_all es))) (sym c.in-Some.ensures.steps)
    ∙ c.loop-key.invariant.spans in
    let cells =
    ap (λ es. c.loop-key.sizes.cells + cells_beside id (rows_by o (filed_all es))) (sym c.in-Some.ensures.steps)
    ∙ c.loop-key.invariant.cells in
    let by = sym c.if-is_by.ensures in
    let more_spans = count_added row_spans o id p rest true by in
    let more_cells = count_added row_cells o id p rest true by in
    let one = c.sizes_unless.ensures in
    record {
      spans = omega (
        arith,
        spans,
        more_spans,
        one.spans,
        c.plus-sizes.ensures.spans (omega (arith, spans, more_spans, one.spans, c.requires.spans)),
      );
      cells = omega (
        arith,
        cells,
        more_cells,
        one.cells,
        c.plus-sizes.ensures.cells (omega (arith, cells, more_cells, one.cells, c.requires.cells)),
      );
    }

pub returns : goal.returns
returns c =
    let o = c.args.operator.now in
    let id = c.args.id.now in
    let left = sym c.in-None.ensures.steps.0 in
    let spans =
    ap (λ es. c.loop-key.sizes.spans + spans_beside id (rows_by o (filed_all es))) left
    ∙ c.loop-key.invariant.spans in
    let cells =
    ap (λ es. c.loop-key.sizes.cells + cells_beside id (rows_by o (filed_all es))) left
    ∙ c.loop-key.invariant.cells in
    same_sizes c.loop-key.sizes _ _ (omega (arith, spans, count_none row_spans id))
    (omega (arith, cells, count_none row_cells id))
