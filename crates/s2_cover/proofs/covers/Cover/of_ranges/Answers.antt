use Rattle.std.proofs.Common.{sym, ap, ◌∙◌}
use Rattle.s2_cover.specs.Covers.{leaves_of, spans_have}
use Rattle.s2_cover.proofs.Laid.{canonical_same}
use Rattle.s2_cover.proofs.covers.Cover.of_ranges.Goals as goal

pub invariant_of-result : goal.invariant_of-result
invariant_of-result c =
    let reported = c.in_ok-cells.ensures in
    let ids = c.in_ok-cells.cells.items in
    canonical_same (spans_have c.spans.result.now) (leaves_of ids) ids (λ p. sym (reported.leaves p))
    reported.canonical

pub returns-clause-canonical : goal.returns-clause-canonical
returns-clause-canonical c set ranges =
    canonical_same (spans_have c.spans.result.now) set c.in_ok-cells.cells.items
    (λ p. ap (λ spans. spans_have spans p) c.spans.ensures.value ∙ ranges.positions p)
    c.in_ok-cells.ensures.canonical
