use mir.Syntax.{w64}
use Rattle.std.proofs.Common.{◌∙◌, subst}
use Rattle.std.proofs.lemmas.Int.{to_z-of_z}
use Rattle.row_codec.specs.SpanBounds.{IsKnown}
use Rattle.row_codec.proofs.span_bounds.SpanBounds.with.Goals as goal

pub returns-then-first-last-clause-known : goal.returns-then-first-last-clause-known
returns-then-first-last-clause-known c = λ a b begins ends.
    subst (λ last. IsKnown c.with_span.result (record { first = a; last = last }))
    (c.position_of-then-first-last.ensures b (to_z-of_z w64 c.args.last c.ranges.last ∙ ends))
    (subst (λ first. IsKnown c.with_span.result
    (record { first = first; last = c.position_of-then-first-last.result }))
    (c.position_of.ensures a (to_z-of_z w64 c.args.first c.ranges.first ∙ begins))
    c.with_span.ensures.known)
