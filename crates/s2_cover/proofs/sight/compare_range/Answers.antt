use Rattle.std.proofs.Common.{arith}
use Rattle.s2_cover.proofs.Sights.{after_all, within_all, across_low, across_high}
use Rattle.s2_cover.proofs.sight.compare_range.Goals as goal
use Rattle.s2_cover.proofs.sight.compare_range.Goals.{else-least-low-via-then-least-low+else-high-greatest, else-least-low-via-else-least-low}

pub returns-then-greatest-low-clause-is_overlap : goal.returns-then-greatest-low-clause-is_overlap
returns-then-greatest-low-clause-is_overlap c =
    after_all c.args.side c.args.least c.args.greatest c.args.span.0 c.args.span.1 c.requires.side
    c.if-greatest-low.true

pub returns-then-high-greatest-clause-is_overlap : goal.returns-then-high-greatest-clause-is_overlap
returns-then-high-greatest-clause-is_overlap c =
    within_all c.args.side c.args.least c.args.greatest c.args.span.0 c.args.span.1 c.requires.side
    c.if-least-low.true c.if-high-greatest.true

pub returns-clause-is_overlap : goal.returns-clause-is_overlap
returns-clause-is_overlap c = elim c.else-least-low.branch [
  | else-least-low-via-then-least-low+else-high-greatest w ↦
      across_high c.args.side c.args.least c.args.greatest c.args.span.0 c.args.span.1 c.requires.span
      w.if-least-low.true (omega (arith, c.if-greatest-low.false))
      (omega (arith, w.if-high-greatest.false))
  | else-least-low-via-else-least-low w ↦
      across_low c.args.side c.args.least c.args.greatest c.args.span.0 c.args.span.1 c.requires.side
      c.requires.span c.requires.order (omega (arith, w.if-least-low.false))
      (omega (arith, c.if-high-least.false))
]
