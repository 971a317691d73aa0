use Rattle.row_codec.proofs.lemmas.SpanBound.{bounds_after}
use Rattle.row_codec.proofs.known.MemoryIndex.update_after.Goals as goal

pub returns : goal.returns
returns c = λ w was. record {
  span_bounds = bounds_after c.args.self.now.span_bounds c.args.span_bounds c.args.change.now w
      was.span_bounds
      c.requires.kept c.requires.brings;
  live = c.update_after.ensures.kept w was.live;
  roll = c.update_after-2.ensures w was.roll;
}
