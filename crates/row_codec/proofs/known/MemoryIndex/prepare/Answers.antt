use Rattle.row_codec.proofs.known.MemoryIndex.prepare.Goals as goal

pub returns-clause-kept : goal.returns-clause-kept
returns-clause-kept c = λ w was. record {
  span_bounds = was.span_bounds;
  live = c.prepare-2.ensures.kept w was.live;
  roll = c.prepare.ensures.kept w was.roll;
}
