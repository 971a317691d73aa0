use Rattle.desk_cli.proofs.RegisterLemmas.{line_added}
use Rattle.desk_cli.proofs.register.parse_enrolment_lines.Goals as goal

pub loop-line-preserved : goal.loop-line-preserved
loop-line-preserved c = record {
  small = c.in_ok-add_enrolment.ensures.in_range c.loop-line.invariant.small;
  value = line_added c.args.lines.now c.loop-line.line-index _ c.loop-line.enrolments.items
      c.add_enrolment.new.enrolments.items c.loop-line-test.true c.in_ok-add_enrolment.ensures.value
      c.loop-line.invariant.value;
}
