use Rattle.std.proofs.Common.{◌≡◌, map, take}
use Rattle.desk_cli.specs.Lines.{AreEnrolments}
use Rattle.desk_cli.specs.Malformed.{parse_enrolment_lines}
use Rattle.desk_cli.proofs.register.parse_enrolment_lines.Given as goal

abbrev pub invariant-loop-line : goal.invariant-loop-line
invariant-loop-line l = record {
  small : AreEnrolments l.enrolments.items;
  value : l.enrolments.items ≡ parse_enrolment_lines (map (λ line. line.now) (take l.line-index l.lines));
}
