use Rattle.std.proofs.Common.{◌≡◌, Some, map, take}
use Rattle.desk_cli.specs.Grammar.{enrolment_in}
use Rattle.desk_cli.specs.Lines.{AreEnrolments}
use Rattle.desk_cli.proofs.line.parse_enrolments.Given as goal

abbrev pub invariant-loop-word : goal.invariant-loop-word
invariant-loop-word l = record {
  small : AreEnrolments l.enrolments.items;
  given : map Some l.enrolments.items ≡ map (λ word. enrolment_in word.now) (take l.word-index l.words);
}
