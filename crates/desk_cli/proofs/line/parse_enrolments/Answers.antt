use Rattle.std.proofs.Common.{◌∙◌, ◌∷◌, ◌≤◌, [], subst, sym}
use Rattle.std.proofs.lemmas.List.Elements.{All-append, All-cons, All-nil}
use Rattle.desk_rules.specs.Limits.{max_priority}
use Rattle.desk_cli.specs.Grammar.{enrolment_in}
use Rattle.desk_cli.specs.Lines.{AreEnrolments}
use Rattle.desk_cli.proofs.LackLemmas.{all_read, one_read}
use Rattle.desk_cli.proofs.line.parse_enrolments.Goals as goal

pub returns-in_default-clause-refused : goal.returns-in_default-clause-refused
returns-in_default-clause-refused c = λ es read.
    all_read (λ word. enrolment_in word.now) c.args.words.now es c.loop-word.word-index _
    c.loop-word-test.true (sym c.parse_enrolment.ensures.parsed ∙ c.in_default.is) read

pub loop-word-preserved : goal.loop-word-preserved
loop-word-preserved c =
    let e = c.in-Some.enrolment in
    let old = c.loop-word.enrolments.items in
    record {
      small = subst AreEnrolments (sym c.in_ok-push.ensures.items)
          (All-append (λ x. x.ceiling ≤ max_priority) old (e ∷ []) c.loop-word.invariant.small
          (All-cons (λ x. x.ceiling ≤ max_priority) e [] c.in-Some.ensures.in_range
          (All-nil (λ x. x.ceiling ≤ max_priority))));
      given = one_read (λ word. enrolment_in word.now) c.args.words.now old c.push.new.self.items
          c.loop-word.word-index _ e c.loop-word-test.true c.in_ok-push.ensures.items
          (sym c.parse_enrolment.ensures.parsed ∙ c.in-Some.is) c.loop-word.invariant.given;
    }
