use Rattle.std.proofs.Common.{◌∙◌, ap, arith, map, sym}
use Rattle.std.proofs.lemmas.List.{take_all}
use Rattle.desk_cli.specs.Grammar.{priority_in}
use Rattle.desk_cli.proofs.EqualLemmas.{by_texts}
use Rattle.desk_cli.proofs.LackLemmas.{all_read}
use Rattle.desk_cli.proofs.equal.parse_priorities.Goals as goal

pub returns-clause-given : goal.returns-clause-given
returns-clause-given c =
    c.loop-part.invariant
    ∙ ap (map (λ part. priority_in part.now))
    (take_all c.loop-part.part-index c.args.parts.now (omega (arith, c.loop-part-test.false)))
    ∙ by_texts c.args.parts.now

pub returns-in_default-clause-refused : goal.returns-in_default-clause-refused
returns-in_default-clause-refused c = λ ps read.
    all_read (λ part. priority_in part.now) c.args.parts.now ps c.loop-part.part-index _ c.loop-part-test.true
    (sym c.parse_priority.ensures.parsed ∙ c.in_default.is) (read ∙ sym (by_texts c.args.parts.now))
