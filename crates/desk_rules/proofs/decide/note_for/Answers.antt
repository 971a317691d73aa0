use Rattle.std.proofs.Common.{rules, sym, ◌∙◌}
use Rattle.desk_rules.proofs.RefusalLemmas.{checked_limit, reported_limits}
use Rattle.desk_rules.proofs.decide.note_for.Goals as goal

pub returns-in-Some : goal.returns-in-Some
returns-in-Some c =
    sym
    (checked_limit c.args.call.now c.args.moment c.args.stored c.args.standing.now c.args.blocked
    c.in-Check.field-0 c.in-Some.note (search rules) (search rules) (search rules) (search rules)
    (sym c.over_limit.ensures ∙ c.in-Some.is))

pub returns-in-Report : goal.returns-in-Report
returns-in-Report c =
    c.over_limit-in-Report.ensures
    ∙ sym
    (reported_limits c.args.call.now c.args.moment c.args.stored c.args.standing.now c.args.blocked
    c.in-Report.field-0 (search rules) (search rules))
