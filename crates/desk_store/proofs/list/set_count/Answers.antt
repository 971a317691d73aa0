use Rattle.std.proofs.Common.{◌∙◌, ap, sym}
use Rattle.desk_store.proofs.CountLemmas.{count_written, count_unwritten}
use Rattle.desk_store.proofs.list.set_count.Goals as goal

pub returns-in-Some : goal.returns-in-Some
returns-in-Some c = (c.get_mut.follows.holds _).0 ∙ count_written c.args.operator.now c.args.count
    c.in-Some.enrolment.now c.args.operators.now.entries c.get_mut.ensures.ordered
    (sym c.in-Some.ensures.value)

pub returns-in_default : goal.returns-in_default
returns-in_default c = ap (λ m. m.entries) c.get_mut.follows.holds-at-none
    ∙ count_unwritten c.args.operator.now c.args.count c.args.operators.now.entries
    (sym c.in_default.ensures.value)
