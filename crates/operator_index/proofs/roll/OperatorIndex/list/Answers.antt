use Rattle.std.proofs.Common.{IsSome, refl, subst}
use Rattle.operator_index.proofs.lemmas.Roll.{listed_more}
use Rattle.operator_index.proofs.roll.OperatorIndex.list.Goals as goal

pub returns-in-Some : goal.returns-in-Some
returns-in-Some c = λ ls ps h.
    let some = subst IsSome c.in-Some.ensures.value refl in
    listed_more c.args.operator.now c.args.ceiling c.ensure_account.new.accounts.entries _ c.in-Some.account.now
    c.set_first_ceiling.new.self ls ps (record { each = ((c.get_mut.follows.holds _).3 some).0 }) c.in-Some.ensures.value
    (c.ensure_account.ensures.kept ls ps h) c.set_first_ceiling.ensures.ceiling c.set_first_ceiling.ensures.plans
