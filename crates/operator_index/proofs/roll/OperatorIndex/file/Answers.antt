use Rattle.std.proofs.Common.{IsSome, refl, subst}
use Rattle.desk_store.specs.Changes.{filed_by}
use Rattle.operator_index.proofs.lemmas.Roll.{filed_more}
use Rattle.operator_index.proofs.roll.OperatorIndex.file.Goals as goal

pub returns-in_ok-append_plan : goal.returns-in_ok-append_plan
returns-in_ok-append_plan c = λ ls ps h.
    let some = subst IsSome c.in-Some.ensures.value refl in
    filed_more (filed_by c.args.operator.now c.args.row.now) c.ensure_account.new.accounts.entries _
    c.in-Some.account.now c.append_plan.new.self ls ps
    (record { each = ((c.get_mut.follows.holds _).3 some).0 }) c.in-Some.ensures.value
    (c.ensure_account.ensures.kept ls ps h) c.append_plan.ensures.ceiling c.in_ok-append_plan.ensures.plans
