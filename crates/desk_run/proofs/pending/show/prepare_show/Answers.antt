use Rattle.desk_store.proofs.lemmas.Fault.{was_honest}
use Rattle.desk_run.proofs.CallLemmas.{show_ready}
use Rattle.desk_run.proofs.pending.show.prepare_show.Goals as goal

pub returns-clause-value : goal.returns-clause-value
returns-clause-value g c = λ honest.
    show_ready c.args.permitted.now (g.S.PlanStore.content c.args.store.now)
    (g.S.PlanStore.content c.plan.new.self)
    c.args.operator.now c.args.id.now c.in_ok-row.field-0 c.in-Some.row c.in_ok-plan.plan
    (c.in_ok-row.ensures.value (was_honest c.shown.ensures.reads.doubt honest)) c.in-Some.is
    c.plan.ensures.reads.same
    (c.in_ok-plan.ensures.value honest)
