use Rattle.std.proofs.Common.{refl}
use Rattle.desk_run.proofs.CallLemmas.{list_ready}
use Rattle.desk_run.proofs.pending.show.prepare_list.Goals as goal

pub returns-clause-value : goal.returns-clause-value
returns-clause-value g c = λ honest.
    list_ready c.args.permitted.now (g.S.PlanStore.content c.args.store.now) c.args.operator.now
    c.in_ok-plans.plans.items _
    (c.in_ok-plans.ensures.value honest) refl
