use Rattle.desk_store.proofs.lemmas.Fault.{was_honest}
use Rattle.desk_run.proofs.CallLemmas.{delete_ready}
use Rattle.desk_run.proofs.pending.delete.prepare_delete.Goals as goal

pub returns-clause-value : goal.returns-clause-value
returns-clause-value g c = λ honest. delete_ready (g.S.PlanStore.content c.args.store.now) c.args.operator.now
    c.args.id.now c.in_ok-states.field-0 (c.in_ok-states.ensures.value honest) c.if-is_none.ensures
    (c.requires (was_honest c.states.ensures.reads.doubt honest))
