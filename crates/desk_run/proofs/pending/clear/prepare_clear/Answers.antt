use Rattle.std.proofs.Common.{◌∙◌, subst}
use Rattle.desk_store.proofs.lemmas.Fault.{was_honest}
use Rattle.desk_store.proofs.lemmas.Order.{rows_sorted}
use Rattle.desk_run.specs.Calls.{IsClearing, ids_in}
use Rattle.desk_run.proofs.ClearLemmas.{slabs_alone, clearing_ready}
use Rattle.desk_run.proofs.pending.clear.prepare_clear.Goals as goal

pub returns-clause-value : goal.returns-clause-value
returns-clause-value g c = λ honest.
    let extent = c.args.extent.now in
    let listed = c.in_ok-rows.ensures.value honest in
    clearing_ready (g.S.PlanStore.content c.args.store.now) c.args.operator.now extent
    c.in_ok-pending_clear.field-0
    (subst (λ rows. IsClearing c.args.operator.now (ids_in extent rows) c.in_ok-pending_clear.field-0)
    (c.deref-2.ensures.value ∙ listed)
    (c.in_ok-pending_clear.ensures extent (slabs_alone extent c.deref.result.now c.in_ok-slabs.field-0.items
    c.deref.ensures.value c.in_ok-slabs.ensures.points)))
    (rows_sorted c.args.operator.now (g.S.PlanStore.content c.args.store.now).plans
    (c.in_ok-rows.ensures.content honest).world.plans)
    ((c.in_ok-rows.ensures.content honest).world.rows c.args.operator.now)
    (c.requires (was_honest c.own_plans.ensures.reads.doubt honest))
