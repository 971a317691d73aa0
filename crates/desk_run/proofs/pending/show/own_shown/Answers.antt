use Rattle.desk_store.proofs.lemmas.Fault.{was_honest}
use Rattle.desk_run.proofs.ListingLemmas.{listed_shown}
use Rattle.desk_run.proofs.pending.show.own_shown.Goals as goal

pub returns-clause-value : goal.returns-clause-value
returns-clause-value g c = λ honest.
    let w = g.S.PlanStore.content c.args.store.now in
    listed_shown c.args.permitted.now w (g.S.PlanStore.content c.own_listed.new.store) c.args.operator.now
    c.in_ok-plans.plans.items c.deref.result.now c.deref-2.result.now c.in_ok-others.others.items
    c.deref-3.result.now c.in_ok-all_shown.field-0.items
    (c.in_ok-plans.ensures.value (was_honest c.others_near.ensures.reads.doubt honest))
    c.own_listed.ensures.reads.same c.deref.ensures.value c.deref-2.ensures.value c.deref-3.ensures.value
    (c.in_ok-others.ensures.value honest) c.in_ok-all_shown.ensures
