use Rattle.std.proofs.Common.{◌∙◌, ap, refl, w64, to_z, of_z, cond, None}
use Rattle.std.proofs.lemmas.Int.{to_z-of_z}
use Rattle.desk_rules.specs.declared.decide.Standing.{Standing}
use Rattle.desk_store.specs.World.{plans_of}
use Rattle.desk_store.proofs.lemmas.Fault.{was_honest}
use Rattle.desk_run.specs.Verdicts.{conflict_in, excess_asked}
use Rattle.desk_run.proofs.OutcomeLemmas.{outcome_if_needed}
use Rattle.desk_run.proofs.CallLemmas.{verdict_is}
use Rattle.desk_run.proofs.pending.put.verdict_on.Goals as goal

pub returns-clause-verdict : goal.returns-clause-verdict
returns-clause-verdict g c = λ honest.
    let o = c.args.operator.now in
    let put = c.args.put.now in
    let before = g.S.PlanStore.content c.args.store.now in
    let own = c.in_ok-stored in
    let second = to_z w64 (of_z w64 c.args.moment) in
    let needed = c.depends_on_conflict-needed.result in
    let terms = c.args.terms.now in
    let conflict = conflict_in terms.permitted before o put.id put.area put.priority in
    let summing = was_honest c.conflict_if.ensures.reads.doubt honest in
    let counting = was_honest c.excess_with.ensures.reads.doubt summing in
    let standing : Standing =
    record { own_rows = own.own_rows; ceiling = c.args.ceiling; excess = c.in_ok-excess.excess } in
    verdict_is terms before o put second c.args.moment own.stored standing conflict c.decide_under.result
    (c.decide_under.ensures
    ∙ outcome_if_needed put second own.stored standing needed conflict
    c.in_ok-meeting.meeting c.depends_on_conflict-needed.ensures.settled
    (c.in_ok-meeting.ensures.value honest
    ∙ ap (λ w. cond needed (conflict_in terms.permitted w o put.id put.area put.priority) None)
    (c.excess_with.ensures.reads.same ∙ c.states_and_count.ensures.reads.same)))
    (to_z-of_z w64 c.args.moment c.ranges.moment)
    (own.ensures.stored counting)
    (own.ensures.count counting)
    (c.in_ok-excess.ensures.value summing
    ∙ ap (λ w. excess_asked terms (plans_of o w) put) c.states_and_count.ensures.reads.same)
    refl
