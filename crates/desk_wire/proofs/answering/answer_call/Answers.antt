use Rattle.std.proofs.Common.{Err, ◌∙◌, ap, subst}
use Rattle.std.proofs.lemmas.Result.{IfOk-weaker, on_ok_weaker}
use Rattle.desk_store.specs.Changes.{IsHonest}
use Rattle.desk_store.proofs.lemmas.Fault.{was_honest}
use Rattle.desk_run.specs.Verdicts.{world_of, unknown_operator, no_such_plan}
use Rattle.desk_run.specs.Calls.{IsPending, Prepares, world_committed}
use Rattle.io_ends.proofs.lemmas.Moment.{same_moment}
use Rattle.desk_wire.specs.Bytes.{status, text, failure_of}
use Rattle.desk_wire.proofs.BytesLemmas.{change_unanswered, done_if_ok, done_unanswered, status_pending, status_unanswered}
use Rattle.desk_run.proofs.lemmas.Crash.{leaves_after, leaves_read}
use Rattle.desk_wire.proofs.LeavingLemmas.{made_if, no_500, not_store}
use Rattle.desk_wire.proofs.answering.answer_call.Goals as goal

-- the reply that is pending, and its status code
pub returns-in-Ok-clause-made : goal.returns-in-Ok-clause-made
returns-in-Ok-clause-made g c =
    let w = world_of g.S.PlanStore.content c.args.desk.now in
    let after = world_of g.S.PlanStore.content c.answer_pending.new.desk in
    let H = IsHonest (g.S.PlanStore.doubt c.answer_pending.new.desk.store) in
    let same = same_moment c.args.moment.second c.args.moment.in_range in
    let pending : H → IsPending w c.args.moment.second c.args.asked.now c.in-Ok.pending = λ honest.
    subst (λ m. IsPending w m c.args.asked.now c.in-Ok.pending) same
    (c.in-Ok.ensures.value (was_honest c.answer_pending.ensures.leaves.remembered.doubt honest)) in
    made_if H c.answer_pending.result w c.args.moment.second _ after
    (λ honest. done_if_ok (λ r. r.bytes.items) c.answer_pending.result w after c.args.moment.second
    c.args.asked.now c.in-Ok.pending (pending honest) c.answer_pending.ensures.bytes
    (on_ok_weaker c.answer_pending.result (λ e. e ∙ ap (λ v. world_committed v c.in-Ok.pending)
    c.prepare.ensures.same) (c.answer_pending.ensures.ok honest)))
    (λ honest. IfOk-weaker c.answer_pending.result _ _ (λ r reported. reported
    ∙ status_pending w c.args.moment.second c.args.asked.now c.in-Ok.pending (pending honest))
    c.answer_pending.ensures.status)
    (no_500 c.answer_pending.result c.answer_pending.ensures.status)
    (λ honest. IfOk-weaker c.answer_pending.result _ _ (λ r reported. reported ∙ (pending honest).change_is)
    c.answer_pending.ensures.change)

pub returns-in-Err-UnknownOperator-clause-made : goal.returns-in-Err-UnknownOperator-clause-made
unfolding status text
returns-in-Err-UnknownOperator-clause-made g c =
    let w = world_of g.S.PlanStore.content c.args.desk.now in
    let after = world_of g.S.PlanStore.content c.prepare.new.self in
    let H = IsHonest (g.S.PlanStore.doubt c.prepare.new.self.store) in
    let fault : H
    → Prepares w c.args.moment.second c.args.asked.now (Err c.in-Err-UnknownOperator.field-0) =
    λ honest. subst (λ m. Prepares w m c.args.asked.now (Err c.in-Err-UnknownOperator.field-0))
    (same_moment c.args.moment.second c.args.moment.in_range)
    (c.in-Err-UnknownOperator.ensures.value honest) in
    made_if H c.refuse.result w c.args.moment.second _ after
    (λ honest. IfOk-weaker c.refuse.result _ _ (λ r reported.
    done_unanswered w after c.args.moment.second c.args.asked.now unknown_operator r.bytes.items
    (rw c.in-Err-UnknownOperator.field-0-is at fault honest) reported c.prepare.ensures.same)
    c.refuse.ensures.bytes)
    (λ honest. IfOk-weaker c.refuse.result _ _ (λ r reported. reported
    ∙ status_unanswered w c.args.moment.second c.args.asked.now unknown_operator
    (rw c.in-Err-UnknownOperator.field-0-is at fault honest)) c.refuse.ensures.status)
    c.refuse.ensures.not_500
    (λ honest. IfOk-weaker c.refuse.result _ _ (λ r reported. reported
    ∙ change_unanswered w c.args.moment.second c.args.asked.now unknown_operator
    (rw c.in-Err-UnknownOperator.field-0-is at fault honest)) c.refuse.ensures.change)

pub returns-in-Err-NoSuchPlan-clause-made : goal.returns-in-Err-NoSuchPlan-clause-made
unfolding status text
returns-in-Err-NoSuchPlan-clause-made g c =
    let w = world_of g.S.PlanStore.content c.args.desk.now in
    let after = world_of g.S.PlanStore.content c.prepare.new.self in
    let H = IsHonest (g.S.PlanStore.doubt c.prepare.new.self.store) in
    let fault : H → Prepares w c.args.moment.second c.args.asked.now (Err c.in-Err-NoSuchPlan.field-0) =
    λ honest. subst (λ m. Prepares w m c.args.asked.now (Err c.in-Err-NoSuchPlan.field-0))
    (same_moment c.args.moment.second c.args.moment.in_range) (c.in-Err-NoSuchPlan.ensures.value honest) in
    made_if H c.refuse-in-Err-NoSuchPlan.result w c.args.moment.second _ after
    (λ honest. IfOk-weaker c.refuse-in-Err-NoSuchPlan.result _ _ (λ r reported.
    done_unanswered w after c.args.moment.second c.args.asked.now no_such_plan r.bytes.items
    (rw c.in-Err-NoSuchPlan.field-0-is at fault honest) reported c.prepare.ensures.same)
    c.refuse-in-Err-NoSuchPlan.ensures.bytes)
    (λ honest. IfOk-weaker c.refuse-in-Err-NoSuchPlan.result _ _ (λ r reported. reported
    ∙ status_unanswered w c.args.moment.second c.args.asked.now no_such_plan
    (rw c.in-Err-NoSuchPlan.field-0-is at fault honest)) c.refuse-in-Err-NoSuchPlan.ensures.status)
    c.refuse-in-Err-NoSuchPlan.ensures.not_500
    (λ honest. IfOk-weaker c.refuse-in-Err-NoSuchPlan.result _ _ (λ r reported. reported
    ∙ change_unanswered w c.args.moment.second c.args.asked.now no_such_plan
    (rw c.in-Err-NoSuchPlan.field-0-is at fault honest)) c.refuse-in-Err-NoSuchPlan.ensures.change)

-- nothing but the commit changes the content
pub returns-in-Ok-clause-leaves : goal.returns-in-Ok-clause-leaves
returns-in-Ok-clause-leaves g c =
    let w = world_of g.S.PlanStore.content c.args.desk.now in
    leaves_after g.S.PlanStore c.args.desk.now c.prepare.new.self c.answer_pending.new.desk _ _ _
    c.prepare.ensures.same c.prepare.ensures.crash c.prepare.ensures.remembered
    c.answer_pending.ensures.leaves
    (λ before. ap (λ v. (world_committed v c.in-Ok.pending).content) c.prepare.ensures.same
    ∙ ap (λ v. v.content) (subst (λ m. IsPending w m c.args.asked.now c.in-Ok.pending)
    (same_moment c.args.moment.second c.args.moment.in_range) (c.in-Ok.ensures.value before)).left)

pub returns-in-Err-UnknownOperator-clause-leaves : goal.returns-in-Err-UnknownOperator-clause-leaves
returns-in-Err-UnknownOperator-clause-leaves g c =
    leaves_read g.S.PlanStore c.args.desk.now c.prepare.new.self _ (failure_of c.refuse.result)
    c.prepare.ensures.same c.prepare.ensures.crash c.prepare.ensures.remembered
    (λ said. absurd (not_store c.refuse.result c.refuse.ensures.error said))

pub returns-in-Err-NoSuchPlan-clause-leaves : goal.returns-in-Err-NoSuchPlan-clause-leaves
returns-in-Err-NoSuchPlan-clause-leaves g c =
    leaves_read g.S.PlanStore c.args.desk.now c.prepare.new.self _
    (failure_of c.refuse-in-Err-NoSuchPlan.result) c.prepare.ensures.same c.prepare.ensures.crash
    c.prepare.ensures.remembered (λ said. absurd
    (not_store c.refuse-in-Err-NoSuchPlan.result c.refuse-in-Err-NoSuchPlan.ensures.error said))
