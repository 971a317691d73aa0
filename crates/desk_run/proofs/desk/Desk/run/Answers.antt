use Rattle.std.proofs.Common.{◌≤◌, ◌+◌, ◌∙◌, ◌∷◌, [], sym, ap, subst, length, SFits, w64, arith, rules}
use Rattle.std.proofs.lemmas.Int.{to_z-of_z}
use Rattle.std.proofs.lemmas.List.{length-append}
use Rattle.std.proofs.lemmas.Result.{on_ok_weaker}
use Rattle.desk_store.specs.World.{LeavesOldOr}
use Rattle.desk_store.proofs.lemmas.Fault.{was_honest}
use Rattle.desk_run.specs.Calls.{ReportsReply, Leaves, fault_in}
use Rattle.desk_run.specs.Verdicts.{step, world_of}
use Rattle.desk_run.proofs.lemmas.Crash.{risen_since}
use Rattle.desk_run.proofs.RunLemmas.{AreAnswered, one_answered, answered_is, found_next, same_on_err, settled_next, stopped_by}
use Rattle.desk_run.proofs.desk.Desk.run.Goals as goal

pub loop-moment-preserved : goal.loop-moment-preserved
loop-moment-preserved g c =
    let w = world_of g.S.PlanStore.content c.loop-moment.self in
    let calls = c.args.calls.now in
    let n = c.loop-moment.moment-index in
    let call = c.loop-moment-item.result in
    let fits : SFits w64 call.0 = search rules in
    let same = to_z-of_z w64 call.0 fits in
    let after = world_of g.S.PlanStore.content c.call.new.self in
    record {
      answered = λ honest.
          let done = answered_is w after call.0 call.1 c.call.result c.in-Ok.outcome
          (subst (λ m. ReportsReply w m call.1 c.call.result) same (c.call.ensures.reported honest))
          (on_ok_weaker c.call.result (λ e. e ∙ ap (λ m. step w call.1.operator m call.1.call) same)
          (c.call.ensures.ok honest))
          (same_on_err _ c.call.result c.call.ensures.leaves.same) (sym c.outcome_of.ensures ∙ c.in-Ok.is) in
          subst (λ os. AreAnswered (world_of g.S.PlanStore.content c.args.self.now) calls (n + 1) os after)
          (sym c.push_reserved.ensures.items)
          (one_answered (world_of g.S.PlanStore.content c.args.self.now) w after calls n
          c.loop-moment.outcomes.items
          call c.in-Ok.outcome
          (c.loop-moment.invariant.answered (was_honest c.call.ensures.leaves.remembered.doubt honest))
          c.loop-moment-test.true c.loop-moment-item.is done.0 done.1);
      settled = λ honest h.
          let done = answered_is w after call.0 call.1 c.call.result c.in-Ok.outcome
          (subst (λ m. ReportsReply w m call.1 c.call.result) same (c.call.ensures.reported honest))
          (on_ok_weaker c.call.result (λ e. e ∙ ap (λ m. step w call.1.operator m call.1.call) same)
          (c.call.ensures.ok honest))
          (same_on_err _ c.call.result c.call.ensures.leaves.same) (sym c.outcome_of.ensures ∙ c.in-Ok.is) in
          settled_next g.S.PlanStore c.loop-moment.self c.call.new.self call.0 call.1 c.call.result honest
          (subst (λ m. Leaves g.S.PlanStore c.loop-moment.self c.call.new.self
          (step w call.1.operator m call.1.call) (fault_in c.call.result)) same c.call.ensures.leaves) done.1
          (c.loop-moment.invariant.settled (was_honest c.call.ensures.leaves.remembered.doubt honest) h);
      count = ap length c.push_reserved.ensures.items
          ∙ length-append c.loop-moment.outcomes.items (c.in-Ok.outcome ∷ [])
          ∙ ap (λ k. k + 1) c.loop-moment.invariant.count;
      room = subst (λ k. length calls ≤ k) (sym c.push_reserved.ensures.capacity)
          c.loop-moment.invariant.room;
      doubt = omega (arith, c.loop-moment.invariant.doubt, c.call.ensures.leaves.remembered.doubt);
      counted = omega (arith, c.loop-moment.invariant.counted, c.call.ensures.leaves.remembered.counted);
      shield = λ s. c.call.ensures.leaves.remembered.shield (c.loop-moment.invariant.shield s);
    }

pub returns-in-Err-clause-kept : goal.returns-in-Err-clause-kept
returns-in-Err-clause-kept g c = λ honest settled found may.
    let w = world_of g.S.PlanStore.content c.loop-moment.self in
    let call = c.loop-moment-item.result in
    let old = was_honest c.call.ensures.leaves.remembered.doubt honest in
    let fits : SFits w64 call.0 = search rules in
    found_next (world_of g.S.PlanStore.content c.args.self.now) w c.args.calls.now
    c.loop-moment.moment-index c.loop-moment.outcomes.items call
    (g.S.PlanStore.may_leave c.loop-moment.self.store) found (c.loop-moment.invariant.answered old)
    c.loop-moment-test.true c.loop-moment-item.is (c.loop-moment.invariant.settled old settled found)
    (subst (λ m. LeavesOldOr (step w call.1.operator m call.1.call).content
    (g.S.PlanStore.may_leave c.loop-moment.self.store)
    (g.S.PlanStore.may_leave c.call.new.self.store)) (to_z-of_z w64 call.0 fits)
    (c.call.ensures.leaves.crash honest) found may)

pub returns-in-Err-clause-cause : goal.returns-in-Err-clause-cause
returns-in-Err-clause-cause g c = λ is.
    risen_since _ _ _ c.loop-moment.invariant.counted
    (c.call.ensures.leaves.cause (stopped_by c.call.result c.in-Err.fault
    (sym c.outcome_of.ensures ∙ c.in-Err.is) ∙ is))
