use Rattle.std.proofs.Common.{◌≡◌, ◌≤◌, ◌+◌, ◌-◌, ◌∙◌, [], ◌∷◌, map, option_map, sym, ap, subst, length, arith}
use Rattle.std.proofs.lemmas.List.{length-append, length-map}
use Rattle.request_parser.specs.Messages.{message_read}
use Rattle.desk_store.proofs.lemmas.Fault.{was_honest}
use Rattle.desk_run.specs.Verdicts.{world_of}
use Rattle.desk_wire.specs.Bytes.{AreBroken, IsLastAnswer, desk_fault}
use Rattle.desk_wire.specs.declared.batch.AnswersEnd.TheVariants.{All, Broken, NoMemory}
use Rattle.desk_wire.proofs.GivenLemmas.{given_quiet}
use Rattle.desk_wire.specs.Given.{IsFoundInRequests}
use Rattle.desk_run.proofs.lemmas.Crash.{risen_since}
use Rattle.desk_wire.proofs.CauseLemmas.{failed_there, last_said, not_none}
use Rattle.desk_wire.proofs.AllLemmas.{HaveAnswers, one_answered, cut_answered, all_answered, done_so, failed_so}
use Rattle.desk_wire.proofs.KeptLemmas.{found_next, found_settled, is_none_by}
use Rattle.desk_wire.proofs.batch.answer_all.Goals as goal

pub loop-moment-preserved : goal.loop-moment-preserved
loop-moment-preserved g c =
    let requests = c.args.requests.now in
    let n = c.loop-moment.moment-index in
    let r = c.loop-moment-item.result in
    let w = world_of g.S.PlanStore.content c.args.desk.now in
    let now = world_of g.S.PlanStore.content c.loop-moment.desk in
    let after = world_of g.S.PlanStore.content c.answer_request-answer.new.desk in
    let none = sym c.is_some.ensures ∙ c.if-is_some.false in
    record {
      answered = λ honest.
          let done = done_so now after r.0.second c.deref.result.now r.1.items
          (message_read c.read_message.result)
          c.in-Ok.field-0.bytes.items c.in-Ok.field-0.error none c.read_message.ensures
          c.deref.ensures.value (c.in-Ok.ensures.reported.bytes honest) in
          subst (λ xs. HaveAnswers (λ q. (q.0.second, q.1.items)) (λ v. v.items) w requests (n + 1) xs after)
          (sym c.push_reserved.ensures.items)
          (one_answered (λ q. (q.0.second, q.1.items)) (λ v. v.items) w now after requests n
          c.loop-moment.answers.items r c.in-Ok.field-0.bytes
          (c.loop-moment.invariant.answered
          (was_honest c.answer_request-answer.ensures.leaves.remembered.doubt honest))
          c.loop-moment-test.true c.loop-moment-item.is done);
      settled = λ honest h. c.in-Ok.ensures.leaves.kept honest
          (ap (option_map desk_fault) (is_none_by c.in-Ok.field-0.error none))
          (c.loop-moment.invariant.settled
          (was_honest c.answer_request-answer.ensures.leaves.remembered.doubt honest) h);
      count = ap length c.push_reserved.ensures.items
          ∙ length-append c.loop-moment.answers.items (c.in-Ok.field-0.bytes ∷ [])
          ∙ ap (λ k. k + 1) c.loop-moment.invariant.count;
      room = subst (λ k. length requests ≤ k) (sym c.push_reserved.ensures.capacity)
          c.loop-moment.invariant.room;
      doubt = omega (
        arith,
        c.loop-moment.invariant.doubt,
        c.answer_request-answer.ensures.leaves.remembered.doubt,
      );
      counted = omega (
        arith,
        c.loop-moment.invariant.counted,
        c.answer_request-answer.ensures.leaves.remembered.counted,
      );
      shield = λ s. c.answer_request-answer.ensures.leaves.remembered.shield
          (c.loop-moment.invariant.shield s);
    }

pub returns-in_default-clause-answers : goal.returns-in_default-clause-answers
returns-in_default-clause-answers g c = λ honest.
    cut_answered (λ q. (q.0.second, q.1.items)) (λ v. v.items)
    (world_of g.S.PlanStore.content c.args.desk.now) (world_of g.S.PlanStore.content c.loop-moment.desk)
    (world_of g.S.PlanStore.content c.answer_request-answer.new.desk)
    c.args.requests.now c.loop-moment.moment-index c.loop-moment.answers.items
    (c.loop-moment.invariant.answered (was_honest c.answer_request-answer.ensures.leaves.remembered.doubt
    honest))
    c.loop-moment-test.true c.in_default.ensures.leaves.same

pub returns-then-is_some-clause-answers : goal.returns-then-is_some-clause-answers
returns-then-is_some-clause-answers g c = λ honest.
    let some = sym c.is_some.ensures ∙ c.if-is_some.true in
    let w = world_of g.S.PlanStore.content c.args.desk.now in
    let after = world_of g.S.PlanStore.content c.answer_request-answer.new.desk in
    subst (λ xs. AreBroken w (map (λ q. (q.0.second, q.1.items)) c.args.requests.now)
    (map (λ v. v.items) xs) after)
    (sym c.push_reserved.ensures.items)
    (failed_so (λ q. (q.0.second, q.1.items)) (λ v. v.items) w
    (world_of g.S.PlanStore.content c.loop-moment.desk) after _ _
    c.args.requests.now c.loop-moment.moment-index c.loop-moment.answers.items c.in-Ok.field-0.bytes
    c.in-Ok.field-0.error some (c.in-Ok.ensures.reported.bytes honest)
    (c.loop-moment.invariant.answered (was_honest c.answer_request-answer.ensures.leaves.remembered.doubt
    honest))
    c.loop-moment-test.true)

pub returns-clause-answers : goal.returns-clause-answers
returns-clause-answers g c = λ honest.
    all_answered (λ q. (q.0.second, q.1.items)) (λ v. v.items)
    (world_of g.S.PlanStore.content c.args.desk.now) (world_of g.S.PlanStore.content c.loop-moment.desk)
    c.args.requests.now c.loop-moment.moment-index
    c.loop-moment.answers.items (c.loop-moment.invariant.answered honest) c.loop-moment-test.false

-- an operator that sent nothing owns what it did, by the clause of the answers
pub returns-in_default-clause-quiet : goal.returns-in_default-clause-quiet
returns-in_default-clause-quiet g c = λ honest o none.
    given_quiet NoMemory _ _ _ _ o (returns-in_default-clause-answers g c honest) none

pub returns-then-is_some-clause-quiet : goal.returns-then-is_some-clause-quiet
returns-then-is_some-clause-quiet g c = λ honest o none.
    given_quiet Broken _ _ _ _ o (returns-then-is_some-clause-answers g c honest) none

pub returns-clause-quiet : goal.returns-clause-quiet
returns-clause-quiet g c = λ honest o none.
    given_quiet All _ _ _ _ o (returns-clause-answers g c honest) none

-- what is found is what the answered requests left, or these and the next one
pub returns-in_default-clause-kept : goal.returns-in_default-clause-kept
returns-in_default-clause-kept g c = λ honest settled found may.
    let requests = c.args.requests.now in
    let n = c.loop-moment.moment-index in
    let r = c.loop-moment-item.result in
    let w = world_of g.S.PlanStore.content c.args.desk.now in
    let now = world_of g.S.PlanStore.content c.loop-moment.desk in
    let old = was_honest c.answer_request-answer.ensures.leaves.remembered.doubt honest in
    let finds = found_next (λ q. (q.0.second, q.1.items)) (λ v. v.items) w now requests n
    c.loop-moment.answers.items r
    (g.S.PlanStore.may_leave c.loop-moment.desk.store) r.0.second c.deref.result.now
    (message_read c.read_message.result) found (c.loop-moment.invariant.answered old)
    c.loop-moment-test.true c.loop-moment-item.is (ap (λ t. (r.0.second, t)) (sym c.deref.ensures.value))
    c.read_message.ensures (c.loop-moment.invariant.settled old settled found)
    (c.answer_request-answer.ensures.leaves.crash honest found may) in
    let count : n ≡ length (map (λ v. v.items) c.loop-moment.answers.items) =
    sym (length-map c.loop-moment.answers.items (λ v. v.items) ∙ c.loop-moment.invariant.count) in
    subst (λ k. IsFoundInRequests w (map (λ q. (q.0.second, q.1.items)) requests) k found) count finds

pub returns-then-is_some-clause-kept : goal.returns-then-is_some-clause-kept
returns-then-is_some-clause-kept g c = λ honest settled found may.
    let requests = c.args.requests.now in
    let n = c.loop-moment.moment-index in
    let r = c.loop-moment-item.result in
    let w = world_of g.S.PlanStore.content c.args.desk.now in
    let now = world_of g.S.PlanStore.content c.loop-moment.desk in
    let old = was_honest c.answer_request-answer.ensures.leaves.remembered.doubt honest in
    let finds = found_next (λ q. (q.0.second, q.1.items)) (λ v. v.items) w now requests n
    c.loop-moment.answers.items r
    (g.S.PlanStore.may_leave c.loop-moment.desk.store) r.0.second c.deref.result.now
    (message_read c.read_message.result) found (c.loop-moment.invariant.answered old)
    c.loop-moment-test.true c.loop-moment-item.is (ap (λ t. (r.0.second, t)) (sym c.deref.ensures.value))
    c.read_message.ensures (c.loop-moment.invariant.settled old settled found)
    (c.answer_request-answer.ensures.leaves.crash honest found may) in
    let size = ap length c.push_reserved.ensures.items
    ∙ length-append c.loop-moment.answers.items (c.in-Ok.field-0.bytes ∷ []) in
    let count : n ≡ length (map (λ v. v.items) c.push_reserved.new.self.items) - 1 =
    omega (
      arith,
      size,
      c.loop-moment.invariant.count,
      length-map c.push_reserved.new.self.items (λ v. v.items),
    ) in
    subst (λ k. IsFoundInRequests w (map (λ q. (q.0.second, q.1.items)) requests) k found) count finds

pub returns-clause-kept : goal.returns-clause-kept
returns-clause-kept g c = λ honest settled found may.
    let w = world_of g.S.PlanStore.content c.args.desk.now in
    let requests = c.args.requests.now in
    let count : c.loop-moment.moment-index ≡ length (map (λ v. v.items) c.loop-moment.answers.items) =
    sym (length-map c.loop-moment.answers.items (λ v. v.items) ∙ c.loop-moment.invariant.count) in
    subst (λ k. IsFoundInRequests w (map (λ q. (q.0.second, q.1.items)) requests) k found) count
    (found_settled (λ q. (q.0.second, q.1.items)) (λ v. v.items) w
    (world_of g.S.PlanStore.content c.loop-moment.desk) requests c.loop-moment.moment-index
    c.loop-moment.answers.items found (c.loop-moment.invariant.answered honest)
    (c.loop-moment.invariant.settled honest settled found may))

-- why the desk failed at the last request
pub returns-then-is_some-clause-cause : goal.returns-then-is_some-clause-cause
returns-then-is_some-clause-cause g c = λ broken.
    let some = sym c.is_some.ensures ∙ c.if-is_some.true in
    let first = g.S.PlanStore.faults c.args.desk.now.store in
    let old = g.S.PlanStore.faults c.loop-moment.desk.store in
    let new = g.S.PlanStore.faults c.answer_request-answer.new.desk.store in
    failed_there (IsLastAnswer (map (λ v. v.items) c.push_reserved.new.self.items)) c.in-Ok.field-0.error
    (world_of g.S.PlanStore.content c.loop-moment.desk)
    (world_of g.S.PlanStore.content c.answer_request-answer.new.desk) c.in-Ok.field-0.bytes.items
    first new (not_none c.in-Ok.field-0.error some) c.in-Ok.ensures.reported.failed
    (λ store. risen_since first old new c.loop-moment.invariant.counted
    (c.in-Ok.ensures.leaves.cause (ap (option_map desk_fault) store)))
    (subst (λ xs. IsLastAnswer (map (λ v. v.items) xs) c.in-Ok.field-0.bytes.items)
    (sym c.push_reserved.ensures.items)
    (last_said (λ v. v.items) c.loop-moment.answers.items c.in-Ok.field-0.bytes))
