use Rattle.std.proofs.Common.{◌<◌, ◌++◌, IfSome, Ok, option_map, refl, sym, ap, subst, ◌∙◌, length}
use Rattle.std.specs.Result.{is_ok}
use Rattle.request_parser.specs.Messages.{message_read}
use Rattle.desk_store.specs.Changes.{IsHonest}
use Rattle.desk_run.specs.Verdicts.{world_of}
use Rattle.desk_wire.specs.Streams.{front_parsed, front_result, size_or_zero, with_body}
use Rattle.desk_wire.proofs.FrontLemmas.{some_count, reported_cut_body}
use Rattle.desk_wire.specs.Given.{IsCertain}
use Rattle.desk_wire.specs.Bytes.{desk_fault}
use Rattle.desk_wire.proofs.KeptLemmas.{if_some_all, kept_answered, kept_failed, left_served, no_failure, uncertain_memory, uncertain_write, unsure_500}
use Rattle.std.specs.Io.KnownBytes.{Appends}
use Rattle.desk_wire.proofs.CauseLemmas.{failed_served, failed_there}
use Rattle.desk_wire.proofs.ServeLemmas.{broken, framed_as, received, replied, served_as, status_as, stopped}
use Rattle.desk_wire.proofs.stream.serve_one.Goals as goal

pub returns-in_err-body-clause-served : goal.returns-in_err-body-clause-served
returns-in_err-body-clause-served g c =
    let text = c.in_ok-text.text.items in
    let some = some_count c.in_ok-text.text.len (length text) c.if-is_empty.ensures
    (sym c.in_ok-text.text.ok.0) in
    let front = c.parse_front-front.ensures ∙ ap front_parsed c.deref.ensures.value in
    let size = c.body_size.ensures ∙ ap size_or_zero front in
    stopped _ (IfSome (g.R.Read.remaining c.receive_head.new.input) (λ rest. length rest < c.body_size.result))
    c.from_residual-in_err-body.result c.in_err-body.field-0.0 (g.R.Read.remaining c.args.input.now) _ _ _
    _
    c.from_residual-in_err-body.ensures.1 c.in_err-body.ensures.fault
    (λ short. reported_cut_body (g.R.Read.remaining c.args.input.now)
    (g.R.Read.remaining c.receive_head.new.input) text c.in_ok-text.ensures.taken some
    (c.in_ok-text.ensures.front some)
    (subst (λ n. IfSome (g.R.Read.remaining c.receive_head.new.input) (λ rest. length rest < n)) size short))

pub returns-in_err-write_whole-clause-served : goal.returns-in_err-write_whole-clause-served
returns-in_err-write_whole-clause-served g c =
    let text = c.in_ok-text.text.items in
    let body = c.in_ok-body.body.items in
    let some = some_count c.in_ok-text.text.len (length text) c.if-is_empty.ensures
    (sym c.in_ok-text.text.ok.0) in
    let front = c.parse_front-front.ensures ∙ ap front_parsed c.deref.ensures.value in
    let message = c.attach_body-request.ensures ∙ ap (with_body (front_result c.parse_front-front.result))
    c.deref-2.ensures.value in
    let got = received (g.R.Read.remaining c.args.input.now) (g.R.Read.remaining c.receive_head.new.input)
    (g.R.Read.remaining c.receive_body.new.input) text body (front_result c.parse_front-front.result)
    (message_read c.attach_body-request.result)
    c.in_ok-text.ensures.taken (c.in_ok-text.ensures.front some) front c.in_ok-body.ensures.taken
    (c.in_ok-body.ensures.size ∙ c.body_size.ensures) message in
    let w = world_of g.S.PlanStore.content c.args.desk.now in
    let after = world_of g.S.PlanStore.content c.answer_request.new.desk in
    let why = c.in_ok-answer.answer.error in
    let answer = c.in_ok-answer.answer.bytes.items in
    let reported = replied (IsHonest (g.S.PlanStore.doubt c.answer_request.new.desk.store)) w after
    c.args.moment.second (text ++ body) answer (message_read c.attach_body-request.result) why got.read
    c.in_ok-answer.ensures.reported.bytes c.in_ok-answer.ensures.reported.failed in
    let off = rw c.deref-3.ensures.value at c.in_err-write_whole.ensures.err in
    broken (IsHonest (g.S.PlanStore.doubt c.answer_request.new.desk.store))
    c.from_residual-in_err-write_whole.result c.in_err-write_whole.field-0.0.fault _ _ _ _ w after
    c.args.moment.second (text ++ body) answer why
    c.from_residual-in_err-write_whole.ensures.1 off got.taken reported

pub returns-clause-served : goal.returns-clause-served
returns-clause-served g c =
    let text = c.in_ok-text.text.items in
    let body = c.in_ok-body.body.items in
    let some = some_count c.in_ok-text.text.len (length text) c.if-is_empty.ensures
    (sym c.in_ok-text.text.ok.0) in
    let front = c.parse_front-front.ensures ∙ ap front_parsed c.deref.ensures.value in
    let message = c.attach_body-request.ensures ∙ ap (with_body (front_result c.parse_front-front.result))
    c.deref-2.ensures.value in
    let got = received (g.R.Read.remaining c.args.input.now) (g.R.Read.remaining c.receive_head.new.input)
    (g.R.Read.remaining c.receive_body.new.input) text body (front_result c.parse_front-front.result)
    (message_read c.attach_body-request.result)
    c.in_ok-text.ensures.taken (c.in_ok-text.ensures.front some) front c.in_ok-body.ensures.taken
    (c.in_ok-body.ensures.size ∙ c.body_size.ensures) message in
    let w = world_of g.S.PlanStore.content c.args.desk.now in
    let after = world_of g.S.PlanStore.content c.answer_request.new.desk in
    let why = c.in_ok-answer.answer.error in
    let answer = c.in_ok-answer.answer.bytes.items in
    let reported = replied (IsHonest (g.S.PlanStore.doubt c.answer_request.new.desk.store)) w after
    c.args.moment.second (text ++ body) answer (message_read c.attach_body-request.result) why got.read
    c.in_ok-answer.ensures.reported.bytes c.in_ok-answer.ensures.reported.failed in
    served_as (IsHonest (g.S.PlanStore.doubt c.answer_request.new.desk.store)) c.served.result
    c.in_ok-answer.answer.status (is_ok c.attach_body-request.result) (g.R.Read.remaining c.args.input.now)
    _ _ _ w after c.args.moment.second
    c.served.ensures record {
      request = text ++ body;
      taken = got.taken;
      framed_is = framed_as c.attach_body-request.result (text ++ body) _ refl got.read;
      answer = answer;
      why = why;
      replied = reported;
      status_is = status_as (IsHonest (g.S.PlanStore.doubt c.answer_request.new.desk.store)) w
          c.args.moment.second (text ++ body) (message_read c.attach_body-request.result) why
          c.in_ok-answer.answer.status got.read c.in_ok-answer.ensures.reported.status;
      gave_up = c.in_ok-answer.ensures.reported.gave_up;
      written = rw c.deref-3.ensures.value at c.in_ok-write_whole.ensures.ok;
    }

-- what may be found is what might have been before, or what the request that was taken leaves; its change is
-- uncertain if the answer is not whole, or says that the desk failed
pub returns-in_err-answer-clause-kept : goal.returns-in_err-answer-clause-kept
returns-in_err-answer-clause-kept g c =
    let text = c.in_ok-text.text.items in
    let body = c.in_ok-body.body.items in
    let some = some_count c.in_ok-text.text.len (length text) c.if-is_empty.ensures
    (sym c.in_ok-text.text.ok.0) in
    let front = c.parse_front-front.ensures ∙ ap front_parsed c.deref.ensures.value in
    let message = c.attach_body-request.ensures ∙ ap (with_body (front_result c.parse_front-front.result))
    c.deref-2.ensures.value in
    let got = received (g.R.Read.remaining c.args.input.now) (g.R.Read.remaining c.receive_head.new.input)
    (g.R.Read.remaining c.receive_body.new.input) text body (front_result c.parse_front-front.result)
    (message_read c.attach_body-request.result)
    c.in_ok-text.ensures.taken (c.in_ok-text.ensures.front some) front c.in_ok-body.ensures.taken
    (c.in_ok-body.ensures.size ∙ c.body_size.ensures) message in
    kept_failed g.S.PlanStore c.args.desk.now c.answer_request.new.desk c.from_residual-in_err-answer.result _
    c.args.moment.second c.in_err-answer.ensures.leaves.same
    (uncertain_memory _ c.from_residual-in_err-answer.ensures.1)
    (λ honest. left_served (g.S.PlanStore.may_leave c.args.desk.now.store)
    (g.S.PlanStore.may_leave c.answer_request.new.desk.store) (g.R.Read.remaining c.args.input.now)
    (g.R.Read.remaining c.receive_body.new.input) c.args.moment.second
    (world_of g.S.PlanStore.content c.args.desk.now) (message_read c.attach_body-request.result)
    (text ++ body) got.taken got.read
    (c.answer_request.ensures.leaves.crash honest))

pub returns-in_err-write_whole-clause-kept : goal.returns-in_err-write_whole-clause-kept
returns-in_err-write_whole-clause-kept g c =
    let text = c.in_ok-text.text.items in
    let body = c.in_ok-body.body.items in
    let some = some_count c.in_ok-text.text.len (length text) c.if-is_empty.ensures
    (sym c.in_ok-text.text.ok.0) in
    let front = c.parse_front-front.ensures ∙ ap front_parsed c.deref.ensures.value in
    let message = c.attach_body-request.ensures ∙ ap (with_body (front_result c.parse_front-front.result))
    c.deref-2.ensures.value in
    let got = received (g.R.Read.remaining c.args.input.now) (g.R.Read.remaining c.receive_head.new.input)
    (g.R.Read.remaining c.receive_body.new.input) text body (front_result c.parse_front-front.result)
    (message_read c.attach_body-request.result)
    c.in_ok-text.ensures.taken (c.in_ok-text.ensures.front some) front c.in_ok-body.ensures.taken
    (c.in_ok-body.ensures.size ∙ c.body_size.ensures) message in
    let unsure = uncertain_write c.from_residual-in_err-write_whole.result
    c.in_err-write_whole.field-0.0.fault c.from_residual-in_err-write_whole.ensures.1 in
    kept_answered g.S.PlanStore c.args.desk.now c.answer_request.new.desk
    c.from_residual-in_err-write_whole.result _ c.args.moment.second _ c.in_ok-answer.answer.error _
    c.in_ok-answer.ensures.leaves c.in_ok-answer.ensures.reported.failed
    (λ honest. if_some_all c.in_ok-answer.answer.error unsure)
    (λ honest certain. absurd (unsure certain))
    (λ honest. left_served (g.S.PlanStore.may_leave c.args.desk.now.store)
    (g.S.PlanStore.may_leave c.answer_request.new.desk.store) (g.R.Read.remaining c.args.input.now)
    (g.R.Read.remaining c.receive_body.new.input) c.args.moment.second
    (world_of g.S.PlanStore.content c.args.desk.now) (message_read c.attach_body-request.result)
    (text ++ body) got.taken got.read
    (c.answer_request.ensures.leaves.crash honest))

pub returns-clause-kept : goal.returns-clause-kept
returns-clause-kept g c =
    let text = c.in_ok-text.text.items in
    let body = c.in_ok-body.body.items in
    let some = some_count c.in_ok-text.text.len (length text) c.if-is_empty.ensures
    (sym c.in_ok-text.text.ok.0) in
    let front = c.parse_front-front.ensures ∙ ap front_parsed c.deref.ensures.value in
    let message = c.attach_body-request.ensures ∙ ap (with_body (front_result c.parse_front-front.result))
    c.deref-2.ensures.value in
    let got = received (g.R.Read.remaining c.args.input.now) (g.R.Read.remaining c.receive_head.new.input)
    (g.R.Read.remaining c.receive_body.new.input) text body (front_result c.parse_front-front.result)
    (message_read c.attach_body-request.result)
    c.in_ok-text.ensures.taken (c.in_ok-text.ensures.front some) front c.in_ok-body.ensures.taken
    (c.in_ok-body.ensures.size ∙ c.body_size.ensures) message in
    kept_answered g.S.PlanStore c.args.desk.now c.answer_request.new.desk (Ok c.served.result) _
    c.args.moment.second _ c.in_ok-answer.answer.error _ c.in_ok-answer.ensures.leaves
    c.in_ok-answer.ensures.reported.failed
    (λ honest. unsure_500 _ _ _ _ _ _ c.in_ok-answer.answer.error c.served.ensures
    (c.in_ok-answer.ensures.reported.status honest))
    (λ honest certain. no_failure _ _ _ _ _ (c.in_ok-answer.ensures.reported.status honest)
    (subst (λ s. IsCertain (Ok s)) c.served.ensures certain))
    (λ honest. left_served (g.S.PlanStore.may_leave c.args.desk.now.store)
    (g.S.PlanStore.may_leave c.answer_request.new.desk.store) (g.R.Read.remaining c.args.input.now)
    (g.R.Read.remaining c.receive_body.new.input) c.args.moment.second
    (world_of g.S.PlanStore.content c.args.desk.now) (message_read c.attach_body-request.result)
    (text ++ body) got.taken got.read
    (c.answer_request.ensures.leaves.crash honest))

-- why the desk failed, if the answer says so
pub returns-clause-cause : goal.returns-clause-cause
returns-clause-cause g c =
    let out = g.W.Write.contents c.args.output.now in
    let now = g.W.Write.contents c.write_whole.new.output in
    let old = g.S.PlanStore.faults c.args.desk.now.store in
    let new = g.S.PlanStore.faults c.answer_request.new.desk.store in
    failed_served (Appends out now) c.served.result c.in_ok-answer.answer.status
    (is_ok c.attach_body-request.result) old new c.served.ensures
    (λ is. failed_there (Appends out now) c.in_ok-answer.answer.error
    (world_of g.S.PlanStore.content c.args.desk.now)
    (world_of g.S.PlanStore.content c.answer_request.new.desk) c.in_ok-answer.answer.bytes.items
    old new (c.in_ok-answer.ensures.reported.gave_up is) c.in_ok-answer.ensures.reported.failed
    (λ is. c.in_ok-answer.ensures.leaves.cause (ap (option_map desk_fault) is))
    (rw c.deref-3.ensures.value at c.in_ok-write_whole.ensures.ok))
