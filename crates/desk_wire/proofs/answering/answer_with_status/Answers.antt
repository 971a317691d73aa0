use Rattle.std.proofs.Common.{IfOk, refl, subst}
use Rattle.request_parser.specs.Messages.{message_read}
use Rattle.desk_store.specs.Changes.{IsHonest}
use Rattle.desk_run.specs.Calls.{Leaves}
use Rattle.desk_run.specs.Verdicts.{world_of}
use Rattle.desk_wire.specs.Bytes.{IsAnswerReported, failure_reported}
use Rattle.desk_wire.proofs.BytesLemmas.{asked_read, left_read}
use Rattle.desk_wire.proofs.answering.answer_with_status.Goals as goal

pub returns-clause-reported : goal.returns-clause-reported
returns-clause-reported g c =
    let w = world_of g.S.PlanStore.content c.args.desk.now in
    let new = c.answer_request.new.desk in
    let after = world_of g.S.PlanStore.content new in
    let H = IsHonest (g.S.PlanStore.doubt new.store) in
    let text = c.args.text.now in
    subst (λ r. IfOk c.answer_request.result (IsAnswerReported H w c.args.moment.second r after))
    (asked_read text text (message_read c.read_message.result) c.read_message.ensures refl)
    c.answer_request.ensures.reported

pub returns-clause-leaves : goal.returns-clause-leaves
returns-clause-leaves g c =
    let w = world_of g.S.PlanStore.content c.args.desk.now in
    subst (λ left. Leaves g.S.PlanStore c.args.desk.now c.answer_request.new.desk left
    (failure_reported c.answer_request.result))
    (left_read w c.args.moment.second c.args.text.now (message_read c.read_message.result)
    c.read_message.ensures) c.answer_request.ensures.leaves
