use Rattle.std.proofs.Common.{option_map, subst}
use Rattle.request_parser.specs.Messages.{message_read}
use Rattle.desk_store.specs.Changes.{IsHonest}
use Rattle.desk_run.specs.Calls.{Leaves}
use Rattle.desk_run.specs.Verdicts.{world_of}
use Rattle.desk_wire.specs.Bytes.{desk_fault}
use Rattle.desk_wire.proofs.BytesLemmas.{left_read}
use Rattle.desk_wire.proofs.ServeLemmas.{replied}
use Rattle.desk_wire.proofs.answering.answer.Goals as goal

pub returns-clause-answered : goal.returns-clause-answered
returns-clause-answered g c =
    let w = world_of g.S.PlanStore.content c.args.desk.now in
    let new = c.answer_request.new.desk in
    let why = c.in_ok-answer.answer.error in
    record {
      why = why;
      replied = replied (IsHonest (g.S.PlanStore.doubt new.store)) w (world_of g.S.PlanStore.content new)
          c.args.moment.second c.args.text.now c.in_ok-answer.answer.bytes.items
          (message_read c.read_message.result) why c.read_message.ensures
          c.in_ok-answer.ensures.reported.bytes c.in_ok-answer.ensures.reported.failed;
      leaves = subst (λ left. Leaves g.S.PlanStore c.args.desk.now new left (option_map desk_fault why))
          (left_read w c.args.moment.second c.args.text.now (message_read c.read_message.result)
          c.read_message.ensures) c.in_ok-answer.ensures.leaves;
    }
