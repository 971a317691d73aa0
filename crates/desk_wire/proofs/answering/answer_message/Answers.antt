use Rattle.std.proofs.Common.{refl, arith}
use Rattle.desk_run.proofs.lemmas.Crash.{leaves_read}
use Rattle.desk_wire.specs.Bytes.{failure_of}
use Rattle.desk_wire.proofs.LeavingLemmas.{not_store}
use Rattle.desk_wire.proofs.answering.answer_message.Goals as goal

pub returns-in-Err-Fault-clause-leaves : goal.returns-in-Err-Fault-clause-leaves
returns-in-Err-Fault-clause-leaves g c =
    leaves_read g.S.PlanStore c.args.desk.now c.args.desk.now _ (failure_of c.refuse.result) refl
    (λ honest found may. may) (record { doubt = omega arith; counted = omega arith; shield = λ s. s })
    (λ said. absurd (not_store c.refuse.result c.refuse.ensures.error said))
