use Rattle.std.proofs.Common.{◌≡◌, ℤ, Ok, Err, refl}
use Rattle.desk_rules.specs.declared.call.Asked.{Asked}
use Rattle.request_parser.specs.Messages.{Reading}
use Rattle.request_parser.specs.Requests.{asked}
use Rattle.desk_run.specs.Verdicts.{DeskWorld}
use Rattle.desk_run.proofs.lemmas.Repeat.{step_again}
use Rattle.desk_wire.specs.Bytes.{world_after}
use Rattle.desk_wire.proofs.laws.repeated.Goals as goal

after_again : (w : DeskWorld) (moment : ℤ) (reading : Reading Asked)
    → world_after (world_after w moment reading) moment reading ≡ world_after w moment reading
after_again w moment (Ok a) = step_again w a.operator moment a.call
after_again w moment (Err fault) = refl

pub returns : goal.returns
returns c = λ w moment request. after_again w moment (asked request)
