use Rattle.desk_wire.proofs.FrontLemmas.{request_more}
use Rattle.desk_wire.proofs.laws.request_ends.Goals as goal

pub returns : goal.returns
returns c = λ request rest h. request_more request rest h
