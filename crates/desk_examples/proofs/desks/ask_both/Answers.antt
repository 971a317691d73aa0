use Rattle.desk_examples.proofs.DeskLemmas.{same_reply}
use Rattle.desk_examples.proofs.desks.ask_both.Goals as goal

pub returns : goal.returns
returns g c = λ honest too own_same held_same. same_reply _ _ _ _ _ own_same held_same
    (c.in_ok-reported.ensures.reported honest) (c.in_ok-call.ensures.reported too)
