use Rattle.desk_examples.proofs.BlockLemmas.{same_plan_reply}
use Rattle.desk_examples.proofs.desks.plan_at_both.Goals as goal

pub returns : goal.returns
returns g c = λ honest too own_same block_same.
    same_plan_reply c.one_conflict.ensures c.conflict_is_found.ensures _ _ _ _ _ own_same block_same
    (c.in_ok-reported.ensures.reported honest) (c.in_ok-call.ensures.reported too)
