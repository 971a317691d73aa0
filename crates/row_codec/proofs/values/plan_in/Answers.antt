use Rattle.std.proofs.Common.{ap, ◌∙◌}
use Rattle.row_codec.specs.RowsRead.{plan_with}
use Rattle.row_codec.proofs.values.plan_in.Goals as goal

pub returns-clause-value : goal.returns-clause-value
returns-clause-value c = λ p id head area. c.with.ensures ∙ ap (plan_with c.in_ok-head.head) area
    ∙ c.in_ok-head.ensures.value p id head
