use Rattle.std.proofs.Common.{eqb-true}
use Rattle.desk_examples.proofs.LineLemmas.{listed_if_0}
use Rattle.desk_examples.proofs.lines.enrol_as_reported.Goals as goal

pub returns : goal.returns
returns g c = λ honest reported.
    listed_if_0 g.S.PlanStore _ _ _ _ _ _ c.with_desk.ensures (eqb-true _ 0 reported) honest
