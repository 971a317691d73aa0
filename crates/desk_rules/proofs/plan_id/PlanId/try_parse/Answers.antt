use Rattle.desk_rules.proofs.Options.{none_by}
use Rattle.desk_rules.proofs.plan_id.PlanId.try_parse.Goals as goal

pub returns-in-Err : goal.returns-in-Err
returns-in-Err c = none_by _ (λ u e. cc (c.in-Err.ensures.ok.1 (u, e)))
