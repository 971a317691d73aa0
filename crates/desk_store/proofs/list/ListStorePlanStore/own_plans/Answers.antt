use Rattle.std.proofs.Common.{◌∙◌, ap, subst}
use Rattle.desk_store.specs.World.{plans_of, IsContent}
use Rattle.desk_store.proofs.list.ListStorePlanStore.own_plans.Goals as goal

pub returns-clause-value : goal.returns-clause-value
returns-clause-value c = λ _. c.in_ok-rows_of.ensures ∙ ap (plans_of c.args.operator.now) c.self.view_is

pub returns-clause-content : goal.returns-clause-content
returns-clause-content c = λ _. subst IsContent c.self.view_is c.self.invariant.0
