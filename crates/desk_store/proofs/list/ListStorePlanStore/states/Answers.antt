use Rattle.std.proofs.Common.{◌∙◌, ap}
use Rattle.desk_rules.specs.Outcome.{states_of}
use Rattle.desk_store.specs.World.{stored_of, plans_of}
use Rattle.desk_store.proofs.list.ListStorePlanStore.states.Goals as goal

pub returns-clause-value : goal.returns-clause-value
returns-clause-value c = λ _. c.find_states.ensures
    ∙ ap (λ w. states_of (stored_of c.args.id.now (plans_of c.args.operator.now w))) c.self.view_is
