use Rattle.std.proofs.Common.{◌∙◌, ap, Some}
use Rattle.std.specs.Option.{option_map}
use Rattle.desk_store.specs.World.{kept_states}
use Rattle.desk_store.proofs.StoreLemmas.{states_found}
use Rattle.desk_store.proofs.list.find_states.Goals as goal

pub returns-in_err-plan : goal.returns-in_err-plan
returns-in_err-plan c = c.from_residual.ensures ∙ ap (option_map kept_states) c.in_err-plan.ensures.value
    ∙ states_found c.args.operator.now c.args.id.now c.args.plans.now.entries

pub returns : goal.returns
returns c = ap Some c.states.ensures ∙ ap (option_map kept_states) c.in_ok-plan.ensures.value
    ∙ states_found c.args.operator.now c.args.id.now c.args.plans.now.entries
