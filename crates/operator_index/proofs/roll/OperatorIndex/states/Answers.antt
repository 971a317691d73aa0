use Rattle.std.proofs.Common.{◌∙◌, List, ap}
use Rattle.std.specs.List.{find}
use Rattle.std.specs.Option.{option_map}
use Rattle.desk_store.specs.World.{plans_of}
use Rattle.operator_index.specs.declared.account.PlanState.{PlanState}
use Rattle.operator_index.specs.Roll.{plans_or_none, state_has_id}
use Rattle.operator_index.proofs.lemmas.Roll.{states_found}
use Rattle.operator_index.proofs.roll.OperatorIndex.states.Goals as goal

pub returns-in_err-account : goal.returns-in_err-account
returns-in_err-account c = λ w h.
    let id = c.args.id.now in
    c.from_residual.ensures
    ∙ ap (λ (ps : List PlanState). option_map (λ (s : PlanState). s.states) (find (state_has_id id) ps))
    (ap plans_or_none c.in_err-account.ensures.value ∙ h.states c.args.operator.now)
    ∙ states_found id (plans_of c.args.operator.now w)

pub returns : goal.returns
returns c = λ w h.
    let id = c.args.id.now in
    c.states.ensures
    ∙ ap (λ (ps : List PlanState). option_map (λ (s : PlanState). s.states) (find (state_has_id id) ps))
    (ap plans_or_none c.in_ok-account.ensures.value ∙ h.states c.args.operator.now)
    ∙ states_found id (plans_of c.args.operator.now w)
