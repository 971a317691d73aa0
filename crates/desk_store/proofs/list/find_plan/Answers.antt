use Rattle.std.proofs.Common.{◌∙◌, ap, Some}
use Rattle.std.specs.Option.{option_map}
use Rattle.desk_store.specs.World.{row_of}
use Rattle.desk_store.proofs.StoreLemmas.{plan_found}
use Rattle.desk_store.proofs.list.find_plan.Goals as goal

pub returns-in_ok-row-in-Some : goal.returns-in_ok-row-in-Some
returns-in_ok-row-in-Some c =
    ap Some c.in_ok-row-in-Some.ensures ∙ ap (option_map (row_of c.args.id.now)) c.in-Some.ensures.value
    ∙ plan_found c.args.operator.now c.args.id.now c.args.plans.now.entries

pub returns-in-None : goal.returns-in-None
returns-in-None c = ap (option_map (row_of c.args.id.now)) c.in-None.ensures.value
    ∙ plan_found c.args.operator.now c.args.id.now c.args.plans.now.entries
