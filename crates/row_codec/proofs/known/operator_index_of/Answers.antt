use Rattle.std.proofs.Common.{◌++◌, ◌∷◌, [], ap, sym, subst, take, ◌∙◌}
use Rattle.std.proofs.lemmas.List.{take_more}
use Rattle.desk_store.specs.World.{Filed}
use Rattle.operator_index.specs.Roll.{AreAccountsOf, accounts_of}
use Rattle.row_codec.proofs.known.operator_index_of.Goals as goal

pub loop-plan-preserved : goal.loop-plan-preserved
loop-plan-preserved c =
    let plans = c.args.plans.now in
    let i = c.loop-plan.plan-index in
    let plan = c.plan-item.result in
    subst (λ ps. AreAccountsOf c.args.operators.now ps (accounts_of c.file.new.self))
    (ap (λ (p : Filed). take i plans ++ p ∷ []) (c.plan.view_is ∙ c.plan-item.is)
    ∙ sym (take_more plans i plan c.loop-plan-test.true))
    (c.in_ok-file.ensures c.args.operators.now (take i plans) c.loop-plan.invariant)
