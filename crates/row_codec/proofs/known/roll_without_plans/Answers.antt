use Rattle.std.proofs.Common.{◌++◌, ◌∷◌, [], ap, sym, subst, take, ◌∙◌}
use Rattle.std.proofs.lemmas.List.{take_more}
use Rattle.desk_store.specs.World.{Listed}
use Rattle.operator_index.specs.Roll.{AreAccountsOf, accounts_of}
use Rattle.row_codec.proofs.known.roll_without_plans.Goals as goal

pub loop-listed-preserved : goal.loop-listed-preserved
loop-listed-preserved c =
    let operators = c.args.operators.now in
    let i = c.loop-listed.listed-index in
    let listed = c.listed-item.result in
    subst (λ ls. AreAccountsOf ls [] (accounts_of c.list.new.self))
    (ap (λ (l : Listed). take i operators ++ l ∷ []) (c.listed.view_is ∙ c.listed-item.is)
    ∙ sym (take_more operators i listed c.loop-listed-test.true))
    (c.in_ok-list.ensures (take i operators) [] c.loop-listed.invariant)
