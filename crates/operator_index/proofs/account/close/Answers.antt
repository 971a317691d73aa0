use Rattle.std.proofs.Common.{◌∙◌, ap, set, rules}
use Rattle.operator_index.specs.Roll.{close_if}
use Rattle.operator_index.proofs.RollLemmas.{mapped_on}
use Rattle.operator_index.proofs.account.close.Goals as goal

pub loop-at-preserved : goal.loop-at-preserved
loop-at-preserved c =
    let f = close_if c.args.id.now in
    let now = c.loop-at.plans.items in
    ap (set now c.loop-at.at) (c.close_if.ensures ∙ ap f c.index.ensures)
    ∙ mapped_on f c.args.plans.now.items now c.loop-at.at c.index.result.now c.loop-at.invariant
    (search rules)
