use Rattle.std.proofs.Common.{◌≡◌, ◌≤◌, ◌++◌, ◌∙◌, List, ap, drop, length, subst, take}
use Rattle.operator_index.specs.declared.account.PlanState.{PlanState}
use Rattle.operator_index.specs.Roll.{first_has_id_of, put_state}
use Rattle.operator_index.proofs.RollLemmas.{put_over}
use Rattle.operator_index.proofs.account.put.Goals as goal

pub returns-then-is_at : goal.returns-then-is_at
returns-then-is_at c =
    let s = c.args.state in
    let at = c.place_of-at.result in
    put_over s c.args.plans.now.items at
    (subst (λ (ps : List PlanState). at ≤ length ps) c.deref.ensures.value c.place_of-at.ensures.within)
    (subst (λ ps. put_state s ps ≡ take at ps ++ put_state s (drop at ps)) c.deref.ensures.value
    c.place_of-at.ensures.place)
    (c.if-is_at.ensures ∙ ap (λ ps. first_has_id_of s (drop at ps)) c.deref-2.ensures.value)
