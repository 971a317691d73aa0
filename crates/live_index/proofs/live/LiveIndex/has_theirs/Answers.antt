use Rattle.std.proofs.Common.{◌≡◌, ◌||◌, ◌∙◌, false, ap, rules, sym, tests}
use Rattle.std.proofs.lemmas.Iterator.{YieldsList-from_slice}
use Rattle.std.proofs.lemmas.Iterator.Search.{any_from_yields_List}
use Rattle.std.specs.List.{list_any}
use Rattle.live_index.specs.Live.{group_has_theirs, is_theirs}
use Rattle.live_index.proofs.live.LiveIndex.has_theirs.Goals as goal

pub returns-else-any : goal.returns-else-any
returns-else-any c =
    let in_group = group_has_theirs c.args.operator.now c.args.extent.now in
    let test = is_theirs c.args.operator.now c.args.extent.now in
    let kept = c.args.self.now in
    let none : list_any in_group kept.groups.items ≡ false =
    sym (any_from_yields_List in_group _ _ c.any.result c.any.ensures.ran
    (YieldsList-from_slice c.deref.result.now (cc)) (λ x b q k. search (rules, tests))
    ∙ ap (list_any in_group) c.deref.ensures.value) ∙ c.if-any.false in
    any_from_yields_List test _ _ c.any-else-any.result c.any-else-any.ensures.ran
    (YieldsList-from_slice c.deref-else-any.result.now (cc)) (λ x b q k. search (rules, tests))
    ∙ ap (list_any test) c.deref-else-any.ensures.value
    ∙ ap (λ b. b || list_any test kept.unindexed.items) (sym none)
