use Rattle.std.proofs.Common.{◌∙◌, ap}
use Rattle.desk_store.specs.World.{held, world_in_lists}
use Rattle.desk_store.proofs.lemmas.Rival.{held_by_others}
use Rattle.desk_store.proofs.list.ListStorePlanStore.held_by_others.Goals as goal

pub returns-clause-value : goal.returns-clause-value
returns-clause-value c = λ _ x inside.
    let o = c.args.operator.now in
    let before = world_in_lists c.self.inside.operators.entries c.self.inside.plans.entries in
    c.in_ok-others_in.ensures x inside ∙ held_by_others o before x ∙ ap (λ w. held w o x) c.self.view_is
