use Rattle.std.proofs.Common.{◌∙◌, ap}
use Rattle.desk_rules.specs.Conflict.{at_least}
use Rattle.desk_store.specs.World.{plans_of, held, held_at, world_in_lists}
use Rattle.desk_store.proofs.lemmas.Rival.{held_by_rivals}
use Rattle.desk_store.proofs.list.ListStorePlanStore.rivals_near.Goals as goal

pub returns-clause-value : goal.returns-clause-value
returns-clause-value c = λ _ x inside.
    let o = c.args.operator.now in
    let id = c.args.id.now in
    let before = world_in_lists c.self.inside.operators.entries c.self.inside.plans.entries in
    c.in_ok-rivals_of.ensures x inside ∙ ap (at_least c.args.least) (held_by_rivals o id before x)
    ∙ ap (λ w. at_least c.args.least (held_at (plans_of o w) (held w o) id x)) c.self.view_is
