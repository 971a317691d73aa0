use Rattle.std.proofs.Common.{◌∙◌, ap, length}
use Rattle.desk_store.specs.World.{plans_of}
use Rattle.desk_store.proofs.CountLemmas.{count_is}
use Rattle.desk_store.proofs.list.ListStorePlanStore.own_count.Goals as goal

pub returns-clause-value : goal.returns-clause-value
returns-clause-value c = λ _.
    c.count_in.ensures ∙ count_is c.args.operator.now c.self.inside.operators.entries
    c.self.inside.plans.entries c.self.invariant
    ∙ ap (λ w. length (plans_of c.args.operator.now w)) c.self.view_is
