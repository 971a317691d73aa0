use Rattle.std.proofs.Common.{◌∙◌, ap, subst}
use Rattle.desk_store.specs.World.{ceiling_of, IsContent}
use Rattle.desk_store.proofs.StoreLemmas.{ceiling_found}
use Rattle.desk_store.proofs.list.ListStorePlanStore.ceiling.Goals as goal

pub returns-clause-value : goal.returns-clause-value
unfolding ceiling_of
returns-clause-value c = λ _. c.ceiling_in.ensures
    ∙ ceiling_found c.args.operator.now c.self.inside.operators.entries
    ∙ ap (ceiling_of c.args.operator.now) c.self.view_is

pub returns-clause-content : goal.returns-clause-content
returns-clause-content c = λ _. subst IsContent c.self.view_is c.self.invariant.0
