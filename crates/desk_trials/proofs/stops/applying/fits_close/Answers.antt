use Rattle.std.proofs.Common.{◌∙◌, sym, subst, rules}
use Rattle.std.specs.Prelude.{IsSome}
use Rattle.desk_store.proofs.lemmas.Fault.{was_honest}
use Rattle.desk_store.specs.Changes.{IsFitting}
use Rattle.desk_store.specs.World.{ceiling_of, plans_of, stored_of}
use Rattle.desk_trials.proofs.stops.applying.fits_close.Goals as goal

pub returns-clause-value : goal.returns-clause-value
unfolding IsFitting
returns-clause-value g c = λ honest yes.
    let o = c.args.operator.now in
    let found = c.in_ok-plan.ensures.value honest in
    let listed = c.in_ok-ceiling.ensures.value (was_honest c.plan.ensures.reads.doubt honest) in
    let some : IsSome c.in_ok-ceiling.field-0 = search rules in
    let stored : IsSome c.in_ok-plan.field-0 = search rules in (
      subst (λ w. IsSome (ceiling_of o w)) (sym (c.plan.ensures.reads.same ∙ c.ceiling.ensures.reads.same))
          (subst IsSome listed some),
      subst (λ w. IsSome (stored_of c.args.id.now (plans_of o w))) (sym c.plan.ensures.reads.same)
          (subst IsSome found stored),
    )
