use Rattle.std.proofs.Common.{◌∙◌, ◌<◌, length, inr, sym, subst, arith, rules}
use Rattle.std.specs.Prelude.{IsSome}
use Rattle.desk_store.proofs.lemmas.Fault.{was_honest}
use Rattle.desk_store.specs.Changes.{IsFitting}
use Rattle.desk_store.specs.World.{ceiling_of, plans_of}
use Rattle.desk_trials.proofs.stops.applying.fits_put.Goals as goal

pub returns-clause-value : goal.returns-clause-value
unfolding IsFitting
returns-clause-value g c = λ honest yes.
    let o = c.args.operator.now in
    let counted = c.in_ok-own_count.ensures.value honest in
    let listed = c.in_ok-ceiling.ensures.value (was_honest c.own_count.ensures.reads.doubt honest) in
    let some : IsSome c.in_ok-ceiling.field-0 = search rules in (
      inr (subst (λ w. length (plans_of o w) < 200) (sym c.own_count.ensures.reads.same)
          (omega (arith, counted, c.if-branch-ge-MAX_PLANS.false))),
      c.if-row-gt-MAX_PRIORITY.false,
      subst (λ w. IsSome (ceiling_of o w))
          (sym (c.own_count.ensures.reads.same ∙ c.ceiling.ensures.reads.same))
          (subst IsSome listed some),
    )
