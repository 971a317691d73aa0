use Rattle.std.proofs.Common.{◌≡◌, ◌∷◌, [], false, sym, subst, rules}
use Rattle.std.proofs.lemmas.List.Elements.{All-cons, All-nil}
use Rattle.std.specs.List.{IsDistinct}
use Rattle.std.specs.Ordering.{is_eq}
use Rattle.std.specs.Prelude.{IsSome}
use Rattle.desk_store.proofs.lemmas.Fault.{was_honest}
use Rattle.desk_store.specs.Changes.{IsFitting}
use Rattle.desk_store.specs.World.{plans_of, stored_of, text_cmp}
use Rattle.desk_trials.proofs.stops.applying.has_both.Goals as goal

pub returns-clause-value : goal.returns-clause-value
unfolding IsFitting IsDistinct
returns-clause-value g c = λ honest yes.
    let o = c.args.operator.now in
    let one = c.args.one.now in
    let other = c.args.other.now in
    let w = g.S.PlanStore.content c.fits_close-2.new.store in
    let first = c.in_ok-fits_close.ensures.value (was_honest c.fits_close-2.ensures.doubt honest)
    c.if-not-branch.false in
    let second = c.in_ok-fits_close-2.ensures.value honest c.if-not-branch-2.false in
    let kept = subst (λ w. IsSome (stored_of one (plans_of o w))) (sym c.fits_close-2.ensures.same)
    first.1 in
    let differ : is_eq (text_cmp one other) ≡ false = search rules in (
      second.0,
      All-cons (λ id. IsSome (stored_of id (plans_of o w))) one (other ∷ []) kept
          (All-cons (λ id. IsSome (stored_of id (plans_of o w))) other [] second.1
          (All-nil (λ id. IsSome (stored_of id (plans_of o w))))),
      ((differ, tt), (tt, tt)),
    )
