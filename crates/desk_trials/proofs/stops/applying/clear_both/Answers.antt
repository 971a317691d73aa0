use Rattle.std.proofs.Common.{sym, subst}
use Rattle.desk_store.specs.Changes.{AreDistinct, AreStored, IsFitting}
use Rattle.desk_store.specs.World.{plans_of}
use Rattle.desk_trials.proofs.stops.applying.clear_both.Goals as goal

pub apply-requires : goal.apply-requires
unfolding IsFitting
apply-requires g c = λ honest.
    let w = g.S.PlanStore.content c.has_both.new.store in
    let there = c.in-Ok-true.ensures.value honest c.in-Ok-true.field-0-test in
    let ids = sym c.in_ok-ids.ensures.items in (
      there.0,
      subst (λ ids. AreStored ids (plans_of c.args.operator.now w)) ids there.1,
      subst AreDistinct ids there.2,
    )
