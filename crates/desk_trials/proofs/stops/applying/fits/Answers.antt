use Rattle.std.proofs.Common.{sym, subst}
use Rattle.desk_store.specs.Changes.{IsFitting}
use Rattle.desk_trials.proofs.stops.applying.fits.Goals as goal

pub returns-in-Enrol-clause-value : goal.returns-in-Enrol-clause-value
unfolding IsFitting
returns-in-Enrol-clause-value g c = λ honest yes.
    subst (λ change. IsFitting change (g.S.PlanStore.content c.args.store.now)) (sym c.in-Enrol.is)
    (c.is_priority.ensures yes)
