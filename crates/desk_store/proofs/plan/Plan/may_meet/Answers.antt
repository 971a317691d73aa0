use Rattle.std.proofs.Common.{subst, sym, ◌∙◌}
use Rattle.desk_store.specs.World.{SharesNoPoint}
use Rattle.desk_store.proofs.PlanLemmas.{no_point}
use Rattle.desk_store.proofs.plan.Plan.may_meet.Goals as goal

pub returns : goal.returns
returns c = λ apart.
    let extents = c.args.extents.now in
    subst (λ p. SharesNoPoint p.area extents) c.self.view_is
    (no_point c.self.inside.area c.self.inside.slabs.items c.self.inside.bounds extents c.self.invariant
    (sym c.overlaps_one.ensures ∙ apart))
