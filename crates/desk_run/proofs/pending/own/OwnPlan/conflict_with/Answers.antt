use Rattle.std.proofs.Common.{◌∙◌, ap}
use Rattle.volume4d.specs.Slab.{slabs_have}
use Rattle.desk_run.proofs.ListingLemmas.{live_points}
use Rattle.desk_run.proofs.pending.own.OwnPlan.conflict_with.Goals as goal

pub returns : goal.returns
returns c =
    let row = c.self.inside.row in
    rw (← c.self.view_is) (λ permitted levels live hold.
    c.first_conflict.ensures.area permitted row.area levels row.priority
    (λ x. ap (λ ss. slabs_have ss x) c.deref.ensures.value ∙ c.self.invariant.points x
    ∙ live_points row x live)
    (λ x has. hold x (live_points row x live ∙ has)))
