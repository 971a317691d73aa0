use Rattle.std.proofs.Common.{subst, sym}
use Rattle.volume4d.specs.Slab.{IsBounds, slabs_have}
use Rattle.desk_run.proofs.ListingLemmas.{closed_held, live_held}
use Rattle.desk_run.proofs.pending.own.OwnPlan.try_new.Goals as goal

pub invariant_of-result : goal.invariant_of-result
invariant_of-result c =
    closed_held c.args.row c.new.result.items c.empty.result c.new-then-not-is_live.result.items
    (sym c.if-not-is_live.ensures) c.new.ensures.items

pub invariant_of-result-2 : goal.invariant_of-result-2
invariant_of-result-2 c =
    live_held c.args.row c.in_ok-slabs.slabs.items c.bounds_of-bounds.result c.in_ok-parts.parts.items
    (sym c.if-not-is_live.ensures)
    c.in_ok-slabs.ensures.points c.in_ok-slabs.ensures.filled c.in_ok-slabs.ensures.ranges.order
    (subst (λ ss. IsBounds (slabs_have ss) c.bounds_of-bounds.result) c.deref.ensures.value
    c.bounds_of-bounds.ensures) c.in_ok-parts.ensures
