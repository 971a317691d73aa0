use Rattle.std.proofs.Common.{◌≡◌, ◌<◌, get_or, length, subst}
use Rattle.volume4d.specs.Slab.{IsBounds, slabs_have}
use Rattle.desk_run.proofs.ListingLemmas.{parts_more}
use Rattle.desk_run.proofs.pending.own.parts_of.Goals as goal

pub loop-volume-preserved : goal.loop-volume-preserved
loop-volume-preserved c =
    let i = c.loop-volume.volume-index in
    let volume = c.volume-item.result in
    let same = c.volumes-volume-items.ensures.value in
    parts_more c.args.area.now volume c.in_ok-slabs.field-0.items c.loop-volume.parts.items
    c.push.new.self.items i c.bounds_of.result (subst (λ vs. i < length vs) same c.loop-volume-test.true)
    (subst (λ vs. volume ≡ get_or vs i volume) same c.volume-item.is) c.loop-volume.invariant
    c.in_ok-slabs.ensures.points
    (subst (λ ss. IsBounds (slabs_have ss) c.bounds_of.result) c.deref.ensures.value c.bounds_of.ensures)
    c.in_ok-push.ensures.items
