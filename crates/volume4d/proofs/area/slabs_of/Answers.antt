use Rattle.std.proofs.Common.{◌+◌, ◌++◌, take, sym, ap, ◌∙◌, subst}
use Rattle.volume4d.proofs.Filled.{AreSoFar, one_more_volume}
use Rattle.volume4d.proofs.area.slabs_of.Goals as goal

pub loop-volume-preserved : goal.loop-volume-preserved
loop-volume-preserved c =
    let volumes = c.args.volumes.now in
    let count = c.loop-volume.volume-index in
    let slabs = c.loop-volume.slabs.items in
    let more = c.in_ok-slabs.ensures in
    subst (AreSoFar (take (count + 1) volumes))
    (ap (λ next. slabs ++ next) (sym c.deref.ensures.value) ∙ sym c.in_ok-extend_from_slice.ensures.items)
    (one_more_volume volumes count c.volume-item.result slabs c.in_ok-slabs.field-0.items
    c.loop-volume-test.true c.volume-item.is c.loop-volume.invariant more.ranges more.filled)
