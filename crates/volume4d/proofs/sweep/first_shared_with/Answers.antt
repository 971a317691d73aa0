use Rattle.std.proofs.Common.{◌&&◌, take}
use Rattle.volume4d.specs.Slab.{slab_has, slabs_have}
use Rattle.volume4d.proofs.FirstPoints.{one_more_of_mine}
use Rattle.volume4d.proofs.sweep.first_shared_with.Goals as goal

pub loop-slab-preserved : goal.loop-slab-preserved
loop-slab-preserved c =
    let other = c.args.other.now in
    let so_far = take c.loop-slab.slab-index c.args.mine.now in
    one_more_of_mine c.args.mine.now (slab_has other) c.loop-slab.slab-index c.slab-item.result
    c.earlier-first.result c.loop-slab-test.true c.slab-item.is
    (c.earlier-first.ensures (λ x. slabs_have so_far x && slab_has other x)
    (λ x. slab_has c.slab-item.result x && slab_has other x) c.loop-slab.invariant
    c.compare.ensures)
