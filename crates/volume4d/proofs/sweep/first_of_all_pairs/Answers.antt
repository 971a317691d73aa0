use Rattle.std.proofs.Common.{◌&&◌, take, subst}
use Rattle.volume4d.specs.Slab.{slab_has, slabs_have}
use Rattle.volume4d.specs.Sweep.{IsFirstPoint, items_have}
use Rattle.volume4d.proofs.Sweeping.{one_more_of_theirs}
use Rattle.volume4d.proofs.sweep.first_of_all_pairs.Goals as goal

pub loop-item-preserved : goal.loop-item-preserved
loop-item-preserved g c =
    let slab_of = g.T.HasSlab.slab_of in
    let mine = slabs_have c.args.mine.now in
    let so_far = take c.loop-item.item-index c.args.theirs.now in
    let item = c.item-item.result in
    one_more_of_theirs slab_of mine c.args.theirs.now c.loop-item.item-index item
    c.earlier-first.result c.loop-item-test.true c.item-item.is
    (c.earlier-first.ensures (λ x. mine x && items_have slab_of so_far x)
    (λ x. mine x && slab_has (slab_of item) x) c.loop-item.invariant
    (subst (λ s. IsFirstPoint (λ x. mine x && slab_has s x) c.first_shared_with.result) c.slab.ensures
    c.first_shared_with.ensures))
