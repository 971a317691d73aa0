use Rattle.std.proofs.Common.{ap, arith}
use Rattle.volume4d.proofs.Sweeping.{rises_more}
use Rattle.volume4d.proofs.sweep.is_ascending.Goals as goal

pub loop-item-preserved : goal.loop-item-preserved
loop-item-preserved g c =
    rises_more g.T.HasSlab.slab_of c.args.list.now c.loop-item.item-index c.item-item.result
    c.loop-item.first c.slab.result.now.first c.loop-item-test.true c.item-item.is
    c.loop-item.invariant (omega (arith, c.if-next-first.false)) (ap (λ s. s.first) c.slab.ensures)
