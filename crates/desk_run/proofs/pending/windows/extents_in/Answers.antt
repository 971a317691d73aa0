use Rattle.desk_run.proofs.WindowLemmas.{part_more}
use Rattle.desk_run.proofs.pending.windows.extents_in.Goals as goal

pub loop-slab-preserved : goal.loop-slab-preserved
loop-slab-preserved c =
    part_more c.args.slabs.now c.loop-slab.slab-index c.slab-item.result c.args.piece.now
    c.loop-slab.extents.items c.add_part.new.extents.items c.loop-slab-test.true c.slab-item.is
    c.in_ok-add_part.ensures.kept c.loop-slab.invariant c.in_ok-add_part.ensures.has
