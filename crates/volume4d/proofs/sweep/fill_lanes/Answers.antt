use Rattle.std.proofs.Common.{take}
use Rattle.volume4d.proofs.LaneLemmas.{all_at_end, all_covered}
use Rattle.volume4d.proofs.sweep.fill_lanes.Goals as goal

pub loop-slab-preserved : goal.loop-slab-preserved
loop-slab-preserved c =
    let old = take c.loop-slab.count c.loop-slab.lanes in
    let new = take c.in_ok-count.count c.add_lane.new.lanes in
    record {
      within = c.in_ok-count.ensures.within;
      covered = all_covered old new c.args.mine.now c.loop-slab.slab-index c.slab-item.result
          c.loop-slab-test.true c.slab-item.is c.in_ok-count.ensures.kept c.in_ok-count.ensures.covered
          c.loop-slab.invariant.covered;
      of = c.add_lane.ensures.all_left;
    }

pub returns-clause-covered : goal.returns-clause-covered
returns-clause-covered c =
    all_at_end (take c.loop-slab.count c.loop-slab.lanes) c.args.mine.now c.loop-slab.slab-index
    c.loop-slab-test.false c.loop-slab.invariant.covered
