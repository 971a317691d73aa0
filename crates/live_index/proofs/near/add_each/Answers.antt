use Rattle.slab_regions.specs.Regions.{sought_has}
use Rattle.live_index.proofs.NearLemmas.{adds_none, adds_volume}
use Rattle.live_index.proofs.near.add_each.Goals as goal

pub loop-live-init : goal.loop-live-init
loop-live-init c = adds_none c.args.wanted.now (sought_has c.args.sought.now) c.args.near.now

pub loop-live-preserved : goal.loop-live-preserved
loop-live-preserved c =
    adds_volume c.args.wanted.now (sought_has c.args.sought.now) c.args.lives.now c.loop-live.live-index
    c.live-item.result c.args.near.now c.loop-live.near c.add_if_near.new.self c.loop-live-test.true
    c.live-item.is c.loop-live.invariant c.in_ok-add_if_near.ensures
