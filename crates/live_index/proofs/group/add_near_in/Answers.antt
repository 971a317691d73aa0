use Rattle.slab_regions.specs.Regions.{sought_has}
use Rattle.live_index.specs.Live.{IsBoundedGroup, volumes_in}
use Rattle.live_index.proofs.NearLemmas.{adds_next, adds_none}
use Rattle.live_index.proofs.group.add_near_in.Goals as goal

pub loop-group-init : goal.loop-group-init
loop-group-init c = λ group_bounded.
    adds_none c.args.wanted.now (sought_has c.args.sought.now) c.args.near.now

pub loop-group-preserved : goal.loop-group-preserved
loop-group-preserved c =
    adds_next (λ g. volumes_in g.chunks.items) IsBoundedGroup c.args.wanted.now (sought_has c.args.sought.now)
    c.args.groups.now c.loop-group.group-index c.group-item.result c.args.near.now c.loop-group.near
    c.add_near.new.near c.loop-group-test.true c.group-item.is c.loop-group.invariant c.in_ok-add_near.ensures
