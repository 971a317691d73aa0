use Rattle.std.proofs.Common.{◌≡◌, take}
use Rattle.std.proofs.lemmas.List.Elements.{All-take}
use Rattle.volume4d.specs.Sweep.{items_have}
use Rattle.volume4d.proofs.LaneLemmas.{lanes_share}
use Rattle.volume4d.proofs.sweep.sweep.Goals as goal

pub returns : goal.returns
returns g c =
    lanes_share (take c.in_ok-count.count c.fill_lanes.new.lanes) c.args.mine.now
    (items_have g.T.HasSlab.slab_of c.args.theirs.now) c.first_along.result
    (All-take (λ l. l.left.now ≡ c.args.mine.now) c.in_ok-count.count c.fill_lanes.new.lanes
    c.fill_lanes.ensures.all_left)
    c.in_ok-count.ensures.covered c.first_along.ensures
