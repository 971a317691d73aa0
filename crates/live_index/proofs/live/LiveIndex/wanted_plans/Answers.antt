use Rattle.live_index.specs.Live.{volumes_of}
use Rattle.live_index.proofs.NearLemmas.{are_wanted_plans, found_weaker, some_weaker}
use Rattle.live_index.proofs.live.LiveIndex.wanted_plans.Goals as goal

pub returns-then-is_some : goal.returns-then-is_some
returns-then-is_some c =
    let wanted = c.args.wanted.now in
    some_weaker c.in_ok-apart.apart (λ keys near w kept.
    are_wanted_plans wanted.operator wanted.id wanted.least c.args.extents.now keys.items w
    (volumes_of c.args.self.now) kept.live (near kept.group_bounded)) c.in_ok-apart.ensures

pub returns : goal.returns
returns c =
    let wanted = c.args.wanted.now in
    found_weaker c.near_at_once.result (λ keys near w kept.
    are_wanted_plans wanted.operator wanted.id wanted.least c.args.extents.now keys.items w
    (volumes_of c.args.self.now) kept.live (near kept.group_bounded)) c.near_at_once.ensures
