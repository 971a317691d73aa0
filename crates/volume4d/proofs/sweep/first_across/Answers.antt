use Rattle.std.proofs.Common.{◌≤◌, length, ap, arith, get_or}
use Rattle.volume4d.proofs.LaneLemmas.{across_more, all_ascend, all_met, lane_ascends}
use Rattle.volume4d.proofs.sweep.first_across.Goals as goal

pub first_in_lane-first-requires : goal.first_in_lane-first-requires
first_in_lane-first-requires c =
    let now = c.loop-lane.lanes in
    let i = c.loop-lane.lane-index in
    let lane = get_or now i c.lane-item.result in
    lane_ascends c.args.lanes.now now i lane (omega arith) c.loop-lane.auto.lanes
    (ap (get_or now i) c.lane-item.is) c.loop-lane.invariant.rest c.requires

pub loop-lane-preserved : goal.loop-lane-preserved
loop-lane-preserved c =
    let now = c.loop-lane.lanes in
    let i = c.loop-lane.lane-index in
    let lane = get_or now i c.lane-item.result in
    across_more c.args.lanes.now now i lane c.first_in_lane-first.new.lane c.args.other.now c.args.found
    c.loop-lane.first c.first_in_lane-first.result (omega arith) c.loop-lane.auto.lanes
    (ap (get_or now i) c.lane-item.is) c.loop-lane.invariant c.first_in_lane-first.ensures.order
    c.first_in_lane-first.ensures.kept c.first_in_lane-first.ensures.first

pub returns-clause-order : goal.returns-clause-order
returns-clause-order c =
    let over : length c.loop-lane.lanes ≤ c.loop-lane.lane-index = omega (
      arith,
      c.loop-lane-test.false,
      c.loop-lane.auto.lanes,
    ) in
    all_ascend c.loop-lane.lanes c.loop-lane.lane-index over c.loop-lane.invariant.order

pub returns-clause-first : goal.returns-clause-first
returns-clause-first c =
    let over : length c.args.lanes.now ≤ c.loop-lane.lane-index = omega (
      arith,
      c.loop-lane-test.false,
      c.loop-lane.auto.lanes,
    ) in
    all_met c.args.lanes.now c.loop-lane.lane-index c.args.other.now c.args.found c.loop-lane.first over
    c.loop-lane.invariant.met
