use Rattle.volume4d.proofs.LaneLemmas.{first_added}
use Rattle.volume4d.proofs.sweep.first_in_lane.Goals as goal

pub returns-clause-first : goal.returns-clause-first
returns-clause-first c =
    first_added c.args.lane.now.window c.args.other.now c.args.lane.now.left.now c.without_skipped-lane.result.now
    c.args.found c.first_of_head.result c.earlier.result c.without_skipped-lane.ensures.left c.first_of_head.ensures
    c.earlier.ensures
