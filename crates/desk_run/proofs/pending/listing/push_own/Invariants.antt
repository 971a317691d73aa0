use Rattle.std.proofs.Common.{◌≡◌, true, drop}
use Rattle.volume4d.specs.Volume.{Point}
use Rattle.volume4d.specs.Slab.{top_held, greater}
use Rattle.desk_rules.specs.Conflict.{at_least}
use Rattle.desk_rules.specs.Outcome.{row_holds}
use Rattle.desk_run.specs.HeldAmong.{own_top}
use Rattle.desk_run.proofs.pending.listing.push_own.Given as goal

-- the levels so far and those of the plans that are left are the levels of all
abbrev pub invariant-loop-plan : goal.invariant-loop-plan
invariant-loop-plan l = (x : Point) → row_holds l.mine x ≡ true
    → greater (top_held l.theirs.items x)
    (at_least l.least (own_top l.mine.id (drop l.plan-index l.plans) x))
    ≡ greater (top_held l.fn.theirs.items x) (at_least l.least (own_top l.mine.id l.plans x))
