use Rattle.std.proofs.Common.{take}
use Rattle.desk_run.specs.HeldAmong.{HaveAll, some_hold}
use Rattle.desk_run.proofs.pending.listing.extents_of.Given as goal

-- the extents have each point that one of the plans so far holds
abbrev pub invariant-loop-plan : goal.invariant-loop-plan
invariant-loop-plan l = HaveAll (some_hold (take l.plan-index l.plans)) l.extents.items
