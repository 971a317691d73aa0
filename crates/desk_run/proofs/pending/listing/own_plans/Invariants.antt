use Rattle.std.proofs.Common.{◌≡◌, take}
use Rattle.desk_run.proofs.pending.listing.own_plans.Given as goal

-- the plans so far
abbrev pub invariant-loop-row : goal.invariant-loop-row
invariant-loop-row l = l.plans.items ≡ take l.row-index l.rows
