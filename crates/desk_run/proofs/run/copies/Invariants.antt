use Rattle.std.proofs.Common.{◌≡◌, map, take}
use Rattle.desk_run.specs.Calls.{as_reported}
use Rattle.desk_run.proofs.run.copies.Given as goal

-- the outcomes so far
abbrev pub invariant-loop-outcome : goal.invariant-loop-outcome
invariant-loop-outcome l = map as_reported l.copies.items ≡ map as_reported (take l.outcome-index l.outcomes.items)
