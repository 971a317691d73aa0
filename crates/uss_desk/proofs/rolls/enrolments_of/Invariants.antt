use Rattle.std.proofs.Common.{◌≡◌, ◌++◌, drop, map}
use Rattle.uss_desk.specs.OpenedFor.{as_listed}
use Rattle.uss_desk.proofs.rolls.enrolments_of.Given as goal

-- those so far, and those that are left, are all
abbrev pub invariant-loop-one : goal.invariant-loop-one
invariant-loop-one l = map as_listed l.operators.items ++ drop l.one-index l.fn.listed ≡ l.fn.listed
