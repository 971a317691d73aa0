use Rattle.std.proofs.Common.{◌≡◌, ◌++◌, map, take, drop, length, ◌-◌}
use Rattle.operator_index.specs.Roll.{close_if}
use Rattle.operator_index.proofs.account.close.Given as goal

-- the plans so far are done, and the others are what they were
abbrev pub invariant-loop-at : goal.invariant-loop-at
invariant-loop-at l = l.plans.items
    ≡ map (close_if l.id) (take l.at l.fn.plans.items) ++ drop l.at l.fn.plans.items

abbrev pub decreases-loop-at : goal.decreases-loop-at
decreases-loop-at l = length l.fn.plans.items - l.at
