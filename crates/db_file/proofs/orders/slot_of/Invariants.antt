use Rattle.std.proofs.Common.{◌≡◌, ◌-◌}
use Rattle.db_file.specs.Orders as spec
use Rattle.db_file.proofs.orders.slot_of.Given as goal

-- what is found from here on is what is found at all
abbrev pub invariant-loop-slot : goal.invariant-loop-slot
invariant-loop-slot l =
    spec.slot_from l.fn.page l.fn.name l.slot (l.count - l.slot)
    ≡ spec.slot_from l.fn.page l.fn.name 0 l.count
