use Rattle.std.proofs.Common.{◌≡◌, ◌-◌}
use Rattle.db_file.specs.Orders as spec
use Rattle.db_file.proofs.orders.are_moved.Given as goal

-- all are moved if all from here on are
abbrev pub invariant-loop-to : goal.invariant-loop-to
invariant-loop-to l =
    spec.are_moved l.fn.is_packed l.fn.old l.fn.page l.to (l.fn.count - l.to)
    ≡ spec.are_moved l.fn.is_packed l.fn.old l.fn.page 0 l.fn.count
