use Rattle.std.proofs.Common.{◌≡◌, ◌-◌, length}
use Rattle.db_file.specs.Orders as spec
use Rattle.db_file.proofs.orders.place_rows.Given as goal

-- what comes of all rows is what comes of those from here on
abbrev pub invariant-loop-to : goal.invariant-loop-to
invariant-loop-to l = record {
  same : length l.page ≡ length l.fn.page;
  placed : spec.placed l.fn.old l.to (l.fn.count - l.to) l.page ≡ spec.placed l.fn.old 0 l.fn.count l.fn.page;
}
