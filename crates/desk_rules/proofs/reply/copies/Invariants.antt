use Rattle.std.proofs.Common.{◌≡◌, take}
use Rattle.desk_rules.proofs.reply.copies.Given as goal

-- the rows so far
abbrev pub invariant-loop-shown : goal.invariant-loop-shown
invariant-loop-shown l = l.copies.items ≡ take l.shown-index l.plans.items
