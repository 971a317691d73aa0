use Rattle.std.proofs.Common.{◌≡◌}
use Rattle.desk_program.proofs.timed.discard_extra.Given as goal

abbrev pub invariant-loop : goal.invariant-loop
invariant-loop g l = l.input.end ≡ l.fn.input.end
