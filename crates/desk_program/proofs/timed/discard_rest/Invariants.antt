use Rattle.std.proofs.Common.{◌≡◌, IfSome, Some}
use Rattle.desk_program.proofs.timed.discard_rest.Given as goal

abbrev pub invariant-loop : goal.invariant-loop
invariant-loop g l = IfSome l.fn.input.end (λ last. l.input.end ≡ Some last)
