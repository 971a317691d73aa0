use Rattle.std.proofs.Common.{◌≡◌, Some, map, take}
use Rattle.desk_cli.specs.Grammar.{priority_in}
use Rattle.desk_cli.proofs.equal.parse_priorities.Given as goal

-- the priorities so far
abbrev pub invariant-loop-part : goal.invariant-loop-part
invariant-loop-part l =
    map Some l.priorities.items ≡ map (λ part. priority_in part.now) (take l.part-index l.parts)
