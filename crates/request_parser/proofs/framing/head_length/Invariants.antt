use Rattle.std.proofs.Common.{◌≡◌, take, None}
use Rattle.request_parser.specs.Heads.{ends_head, least}
use Rattle.request_parser.proofs.framing.head_length.Given as goal

-- no shorter prefix ends a head
abbrev pub invariant-loop-n : goal.invariant-loop-n
invariant-loop-n l = least (λ n. ends_head (take n l.text)) l.n ≡ None
