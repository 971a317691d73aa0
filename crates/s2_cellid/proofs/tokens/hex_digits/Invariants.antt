use Rattle.std.proofs.Common.{◌≡◌, ℕ, ◌<◌, get_or}
use Rattle.s2_cellid.specs.Cell.{hex_digits}
use Rattle.s2_cellid.proofs.tokens.hex_digits.Given as goal

-- the digits so far are in their places
abbrev pub invariant-loop-place : goal.invariant-loop-place
invariant-loop-place l =
    (k : ℕ) → k < l.place → get_or l.digit-items k 0 ≡ get_or (hex_digits 16 l.id) k 0
