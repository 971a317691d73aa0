use Rattle.std.proofs.Common.{◌≡◌, take}
use Rattle.std.specs.Str.Parse.{digits_value, AllDigits}
use Rattle.s2_cellid.proofs.tokens.zero_padded_value.Given as goal

-- the value is that of the digits so far, and each of them is one
abbrev pub invariant-loop-byte : goal.invariant-loop-byte
invariant-loop-byte l =
    (l.value ≡ digits_value 16 (take l.byte-index l.token)) × AllDigits 16
    (take l.byte-index l.token)
