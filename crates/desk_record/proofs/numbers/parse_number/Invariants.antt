use Rattle.std.proofs.Common.{◌≡◌, drop}
use Rattle.desk_record.specs.Record.{number_from}
use Rattle.desk_record.proofs.numbers.parse_number.Given as goal

-- the digits that are left give the number
abbrev pub invariant-loop-digit : goal.invariant-loop-digit
invariant-loop-digit l = number_from l.number (drop l.digit-index l.text) ≡ number_from 0 l.text
