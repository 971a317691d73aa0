use Rattle.std.proofs.Common.{◌≡◌, ◌<◌, ◌≤◌, ◌^◌, take, length, true}
use Rattle.std.specs.Char.{is_ascii_digit}
use Rattle.std.specs.List.{list_all}
use Rattle.std.specs.Str.Parse.{digits_value}
use Rattle.request_parser.proofs.fields.read_decimal.Given as goal

-- the digits so far, and the number that they write
abbrev pub invariant-loop-digit : goal.invariant-loop-digit
invariant-loop-digit l = record {
  short : length l.digits ≤ 19;
  digits : list_all is_ascii_digit (take l.digit-index l.digits) ≡ true;
  value : l.total ≡ digits_value 10 (take l.digit-index l.digits);
  small : l.total < 10 ^ l.digit-index;
}
