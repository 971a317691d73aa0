use Rattle.std.proofs.Common.{◌≡◌, get_or, true, arith}
use Rattle.std.proofs.lemmas.Int.Digits.{digits_value_more}
use Rattle.std.proofs.lemmas.List.Folds.{list_all_more}
use Rattle.std.specs.Char.{is_ascii_digit}
use Rattle.request_parser.proofs.DigitLemmas.{digit_small, digit_value-digit, below_next_power}
use Rattle.request_parser.proofs.times.parse_number.Goals as goal

pub loop-digit-preserved : goal.loop-digit-preserved
loop-digit-preserved c =
    let digits = c.args.digits.now in
    let i = c.loop-digit.digit-index in
    let is : is_ascii_digit (get_or digits i 0) ≡ true = cc in
    let small = digit_small (get_or digits i 0) is in
    let value = digit_value-digit (get_or digits i 0) is in
    let more = digits_value_more 10 digits i c.loop-digit-test.true in (
      rw (list_all_more is_ascii_digit digits i 0 c.loop-digit-test.true, c.loop-digit.invariant.0) is,
      omega (arith, value, more),
      below_next_power c.loop-digit.number c.from.result i c.loop-digit.invariant.2 (omega arith),
    )
