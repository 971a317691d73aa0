use Rattle.std.proofs.Common.{◌<◌, ◌≡◌, slice_index_or, arith, sym}
use Rattle.std.specs.Char.{is_ascii_digit, digit_value}
use Rattle.std.proofs.lemmas.Int.Digits.{digits_value_more}
use Rattle.std.proofs.lemmas.List.Folds.{list_all_more}
use Rattle.std.proofs.lemmas.Str.{digit_value_digit}
use Rattle.std.proofs.lemmas.Bool.{and_from}
use Rattle.request_parser.proofs.FieldLemmas.{digits_fit, digits_more}
use Rattle.request_parser.proofs.fields.read_decimal.Goals as goal

pub overflow_mul-total : goal.overflow_mul-total
overflow_mul-total c =
    let fits = digits_fit c.loop-digit.total c.loop-digit.digit-index c.loop-digit.invariant.small
    (omega arith) in
    omega (arith, fits)

pub overflow_add-total : goal.overflow_add-total
overflow_add-total c =
    let fits = digits_fit c.loop-digit.total c.loop-digit.digit-index c.loop-digit.invariant.small
    (omega arith) in
    omega (arith, fits, c.if-not-is_ascii_digit.ensures.cases)

pub loop-digit-preserved : goal.loop-digit-preserved
loop-digit-preserved c =
    let digits = c.args.digits.now in
    let i = c.loop-digit.digit-index in
    let below = c.loop-digit-test.true in
    let range = c.if-not-is_ascii_digit.ensures.cases in
    let one : c.from.result < 10 = omega (arith, range) in
    let digit : c.from.result ≡ digit_value (slice_index_or digits i 0) =
    omega (arith, range, digit_value_digit _ range) in
    record {
      short = c.loop-digit.invariant.short;
      digits = rw (list_all_more is_ascii_digit digits i 0 below)
          (and_from _ _ c.loop-digit.invariant.digits (sym c.if-not-is_ascii_digit.ensures.value));
      value = rw (digits_value_more 10 digits i below) (cc (c.loop-digit.invariant.value, digit));
      small = digits_more c.loop-digit.total c.from.result i c.loop-digit.invariant.small one;
    }
