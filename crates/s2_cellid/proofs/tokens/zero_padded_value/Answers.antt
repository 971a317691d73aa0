use Rattle.std.proofs.Common.{◌≡◌, ◌<◌, ◌≤◌, length, take, get_or, arith, ◌∙◌}
use Rattle.std.specs.Char.{digit_value}
use Rattle.std.proofs.lemmas.Int.Digits.{digits_more, digits_value_more}
use Rattle.std.proofs.lemmas.List.{length-take, take_all}
use Rattle.s2_cellid.proofs.Spellings.{one_more_fits, shifted, is_hex-from_digits}
use Rattle.s2_cellid.proofs.tokens.zero_padded_value.Goals as goal

pub overflow_mul-value : goal.overflow_mul-value
overflow_mul-value c =
    let so_far = take c.loop-byte.byte-index c.args.token.now in
    let short : length so_far ≤ 15 =
    omega (arith, length-take c.loop-byte.byte-index c.args.token.now) in
    let room =
    one_more_fits so_far c.loop-byte.value 0 c.loop-byte.invariant.1 c.loop-byte.invariant.0
    short (omega arith) in
    omega (arith, room)

pub overflow_add-value : goal.overflow_add-value
overflow_add-value c =
    let so_far = take c.loop-byte.byte-index c.args.token.now in
    let short : length so_far ≤ 15 =
    omega (arith, length-take c.loop-byte.byte-index c.args.token.now) in
    let digit : c.from.result < 16 = omega (arith, c.in_ok-hex_value.ensures) in
    let room =
    one_more_fits so_far c.loop-byte.value c.from.result c.loop-byte.invariant.1
    c.loop-byte.invariant.0 short digit in
    omega (arith, room)

pub loop-byte-preserved : goal.loop-byte-preserved
loop-byte-preserved c =
    let within : c.loop-byte.byte-index < length c.args.token.now = omega arith in
    let value = digits_value_more 16 c.args.token.now c.loop-byte.byte-index within in
    let digit : c.from.result ≡ digit_value
    (get_or c.args.token.now c.loop-byte.byte-index 0) =
    c.from.ensures ∙ c.in_ok-hex_value.ensures.1 in (
      omega (arith, value, digit, c.loop-byte.invariant.0),
      digits_more 16 c.args.token.now c.loop-byte.byte-index within c.loop-byte.invariant.1
          c.in_ok-hex_value.ensures.0,
    )

pub returns : goal.returns
returns c =
    let all : take c.loop-byte.byte-index c.args.token.now ≡ c.args.token.now =
    take_all c.loop-byte.byte-index c.args.token.now (omega arith) in
    let digits = rw all at c.loop-byte.invariant.1 in
    let value = rw all at c.loop-byte.invariant.0 in
    let whole = shifted c.args.token.now c.requires.some c.requires.at_most digits in
    (is_hex-from_digits c.args.token.now digits, rw value whole)
