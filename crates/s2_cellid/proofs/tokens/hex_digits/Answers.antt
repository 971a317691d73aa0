use Rattle.std.proofs.Common.{◌<◌, ◌≢◌, length, arith, get_or-set_other, get_or-set_same, below_more, sym, ◌∙◌}
use Rattle.std.proofs.lemmas.List.{ext_get_or}
use Rattle.s2_cellid.specs.Cell.{hex_digits}
use Rattle.s2_cellid.proofs.Spellings.{digit_at, length-hex_digits}
use Rattle.s2_cellid.proofs.tokens.hex_digits.Goals as goal

pub loop-place-preserved : goal.loop-place-preserved
loop-place-preserved c = below_more _ _
    (λ k h.
    let other : k ≢ c.loop-place.place = omega arith in
    rw get_or-set_other (c.loop-place.invariant k h))
    (let within : c.loop-place.place < length c.loop-place.digit-items = omega arith in
    let digit = digit_at c.args.id c.loop-place.place c.loop-place-test.true in
    rw get_or-set_same (c.hex_digit.ensures ∙ digit))

pub returns : goal.returns
returns c =
    let all = length-hex_digits 16 c.args.id in
    let long = c.loop-place-test.array_long in
    ext_get_or 0 c.loop-place.digit-items (hex_digits 16 c.args.id) (long ∙ sym all)
    (λ k below. c.loop-place.invariant k (omega arith))
