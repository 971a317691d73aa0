use Rattle.std.proofs.Common.{◌-◌, ◌*◌, ◌/◌, ◌%◌, ◌^◌, ◌≡◌, bit_and, refl, arith}
use Rattle.s2_hilbert.proofs.Steps.{digit_is}
use Rattle.s2_hilbert.proofs.FourSteps.{found_begin, found_go_on, found_fit, byte_is}
use Rattle.s2_hilbert.proofs.four_levels.point_on_face.Goals as goal

pub loop-step-init : goal.loop-step-init
loop-step-init c =
    let along = c.args.along in
    let first_is : along / 2 ^ 58 ≡ along / 4 ^ 29 % 4 = omega (arith, c.requires.along) in
    rw (c.from-row.ensures, c.from.ensures, c.from-2.ensures, c.from-3.ensures, c.from-4.ensures)
    (found_begin c.args.turn along (along / 2 ^ 58) c.turned-half.result (bit_and
    (along / 2 ^ 56) 3) c.turned.result
    c.quadrant_at-outer.result c.quadrant_at-inner.result c.requires.turn c.requires.along
    first_is c.turned-half.ensures.value c.quadrant_at-outer.ensures.value
    (digit_is along 56 1 (omega arith) refl) c.turned.ensures.value c.quadrant_at-inner.ensures.value)

pub overflow_mul-i-in-loop-step : goal.overflow_mul-i-in-loop-step
overflow_mul-i-in-loop-step c =
    omega (
      arith,
      found_fit c.args.turn c.args.along c.loop-step.step c.loop-step.row c.loop-step.i c.loop-step.j
          c.loop-step-test.true c.loop-step.invariant,
    )

pub overflow_add-i-in-loop-step : goal.overflow_add-i-in-loop-step
overflow_add-i-in-loop-step c =
    omega (
      arith,
      found_fit c.args.turn c.args.along c.loop-step.step c.loop-step.row c.loop-step.i c.loop-step.j
          c.loop-step-test.true c.loop-step.invariant,
    )

pub overflow_mul-j-in-loop-step : goal.overflow_mul-j-in-loop-step
overflow_mul-j-in-loop-step c =
    omega (
      arith,
      found_fit c.args.turn c.args.along c.loop-step.step c.loop-step.row c.loop-step.i c.loop-step.j
          c.loop-step-test.true c.loop-step.invariant,
    )

pub overflow_add-j-in-loop-step : goal.overflow_add-j-in-loop-step
overflow_add-j-in-loop-step c =
    omega (
      arith,
      found_fit c.args.turn c.args.along c.loop-step.step c.loop-step.row c.loop-step.i c.loop-step.j
          c.loop-step-test.true c.loop-step.invariant,
    )

pub loop-step-preserved : goal.loop-step-preserved
loop-step-preserved c =
    let low = 7 - 1 - c.loop-step.step in
    let four = c.point_four_levels_down-four in
    let pair = bit_and (c.args.along / 2 ^ (8 * low)) 255 in
    rw (c.from-in-loop-step.ensures, c.from-in-loop-step-2.ensures, c.from-row-in-loop-step.ensures)
    (found_go_on c.args.turn c.args.along c.loop-step.step c.loop-step.row c.loop-step.i c.loop-step.j low
    pair
    four.result.now.i four.result.now.j four.result.now.row (omega arith)
    (byte_is c.args.along low) four.ensures.place
    four.ensures.i four.ensures.j four.ensures.row c.loop-step.invariant)
