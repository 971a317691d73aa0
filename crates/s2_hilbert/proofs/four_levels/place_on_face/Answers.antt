use Rattle.std.proofs.Common.{◌-◌, ◌∙◌, ap, arith}
use Rattle.s2_hilbert.specs.Curve.{place_of}
use Rattle.s2_hilbert.proofs.FourSteps.{fours_begin, fours_go_on, fours_fit}
use Rattle.s2_hilbert.proofs.four_levels.place_on_face.Goals as goal

pub loop-step-init : goal.loop-step-init
loop-step-init c =
    let first = c.step_to-first.result.now in
    let second = c.step_to-second.result.now in
    let first_is = c.step_to-first.ensures.place ∙ ap
    (λ q. place_of c.args.turn q) c.quadrant_of.ensures.value in
    let second_is = c.step_to-second.ensures.place ∙ ap
    (λ q. place_of first.turn q) c.quadrant_of-2.ensures.value in
    rw (c.from.ensures, c.from-2.ensures, c.from-row.ensures)
    (fours_begin c.args.turn c.args.i c.args.j first.place first.turn second.place second.turn c.requires
    first_is c.step_to-first.ensures.turn second_is c.step_to-second.ensures.turn)

pub overflow_mul-place-in-loop-step : goal.overflow_mul-place-in-loop-step
overflow_mul-place-in-loop-step c =
    omega (
      arith,
      fours_fit c.args.turn c.args.i c.args.j c.loop-step.step c.loop-step.row c.loop-step.place
          c.loop-step-test.true c.loop-step.invariant,
    )

pub overflow_add-place-in-loop-step : goal.overflow_add-place-in-loop-step
overflow_add-place-in-loop-step c =
    omega (
      arith,
      fours_fit c.args.turn c.args.i c.args.j c.loop-step.step c.loop-step.row c.loop-step.place
          c.loop-step-test.true c.loop-step.invariant,
    )

pub loop-step-preserved : goal.loop-step-preserved
loop-step-preserved c =
    let digit = 7 - 1 - c.loop-step.step in
    let four = c.place_four_levels_down-four in
    let pair_is = c.pair_at.ensures.value ∙ c.paired_digits-digits.ensures digit (omega arith) in
    rw (c.from-in-loop-step.ensures, c.from-row-in-loop-step.ensures)
    (fours_go_on c.args.turn c.args.i c.args.j c.loop-step.step c.loop-step.row c.loop-step.place digit
    c.pair_at.result four.result.now.place four.result.now.row (omega arith) pair_is c.pair_at.ensures.below
    four.ensures.place four.ensures.row c.loop-step.invariant)
