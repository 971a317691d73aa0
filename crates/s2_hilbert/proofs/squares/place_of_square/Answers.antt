use Rattle.std.proofs.Common.{◌≡◌, ◌-◌, ◌/◌, arith}
use Rattle.s2_hilbert.specs.Curve.{place}
use Rattle.s2_hilbert.proofs.lemmas.Place.{four_pow_pos, place_below}
use Rattle.s2_hilbert.proofs.SquareFacts.{side_room, square_place_is}
use Rattle.s2_hilbert.proofs.squares.place_of_square.Goals as goal

pub overflow_mul-a : goal.overflow_mul-a
overflow_mul-a c =
    rw c.side_of-side.ensures.value (omega
    (arith, side_room c.args.level c.args.a c.requires.level c.requires.a))

pub overflow_mul-b : goal.overflow_mul-b
overflow_mul-b c =
    rw c.side_of-side.ensures.value (omega
    (arith, side_room c.args.level c.args.b c.requires.level c.requires.b))

pub nonzero_div-result : goal.nonzero_div-result
nonzero_div-result c = rw c.leaf_count.ensures (omega (arith, four_pow_pos (30 - c.args.level)))

-- the number that is returned is the place
is_place : (c : goal.After-leaf_count) → c.place_on_face.result / c.leaf_count.result
    ≡ place c.args.level c.args.turn c.args.a c.args.b
is_place c =
    rw (c.place_on_face.ensures.value, c.leaf_count.ensures, c.side_of-side.ensures.value)
    (square_place_is c.args.level c.args.turn c.args.a c.args.b c.requires.level c.requires.turn)

pub returns-clause-value : goal.returns-clause-value
returns-clause-value c = is_place c

pub returns-clause-below : goal.returns-clause-below
returns-clause-below c =
    rw (is_place c) (place_below c.args.level c.args.turn c.args.a c.args.b c.requires.turn)
