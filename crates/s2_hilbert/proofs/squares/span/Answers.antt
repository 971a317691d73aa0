use Rattle.std.proofs.Common.{arith}
use Rattle.s2_hilbert.proofs.SquareFacts.{side_room, side_positive}
use Rattle.s2_hilbert.proofs.squares.span.Goals as goal

pub overflow_mul-least : goal.overflow_mul-least
overflow_mul-least c =
    rw c.side_of-side.ensures.value (omega
    (arith, side_room c.args.level c.args.coordinate c.requires.level c.requires.coordinate))

pub overflow_add-result : goal.overflow_add-result
overflow_add-result c =
    rw c.side_of-side.ensures.value (omega
    (arith, side_room c.args.level c.args.coordinate c.requires.level c.requires.coordinate))

pub returns-clause-below : goal.returns-clause-below
returns-clause-below c =
    rw c.side_of-side.ensures.value
    (omega (
      arith,
      side_room c.args.level c.args.coordinate c.requires.level c.requires.coordinate,
      side_positive c.args.level,
    ))
