use Rattle.s2_hilbert.proofs.SquareFacts.{face_square, face_turn}
use Rattle.s2_hilbert.proofs.squares.Square.of_face.Goals as goal

pub invariant_of-result : goal.invariant_of-result
invariant_of-result c = (face_square c.args.face c.requires, face_turn c.args.face)
