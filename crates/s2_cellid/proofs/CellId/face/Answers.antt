use Rattle.s2_cellid.proofs.lemmas.Family.{face_square}
use Rattle.s2_cellid.proofs.CellId.face.Goals as goal

pub returns-clause-leaves : goal.returns-clause-leaves
returns-clause-leaves c =
    rw (← c.self.view_is, c.face_of.ensures)
    (λ leaf is has. face_square c.self.inside.id leaf c.self.invariant is has)
