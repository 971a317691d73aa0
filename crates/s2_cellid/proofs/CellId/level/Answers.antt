use Rattle.s2_cellid.proofs.lemmas.Family.{level_square}
use Rattle.s2_cellid.proofs.CellId.level.Goals as goal

pub returns-clause-leaves : goal.returns-clause-leaves
returns-clause-leaves c =
    rw (← c.self.view_is)
    (λ inner leaf inner_is leaf_is has. level_square c.self.inside.id inner leaf c.self.invariant inner_is
    leaf_is has)
