use Rattle.s2_cellid.proofs.lemmas.Family.{leaf_cell, leaf_cell_has}
use Rattle.s2_cellid.proofs.CellId.of_leaf.Goals as goal

pub invariant_of-result : goal.invariant_of-result
invariant_of-result c = (leaf_cell c.position.result c.position.ensures.below).valid

pub returns-clause-level : goal.returns-clause-level
returns-clause-level c = (leaf_cell c.position.result c.position.ensures.below).level_is

pub returns-clause-leaves : goal.returns-clause-leaves
returns-clause-leaves c =
    rw c.position.ensures.value (λ other is. leaf_cell_has c.args.leaf other c.position.ensures.leaf is)

pub returns-clause-valid : goal.returns-clause-valid
returns-clause-valid c = invariant_of-result c
