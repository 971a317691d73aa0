use Rattle.s2_cellid.proofs.lemmas.Block.{first_is_leaf, leaves_between}
use Rattle.s2_cellid.proofs.CellId.first.Goals as goal

pub returns-clause-leaf : goal.returns-clause-leaf
returns-clause-leaf c =
    rw c.first_leaf_id.ensures.value (first_is_leaf c.args.self.now c.first_leaf_id.ensures.valid)

pub returns-clause-positions : goal.returns-clause-positions
returns-clause-positions c = leaves_between c.args.self.now c.first_leaf_id.ensures.valid
