use Rattle.s2_cellid.proofs.lemmas.Block.{last_is_leaf, leaves_between, ends_below}
use Rattle.s2_cellid.proofs.CellId.last.Goals as goal

pub returns-clause-leaf : goal.returns-clause-leaf
returns-clause-leaf c =
    rw c.last_leaf_id.ensures.value (last_is_leaf c.args.self.now c.last_leaf_id.ensures.valid)

pub returns-clause-positions : goal.returns-clause-positions
returns-clause-positions c = leaves_between c.args.self.now c.last_leaf_id.ensures.valid

pub returns-clause-below : goal.returns-clause-below
returns-clause-below c =
    rw c.last_leaf_id.ensures.value ((ends_below c.args.self.now c.last_leaf_id.ensures.valid).1)
