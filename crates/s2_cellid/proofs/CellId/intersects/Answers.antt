use Rattle.std.proofs.Common.{arith}
use Rattle.std.proofs.lemmas.Bool.Decides.{nat_tests}
use Rattle.s2_cellid.proofs.lemmas.Block.{shared_leaf, ranges_meet}
use Rattle.s2_cellid.proofs.lemmas.Family.{some_leaf}
use Rattle.s2_cellid.proofs.CellId.intersects.Goals as goal

pub returns-then-first_leaf_id-last_leaf_id-clause-positions :
    goal.returns-then-first_leaf_id-last_leaf_id-clause-positions
returns-then-first_leaf_id-last_leaf_id-clause-positions c =
    let self_valid = c.first_leaf_id.ensures.valid in
    let other_valid = c.last_leaf_id.ensures.valid in (
      λ holds. shared_leaf c.args.self.now c.args.other.now self_valid other_valid (omega arith)
          (grind (arith, nat_tests)),
      λ shared. let meet =
          ranges_meet c.args.self.now c.args.other.now shared in grind (arith, nat_tests),
    )

pub returns-then-first_leaf_id-last_leaf_id-clause-leaves :
    goal.returns-then-first_leaf_id-last_leaf_id-clause-leaves
returns-then-first_leaf_id-last_leaf_id-clause-leaves c =
    let positions = returns-then-first_leaf_id-last_leaf_id-clause-positions c in
    let leaves = some_leaf c.args.self.now c.args.other.now c.last_leaf_id.ensures.valid in
    (λ holds. leaves.0 (positions.0 holds), λ shared. positions.1 (leaves.1 shared))
