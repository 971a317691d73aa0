use Rattle.std.proofs.Common.{arith}
use Rattle.std.proofs.lemmas.Bool.Decides.{nat_tests}
use Rattle.s2_cellid.proofs.lemmas.Block.{range_by_leaves}
use Rattle.s2_cellid.proofs.lemmas.Family.{all_leaves}
use Rattle.s2_cellid.proofs.CellId.contains.Goals as goal

pub returns-then-first_leaf_id-other-clause-positions : goal.returns-then-first_leaf_id-other-clause-positions
returns-then-first_leaf_id-other-clause-positions c =
    let same = c.other.view_is in
    let leaves =
    range_by_leaves c.args.self.now c.args.other.now c.first_leaf_id.ensures.valid
    (rw c.other.view_is at c.other.invariant) in (
      λ holds. leaves.0 (omega (arith, same), grind (arith, nat_tests)),
      λ all. let range = leaves.1 all in grind (arith, nat_tests),
    )

pub returns-else-first_leaf_id-other-clause-positions : goal.returns-else-first_leaf_id-other-clause-positions
returns-else-first_leaf_id-other-clause-positions c =
    let same = c.other.view_is in
    let leaves =
    range_by_leaves c.args.self.now c.args.other.now c.first_leaf_id.ensures.valid
    (rw c.other.view_is at c.other.invariant) in (
      λ holds. leaves.0 (grind (arith, nat_tests), grind (arith, nat_tests)),
      λ all. let range = leaves.1 all in grind (arith, nat_tests),
    )

pub returns-then-first_leaf_id-other-clause-leaves : goal.returns-then-first_leaf_id-other-clause-leaves
returns-then-first_leaf_id-other-clause-leaves c =
    let positions = returns-then-first_leaf_id-other-clause-positions c in
    let leaves = all_leaves c.args.self.now c.args.other.now (rw c.other.view_is at c.other.invariant) in
    (λ holds. leaves.0 (positions.0 holds), λ all. positions.1 (leaves.1 all))

pub returns-else-first_leaf_id-other-clause-leaves : goal.returns-else-first_leaf_id-other-clause-leaves
returns-else-first_leaf_id-other-clause-leaves c =
    let positions = returns-else-first_leaf_id-other-clause-positions c in
    let leaves = all_leaves c.args.self.now c.args.other.now (rw c.other.view_is at c.other.invariant) in
    (λ holds. leaves.0 (positions.0 holds), λ all. positions.1 (leaves.1 all))
