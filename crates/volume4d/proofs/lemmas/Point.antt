-- Laws of points, with their proofs.
use Rattle.std.specs.Prelude.{◌↔◌, ◌<◌, ◌^◌, IsTrue}
use Rattle.std.proofs.Common.{arith}
use Rattle.std.proofs.lemmas.Bool.Decides.{nat_tests}
use Rattle.s2_hilbert.specs.Grid.{GridLeaf, IsLeaf}
use Rattle.volume4d.specs.Volume.{is_leaf}

-- the test passes exactly for leaves
pub leaf_test : (leaf : GridLeaf) → IsTrue (is_leaf leaf) ↔ IsLeaf leaf
unfolding is_leaf
leaf_test leaf = (
  λ e. let face : leaf.face < 6 = grind (arith, nat_tests, e) in
      let i : leaf.i < 2 ^ 30 = grind (arith, nat_tests, e) in
      let j : leaf.j < 2 ^ 30 = grind (arith, nat_tests, e) in
      record { face_below = face; i_below = i; j_below = j },
  λ is. let face : leaf.face < 6 = is.face_below in
      let i : leaf.i < 2 ^ 30 = is.i_below in
      let j : leaf.j < 2 ^ 30 = is.j_below in
      grind (arith, nat_tests),
)
