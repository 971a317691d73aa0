use Rattle.std.proofs.lemmas.Bool.{and_from}
use Rattle.std.proofs.Common.{sym}
use Rattle.volume4d.proofs.Corners.{has_both, leaf_out, none_before, none_left, none_right, time_out}
use Rattle.volume4d.proofs.corner.least_corner.Goals as goal

pub returns : goal.returns
returns c = (
  and_from _ _ (has_both c.args.mine.now c.corner_of-corner.result (sym c.if-not-has_leaf.ensures)
      (sym c.if-not-has_altitude_and_second.ensures))
      (has_both c.args.theirs.now c.corner_of-corner.result (sym c.if-not-has_leaf-2.ensures)
      (sym c.if-not-has_altitude_and_second-2.ensures)),
  none_before c.args.mine.now c.args.theirs.now c.corner_of-corner.result c.corner_of-corner.ensures,
)

pub returns-then-not-has_leaf : goal.returns-then-not-has_leaf
returns-then-not-has_leaf c =
    none_left c.args.mine.now c.args.theirs.now c.corner_of-corner.result c.corner_of-corner.ensures
    (leaf_out c.args.mine.now c.corner_of-corner.result c.if-not-has_leaf.ensures)

pub returns-then-not-has_leaf-2 : goal.returns-then-not-has_leaf-2
returns-then-not-has_leaf-2 c =
    none_right c.args.mine.now c.args.theirs.now c.corner_of-corner.result c.corner_of-corner.ensures
    (leaf_out c.args.theirs.now c.corner_of-corner.result c.if-not-has_leaf-2.ensures)

pub returns-then-not-has_altitude_and_second : goal.returns-then-not-has_altitude_and_second
returns-then-not-has_altitude_and_second c =
    none_left c.args.mine.now c.args.theirs.now c.corner_of-corner.result c.corner_of-corner.ensures
    (time_out c.args.mine.now c.corner_of-corner.result c.if-not-has_altitude_and_second.ensures)

pub returns-then-not-has_altitude_and_second-2 : goal.returns-then-not-has_altitude_and_second-2
returns-then-not-has_altitude_and_second-2 c =
    none_right c.args.mine.now c.args.theirs.now c.corner_of-corner.result c.corner_of-corner.ensures
    (time_out c.args.theirs.now c.corner_of-corner.result c.if-not-has_altitude_and_second-2.ensures)
