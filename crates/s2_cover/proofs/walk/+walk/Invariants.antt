use Rattle.std.proofs.Common.{◌+◌, ◌-◌, ◌*◌}
use Rattle.s2_hilbert.specs.Curve.{first_position, leaf_count}
use Rattle.s2_cover.specs.Covers.{wide_set}
use Rattle.s2_cover.proofs.Walks.{IsWalking}
use Rattle.s2_cover.proofs.walk.+walk.Given as goal

abbrev pub decreases-walk : goal.decreases-walk
decreases-walk l = l.wide.now.level - l.square.now.level

abbrev pub invariant-loop-k : goal.invariant-loop-k
invariant-loop-k l =
    IsWalking (wide_set l.wide) (l.wide.level - l.square.level - 1) l.limit (60 - 2 * (l.square.level + 1))
    (first_position l.square) (leaf_count (l.square.level + 1)) l.k l.fn.cells.items l.cells.items l.fn.looked
    l.looked
