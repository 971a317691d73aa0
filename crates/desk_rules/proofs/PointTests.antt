-- Points by the positions of their leaves along the curve.
use Rattle.std.proofs.Common.{◌≡◌, true}
use Rattle.s2_hilbert.specs.Curve.{position_of}
use Rattle.s2_hilbert.proofs.lemmas.Curve.{leaf_undone}
use Rattle.volume4d.specs.Volume.{Point, is_leaf}
use Rattle.volume4d.proofs.lemmas.Point.{leaf_test}
use Rattle.desk_rules.specs.Conflict.{point_of}

-- a point with a leaf, by the leaf's position
pub point_by_position : (x : Point) → is_leaf x.leaf ≡ true
    → point_of (position_of x.leaf, (x.altitude, x.second)) ≡ x
point_by_position x e =
    let same = leaf_undone x.leaf ((leaf_test x.leaf).0 e) in
    λ k. record { leaf = same k; altitude = x.altitude; second = x.second }
