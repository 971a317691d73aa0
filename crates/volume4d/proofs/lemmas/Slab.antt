-- Laws of the points of a slab, with their proofs.
use Rattle.std.proofs.Common.{◌≡◌, true, ◌&&◌, leb}
use Rattle.std.specs.Prelude.{int_le, int_lt}
use Rattle.std.proofs.lemmas.Bool.{and_parts, and_from}
use Rattle.s2_hilbert.specs.Curve.{position_of}
use Rattle.volume4d.specs.declared.slab.Slab.{Slab}
use Rattle.volume4d.specs.Volume.{Point, is_leaf}
use Rattle.volume4d.specs.Slab.{slab_has_leaf, slab_has}

-- the tests that a slab makes of a point
pub record IsIn (s : Slab) (x : Point) : Type 0 where
  pub is : is_leaf x.leaf ≡ true
  pub first : leb s.first (position_of x.leaf) ≡ true
  pub last : leb (position_of x.leaf) s.last ≡ true
  pub lower : int_le s.lower x.altitude ≡ true
  pub upper : int_lt x.altitude s.upper ≡ true
  pub start : int_le s.start x.second ≡ true
  pub end : int_lt x.second s.end ≡ true

pub IsIn-from_has : (s : Slab) (x : Point) → slab_has s x ≡ true → IsIn s x
IsIn-from_has s x h =
    let parts = and_parts _ (int_le s.start x.second && int_lt x.second s.end) h in
    let ground_part = and_parts (slab_has_leaf s x.leaf) _ parts.0 in
    let leaf_part = and_parts (is_leaf x.leaf) _ ground_part.0 in
    let leaves = and_parts (leb s.first (position_of x.leaf)) _ leaf_part.1 in
    let altitudes = and_parts (int_le s.lower x.altitude) _ ground_part.1 in
    let seconds = and_parts (int_le s.start x.second) _ parts.1 in
    record {
      is = leaf_part.0;
      first = leaves.0;
      last = leaves.1;
      lower = altitudes.0;
      upper = altitudes.1;
      start = seconds.0;
      end = seconds.1;
    }

pub has-from_IsIn : (s : Slab) (x : Point) → IsIn s x → slab_has s x ≡ true
has-from_IsIn s x w =
    and_from _ _ (and_from _ _ (and_from _ _ w.is (and_from _ _ w.first w.last))
    (and_from _ _ w.lower w.upper)) (and_from _ _ w.start w.end)
