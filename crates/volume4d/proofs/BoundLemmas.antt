-- The smallest slab round slabs that each have a point.
use Rattle.std.proofs.Common.{◌≡◌, ℕ, ◌+◌, ◌<◌, ◌≤◌, ℤ, pos, ◌-ℤ◌, ◌≤ℤ◌, ◌<ℤ◌, true, leb, List, length, get_or, take, sym, subst, arith}
use Rattle.std.specs.Prelude.{All, int_le, int_lt}
use Rattle.std.specs.Int.{int_min, int_max}
use Rattle.std.proofs.lemmas.Int.{ints}
use Rattle.std.proofs.lemmas.Bool.Decides.{nat_tests}
use Rattle.std.proofs.lemmas.List.{take_all}
use Rattle.std.proofs.lemmas.List.Elements.{All-get_or, All-from_get_or, All-more, All-weaker, All-contains}
use Rattle.std.proofs.lemmas.List.Folds.{Any-from_list_any, list_any_at}
use Rattle.s2_hilbert.specs.Curve.{position_of, grid_leaf_at}
use Rattle.s2_hilbert.proofs.lemmas.Curve.{position_undone}
use Rattle.volume4d.specs.declared.slab.Slab.{Slab}
use Rattle.volume4d.specs.Volume.{Point}
use Rattle.volume4d.specs.Slab.{slab_has, slabs_have, IsFilled, IsWithin, IsJoin, IsBounds}
use Rattle.volume4d.proofs.LeafTests.{leaf_at_passes}
use Rattle.volume4d.proofs.lemmas.Slab.{IsIn-from_has, has-from_IsIn}
use Rattle.volume4d.proofs.lemmas.Bounds.{left_in, right_in, within_has, within_through}

-- the least and the greatest point of a slab that has one
abbrev least_of : Slab → Point
least_of s = record { leaf = grid_leaf_at s.first; altitude = s.lower; second = s.start }

abbrev greatest_of : Slab → Point
greatest_of s =
    record { leaf = grid_leaf_at s.last; altitude = s.upper -ℤ pos 1; second = s.end -ℤ pos 1 }

same_low : (a b : ℕ) → a ≡ b → leb b a ≡ true
same_low a b e = grind (arith, nat_tests)

at_most : (a b c : ℕ) → a ≡ b → b ≤ c → leb a c ≡ true
at_most a b c e h = grind (arith, nat_tests)

at_least : (a b c : ℕ) → a ≡ b → c ≤ b → leb c a ≡ true
at_least a b c e h = grind (arith, nat_tests)

int_same : (z : ℤ) → int_le z z ≡ true
int_same z = grind (arith, ints)

int_below : (a b : ℤ) → a <ℤ b → int_lt a b ≡ true
int_below a b h = grind (arith, ints)

int_before : (a b : ℤ) → a <ℤ b → int_le a (b -ℤ pos 1) ≡ true
int_before a b h = grind (arith, ints)

int_last : (b : ℤ) → int_lt (b -ℤ pos 1) b ≡ true
int_last b = grind (arith, ints)

has_least : (s : Slab) → IsFilled s → slab_has s (least_of s) ≡ true
has_least s filled =
    let here = position_undone s.first in
    has-from_IsIn s (least_of s) (record {
      is = leaf_at_passes s.first (omega (arith, s.first_is_leaf));
      first = same_low (position_of (grid_leaf_at s.first)) s.first here;
      last = at_most (position_of (grid_leaf_at s.first)) s.first s.last here filled.ground;
      lower = int_same s.lower;
      upper = int_below s.lower s.upper filled.height;
      start = int_same s.start;
      end = int_below s.start s.end filled.time;
    })

has_greatest : (s : Slab) → IsFilled s → slab_has s (greatest_of s) ≡ true
has_greatest s filled =
    let here = position_undone s.last in
    has-from_IsIn s (greatest_of s) (record {
      is = leaf_at_passes s.last (omega (arith, s.last_is_leaf));
      first = at_least (position_of (grid_leaf_at s.last)) s.last s.first here filled.ground;
      last = at_most (position_of (grid_leaf_at s.last)) s.last s.last here (omega arith);
      lower = int_before s.lower s.upper filled.height;
      upper = int_last s.upper;
      start = int_before s.start s.end filled.time;
      end = int_last s.end;
    })

from_low : (a b p : ℕ) → p ≡ b → leb a p ≡ true → a ≤ b
from_low a b p e h = grind (arith, nat_tests)

from_high : (a b p : ℕ) → p ≡ b → leb p a ≡ true → b ≤ a
from_high a b p e h = grind (arith, nat_tests)

int_from_low : (a b : ℤ) → int_le a b ≡ true → a ≤ℤ b
int_from_low a b h = grind (arith, ints)

int_from_high : (a b : ℤ) → int_lt (b -ℤ pos 1) a ≡ true → b ≤ℤ a
int_from_high a b h = grind (arith, ints)

-- a slab that has the points of another one, which has a point, goes round it
pub has_within : (inner outer : Slab) → IsFilled inner
    → ((x : Point) → slab_has inner x ≡ true → slab_has outer x ≡ true) → IsWithin inner outer
has_within inner outer filled has =
    let least = IsIn-from_has outer (least_of inner) (has (least_of inner) (has_least inner filled)) in
    let greatest =
    IsIn-from_has outer (greatest_of inner) (has (greatest_of inner) (has_greatest inner filled)) in
    let first = position_of (grid_leaf_at inner.first) in
    let last = position_of (grid_leaf_at inner.last) in
    record {
      first = from_low outer.first inner.first first (position_undone inner.first) least.first;
      last = from_high outer.last inner.last last (position_undone inner.last) greatest.last;
      lower = int_from_low outer.lower inner.lower least.lower;
      upper = int_from_high outer.upper inner.upper greatest.upper;
      start = int_from_low outer.start inner.start least.start;
      end = int_from_high outer.end inner.end greatest.end;
    }

int_min_above : (a b m z : ℤ) → m ≡ int_min a b → z ≤ℤ a → z ≤ℤ b → z ≤ℤ m
int_min_above a b m z e p q = grind (arith, ints)

int_max_below : (a b m z : ℤ) → m ≡ int_max a b → a ≤ℤ z → b ≤ℤ z → m ≤ℤ z
int_max_below a b m z e p q = grind (arith, ints)

-- the join of two slabs lies within each slab that goes round both
join_least : (a b s outer : Slab) → IsJoin a b s → IsWithin a outer → IsWithin b outer
    → IsWithin s outer
join_least a b s outer join p q = record {
  first = omega (arith, join.first, p.first, q.first);
  last = omega (arith, join.last, p.last, q.last);
  lower = int_min_above a.lower b.lower s.lower outer.lower join.lower p.lower q.lower;
  upper = int_max_below a.upper b.upper s.upper outer.upper join.upper p.upper q.upper;
  start = int_min_above a.start b.start s.start outer.start join.start p.start q.start;
  end = int_max_below a.end b.end s.end outer.end join.end p.end q.end;
}

-- a slab round the first of some slabs, and within each slab that goes round all of them
pub record IsRound (slabs : List Slab) (count : ℕ) (bounds : Slab) : Type 0 where
  pub round : All (λ s. IsWithin s bounds) (take count slabs)
  pub least : (outer : Slab) → All (λ s. IsWithin s outer) slabs → IsWithin bounds outer

pub one_more : (slabs : List Slab) (count : ℕ) (slab bounds more : Slab) → count < length slabs
    → slab ≡ get_or slabs count slab → IsRound slabs count bounds → IsJoin bounds slab more
    → IsRound slabs (count + 1) more
one_more slabs count slab bounds more below is so_far join = record {
  round =
      All-more (λ s. IsWithin s more) slabs count slab below
      (All-weaker (λ s. IsWithin s bounds) (λ s. IsWithin s more)
      (λ s within. within_through s bounds more within (left_in bounds slab more join))
      (take count slabs)
      so_far.round)
      (subst (λ s. IsWithin s more) is (right_in bounds slab more join));
  least = λ outer all.
      join_least bounds slab more outer join (so_far.least outer all)
      (subst (λ s. IsWithin s outer) (sym is)
      (All-get_or (λ s. IsWithin s outer) slabs count slab below all));
}

-- the slab round all of some slabs is the smallest that has their points
pub bounds_are : (slabs : List Slab) (count : ℕ) (bounds : Slab) → length slabs ≤ count
    → All IsFilled slabs → IsRound slabs count bounds → IsBounds (slabs_have slabs) bounds
bounds_are slabs count bounds all_of filled so_far = record {
  has = λ x passes.
      let one = Any-from_list_any (λ s. slab_has s x) slabs passes in
      within_has one.1 bounds x
      (All-contains (λ s. IsWithin s bounds) slabs one.1 round (one.0, one.2, one.3)) one.4;
  smallest = λ other has.
      so_far.least other
      (All-from_get_or (λ s. IsWithin s other) slabs bounds
      (λ k below.
      let slab = get_or slabs k bounds in
      has_within slab other (All-get_or IsFilled slabs k bounds below filled)
      (λ x here. has x (list_any_at (λ s. slab_has s x) slabs k bounds below here))));
} where
  round : All (λ s. IsWithin s bounds) slabs
  round = subst (All (λ s. IsWithin s bounds)) (take_all count slabs all_of) so_far.round
