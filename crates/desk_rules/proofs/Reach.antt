-- The points of an area are in the reach of its search, and the search's order is that of points.
use Rattle.std.proofs.Common.{◌≡◌, ℕ, ◌+◌, ◌<◌, ◌≤◌, ℤ, pos, negsuc, ◌<ℤ◌, Bool, true, false, ◌&&◌, ◌||◌, ◌⊎◌, leb, List, [], ◌∷◌, refl, inl, inr, subst, arith, Less, Equal, Greater}
use Rattle.std.specs.Prelude.{int_le, int_lt, unsigned_abs}
use Rattle.std.specs.List.{list_any, sum_by}
use Rattle.std.specs.declared.cmp.Ordering.{Ordering}
use Rattle.std.specs.Ordering.{ordering_then, nat_cmp, int_cmp}
use Rattle.std.proofs.lemmas.Int.{ints}
use Rattle.std.proofs.lemmas.Bool.Decides.{nat_tests}
use Rattle.std.proofs.lemmas.List.Sums.{sum_by-cons}
use Rattle.s2_hilbert.specs.Grid.{GridLeaf}
use Rattle.s2_hilbert.specs.Curve.{position_of}
use Rattle.s2_hilbert.proofs.lemmas.Curve.{position_undone, position_below}
use Rattle.s2_cellid.specs.Cell.{cell_has, leaf_id_at, first_leaf_id, last_leaf_id, leaf_id, cell_has_leaf}
use Rattle.volume4d.specs.Volume.{Point, is_leaf, point_cmp, Shape, cells, rectangle, shape_has, Block, block_has, area_has}
use Rattle.volume4d.proofs.lemmas.Point.{leaf_test}
use Rattle.desk_rules.specs.Conflict.{leaf_reach, altitude_reach, second_reach, point_of}
use Rattle.std.proofs.lemmas.Bool.{and_parts}
use Rattle.desk_rules.proofs.SearchLemmas.{IsBelow, IsLess, IsWithinInt, IsLessInt, InBoth, BeforePair}

-- a number that is at most one element's is at most the sum
any_sum : {A : Type 0} (p : A → Bool) (f : A → ℕ) (n : ℕ) → ((a : A) → p a ≡ true → n ≤ f a)
    → (xs : List A)
    → list_any p xs ≡ true → n ≤ sum_by f xs
any_sum p f n h [] e = cc
any_sum {A} p f n h (x ∷ xs) e = by_test (any_sum p f n h xs) (p x) refl e where
  by_test : (list_any p xs ≡ true → n ≤ sum_by f xs) → (b : Bool) → p x ≡ b → (b || list_any p xs)
      ≡ true
      → n ≤ sum_by f (x ∷ xs)
  by_test rest true t k = let here : n ≤ f x = h x t in omega (arith, sum_by-cons f x xs)
  by_test rest false t k = let there : n ≤ sum_by f xs = rest k in omega (arith, sum_by-cons f x xs)

leaf_below : (id p : ℕ) → cell_has id p ≡ true → p + 1 ≤ last_leaf_id id + 1
leaf_below id p h = upto _ (and_parts (leb (first_leaf_id id) (leaf_id_at p)) _ h).1 where
  upto : (last : ℕ) → leb (leaf_id_at p) last ≡ true → p + 1 ≤ last + 1
  upto last e = grind (arith, nat_tests)

shape_below : (s : Shape) (leaf : GridLeaf) → shape_has s leaf ≡ true
    → position_of leaf + 1 ≤ leaf_reach s
shape_below (cells ids) leaf h = any_sum (λ id. cell_has_leaf id leaf) (λ id. last_leaf_id id + 1)
    (position_of leaf + 1) (λ id e. leaf_below id (position_of leaf) e) ids
    (and_parts (is_leaf leaf) _ h).1
shape_below (rectangle r) leaf h = let below = position_below leaf
    ((leaf_test leaf).0 (and_parts (is_leaf leaf) _ h).0) in omega (arith, below)

abs_between : (l a u : ℤ) → int_le l a ≡ true → int_lt a u ≡ true
    → unsigned_abs a ≤ unsigned_abs l + unsigned_abs u
abs_between (pos l) (pos a) (pos u) p q = grind (arith, nat_tests)
abs_between (pos l) (pos a) (negsuc u) p q = cc
abs_between (pos l) (negsuc a) u p q = cc
abs_between (negsuc l) (pos a) (pos u) p q = grind (arith, nat_tests)
abs_between (negsuc l) (pos a) (negsuc u) p q = cc
abs_between (negsuc l) (negsuc a) u p q = grind (arith, nat_tests)

within_abs : (a : ℤ) (n : ℕ) → unsigned_abs a ≤ n → IsWithinInt n a
within_abs (pos a) n h = (omega (arith, ints), omega (arith, ints))
within_abs (negsuc a) n h = (omega (arith, ints), omega (arith, ints))

abbrev pub leaf_total : List Block → ℕ
leaf_total area = sum_by (λ v. leaf_reach v.footprint) area

abbrev pub altitude_total : List Block → ℕ
altitude_total area = sum_by altitude_reach area

abbrev pub second_total : List Block → ℕ
second_total area = sum_by second_reach area

pub area_reach : (area : List Block) (x : Point) → area_has area x ≡ true
    → InBoth (IsBelow (leaf_total area)) (InBoth (IsWithinInt (altitude_total area))
    (IsWithinInt (second_total area))) (position_of x.leaf, (x.altitude, x.second))
area_reach area x h =
    let leaf : position_of x.leaf + 1 ≤ leaf_total area =
    any_sum (λ v. block_has v x) _ (position_of x.leaf + 1)
    (λ v e. shape_below v.footprint x.leaf (and_parts (shape_has v.footprint x.leaf) _ e).0) area h in
    let altitude : unsigned_abs x.altitude ≤ altitude_total area =
    any_sum (λ v. block_has v x) _ (unsigned_abs x.altitude)
    (λ v e. let w = (and_parts _ (int_le v.window.start x.second && int_lt x.second v.window.end)
    (and_parts (shape_has v.footprint x.leaf) _ e).1).0
    in let ends = and_parts (int_le v.window.lower x.altitude) _ w
    in abs_between v.window.lower x.altitude v.window.upper ends.0 ends.1) area h in
    let second : unsigned_abs x.second ≤ second_total area =
    any_sum (λ v. block_has v x) _ (unsigned_abs x.second)
    (λ v e. let w = (and_parts (int_le v.window.lower x.altitude && int_lt x.altitude v.window.upper) _
    (and_parts (shape_has v.footprint x.leaf) _ e).1).1
    in let ends = and_parts (int_le v.window.start x.second) _ w
    in abs_between v.window.start x.second v.window.end ends.0 ends.1) area h in
    (omega arith, (within_abs x.altitude _ altitude, within_abs x.second _ second))

then_cases : (o p : Ordering) → ordering_then o p ≡ Less → (o ≡ Less) ⊎ ((o ≡ Equal) × (p ≡ Less))
then_cases Less p e = inl refl
then_cases Equal p e = inr (refl, e)
then_cases Greater p e = cc

less_leaf : (a b : ℕ) → nat_cmp (leaf_id_at a) (leaf_id_at b) ≡ Less → a < b
less_leaf a b e = grind (arith, nat_tests)

pub same_position : (a b : ℕ) → nat_cmp (leaf_id_at a) (leaf_id_at b) ≡ Equal → a ≡ b
same_position a b e = grind (arith, nat_tests)

less_int : (a b : ℤ) → int_cmp a b ≡ Less → a <ℤ b
less_int a b e = grind (arith, ints)

pub same_int : (a b : ℤ) → int_cmp a b ≡ Equal → a ≡ b
same_int a b e = grind (arith, ints)

before_point : (y x : Point) → point_cmp y x ≡ Less
    → BeforePair IsLess (BeforePair IsLessInt IsLessInt) (position_of y.leaf, (y.altitude, y.second))
    (position_of x.leaf, (x.altitude, x.second))
before_point y x e = elim (then_cases (nat_cmp (leaf_id y.leaf) (leaf_id x.leaf)) _ e) [
  | inl l ↦ inl (less_leaf (position_of y.leaf) (position_of x.leaf) l)
  | inr r ↦ inr (
    same_position (position_of y.leaf) (position_of x.leaf) r.0,
    elim (then_cases (int_cmp y.altitude x.altitude) _ r.1) [
      | inl l ↦ inl (less_int y.altitude x.altitude l)
      | inr s ↦ inr (same_int y.altitude x.altitude s.0, less_int y.second x.second s.1)
    ],
  )
]

-- a point before that of a position
pub before_pair : (y : Point) (p : ℕ × (ℤ × ℤ)) → point_cmp y (point_of p) ≡ Less
    → BeforePair IsLess (BeforePair IsLessInt IsLessInt) (position_of y.leaf, (y.altitude, y.second)) p
before_pair y p e =
    subst (λ n. BeforePair IsLess (BeforePair IsLessInt IsLessInt)
    (position_of y.leaf, (y.altitude, y.second)) (n, p.1)) (position_undone p.0)
    (before_point y (point_of p) e)
