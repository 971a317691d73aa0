-- Conflicts: the search meets what a conflict is, and a conflict is unique.
use Rattle.std.proofs.Common.{◌≡◌, ℕ, ◌+◌, ◌==◌, ℤ, Bool, true, false, not, ◌&&◌, ◌||◌, cond, ◌⊎◌, List, Option, Some, None, refl, sym, ap, ◌∙◌, inl, inr, arith, Less, Equal, Greater}
use Rattle.std.proofs.Math.Path.{fun_ext}
use Rattle.std.specs.Prelude.{is_some, nat_le, nat_lt}
use Rattle.std.specs.Option.{option_map, option_and_then}
use Rattle.std.specs.declared.cmp.Ordering.{Ordering}
use Rattle.std.specs.Ordering.{ordering_then, ordering_reverse, nat_cmp, int_cmp}
use Rattle.std.specs.Cmp.{IsTotalOrder}
use Rattle.std.proofs.lemmas.Cmp.{nat_cmp_total, int_cmp_total, on_total, then_total}
use Rattle.s2_hilbert.specs.Curve.{position_of}
use Rattle.s2_hilbert.proofs.lemmas.Curve.{same_leaf}
use Rattle.s2_cellid.specs.Cell.{leaf_id}
use Rattle.volume4d.specs.Volume.{Point, is_leaf, point_cmp, Block, area_has}
use Rattle.desk_rules.specs.Conflict.{reaches, AreSlabsOf, HoldLevels, HoldLevelsAmong, is_blocked_among, first_pair, is_blocked, IsConflict, first_point, point_of, conflict, at_least}
use Rattle.desk_rules.specs.Limits.{is_permitted, blocks, least_blocking}
use Rattle.volume4d.specs.declared.slab.Slab.{Slab}
use Rattle.volume4d.specs.declared.slab.Held.{Held}
use Rattle.volume4d.specs.Slab.{top_held, slabs_have, is_shared}
use Rattle.volume4d.specs.Sweep.{Spot, IsFirst, IsFirstPoint, IsFirstSpot}
use Rattle.volume4d.proofs.lemmas.Point.{leaf_test}
use Rattle.volume4d.proofs.lemmas.Volume.{area_leaf}
use Rattle.desk_rules.proofs.PointTests.{point_by_position}
use Rattle.std.proofs.lemmas.Bool.{and_parts, false_from_ne_true}
use Rattle.std.proofs.lemmas.Bool.Decides.{nat_tests}
use Rattle.desk_rules.proofs.SearchLemmas.{IsFound, InBoth, BeforePair, IsBelow, IsLess, IsWithinInt, IsLessInt, below_finds, within_finds, pair_finds}
use Rattle.desk_rules.proofs.Reach.{same_position, same_int, area_reach, before_pair, leaf_total, altitude_total, second_total}

-- the search finds the first point of the area that passes, where only the area's points pass
pub first_point_is : (area : List Block) (passes : Point → Bool)
    → ((x : Point) → passes x ≡ true → area_has area x ≡ true)
    → IsFirstPoint passes (first_point area passes)
unfolding first_point
first_point_is area passes inside = step (first_pair _ _ (λ p. passes (point_of p)))
    (pair_finds (IsBelow (leaf_total area)) IsLess
    (InBoth (IsWithinInt (altitude_total area)) (IsWithinInt (second_total area)))
    (BeforePair IsLessInt IsLessInt) _ _ (below_finds (leaf_total area))
    (pair_finds (IsWithinInt (altitude_total area)) IsLessInt (IsWithinInt (second_total area))
    IsLessInt _ _
    (within_finds (altitude_total area)) (within_finds (second_total area))) (λ p. passes (point_of p)))
  where
    Reach : ℕ × (ℤ × ℤ) → Type 0
    Reach = InBoth (IsBelow (leaf_total area)) (InBoth (IsWithinInt (altitude_total area))
        (IsWithinInt (second_total area)))

    Before : ℕ × (ℤ × ℤ) → ℕ × (ℤ × ℤ) → Type 0
    Before = BeforePair IsLess (BeforePair IsLessInt IsLessInt)

    place_of : Point → ℕ × (ℤ × ℤ)
    place_of x = (position_of x.leaf, (x.altitude, x.second))

    passes_there : (x : Point) → passes x ≡ true → passes (point_of (place_of x)) ≡ true
    passes_there x e = ap passes (point_by_position x (area_leaf area x (inside x e))) ∙ e

    step : (o : Option (ℕ × (ℤ × ℤ))) → IsFound Reach Before (λ p. passes (point_of p)) o
        → IsFirstPoint passes (option_map point_of o)
    step None h = λ x. false_from_ne_true _ (λ e. let no = h (place_of x)
        (area_reach area x (inside x e))
        in let yes = passes_there x e in cc)
    step (Some p) h = (
      h.1,
      λ x l. false_from_ne_true _
          (λ e. let no = h.2 (place_of x) (area_reach area x (inside x e)) (before_pair x p l)
          in let yes = passes_there x e in cc),
    )

only_inside : (permitted : List ℕ) (area : List Block) (levels : Point → Option ℕ) (priority : ℕ)
    (x : Point) → is_blocked permitted area levels priority x ≡ true → area_has area x ≡ true
unfolding is_blocked
only_inside permitted area levels priority x e = (and_parts (area_has area x) _ e).0

has_level : (permitted : List ℕ) (o : Option ℕ) (priority : ℕ) → blocks permitted priority o ≡ true
    → (n : ℕ) × (o ≡ Some n)
has_level permitted None priority e = cc
has_level permitted (Some n) priority e = (n, refl)

blocked_level : (permitted : List ℕ) (area : List Block) (levels : Point → Option ℕ) (priority : ℕ)
    (x : Point) → is_blocked permitted area levels priority x ≡ true → (n : ℕ) × (levels x ≡ Some n)
unfolding is_blocked
blocked_level permitted area levels priority x e =
    has_level permitted (levels x) priority (and_parts (area_has area x) _ e).1

-- the first passing point and its level are the first spot
pub first_spot : (passes : Point → Bool) (levels : Point → Option ℕ)
    → ((x : Point) → passes x ≡ true → (n : ℕ) × (levels x ≡ Some n)) → (o : Option Point)
    → IsFirstPoint passes o → IsFirst passes levels
    (option_and_then (λ x. option_map (λ level. record { point = x; priority = level }) (levels x)) o)
first_spot passes levels there None h = h
first_spot passes levels there (Some p) h =
    let level = there p h.0 in
    rw level.1 (record { here = h.0; level = level.1; first = h.1 })

-- the search meets what a conflict is
pub conflict_is : (permitted : List ℕ) (area : List Block) (levels : Point → Option ℕ) (priority : ℕ)
    → IsConflict permitted area levels priority (conflict permitted area levels priority)
unfolding conflict
conflict_is permitted area levels priority =
    first_spot (is_blocked permitted area levels priority) levels
    (blocked_level permitted area levels priority) _
    (first_point_is area (is_blocked permitted area levels priority)
    (only_inside permitted area levels priority))

-- points are in a total order
then_equal : (o p : Ordering) → ordering_then o p ≡ Equal → (o ≡ Equal) × (p ≡ Equal)
then_equal Less p e = cc
then_equal Equal p e = (refl, e)
then_equal Greater p e = cc

same_point : (x y : Point) → is_leaf x.leaf ≡ true → is_leaf y.leaf ≡ true → point_cmp x y ≡ Equal → x
    ≡ y
same_point x y x_is y_is e =
    let leaf = then_equal (nat_cmp (leaf_id x.leaf) (leaf_id y.leaf)) _ e in
    let rest = then_equal (int_cmp x.altitude y.altitude) _ leaf.1 in
    let l = same_leaf x.leaf y.leaf ((leaf_test x.leaf).0 x_is) ((leaf_test y.leaf).0 y_is)
    (same_position (position_of x.leaf) (position_of y.leaf) leaf.0) in
    let a = same_int x.altitude y.altitude rest.0 in
    let s = same_int x.second y.second rest.1 in
    λ i. record { leaf = l i; altitude = a i; second = s i }

points_total : IsTotalOrder point_cmp
points_total = then_total (on_total (λ x. leaf_id x.leaf) nat_cmp_total)
    (then_total (on_total (λ x. x.altitude) int_cmp_total) (on_total (λ x. x.second) int_cmp_total))

less_or_after : (x y : Point) → (point_cmp x y ≡ Less)
    ⊎ ((point_cmp x y ≡ Equal) ⊎ (point_cmp y x ≡ Less))
less_or_after x y = by_answer (point_cmp x y) refl where
  by_answer : (o : Ordering) → point_cmp x y ≡ o → (point_cmp x y ≡ Less)
      ⊎ ((point_cmp x y ≡ Equal) ⊎ (point_cmp y x ≡ Less))
  by_answer Less e = inl e
  by_answer Equal e = inr (inl e)
  by_answer Greater e = inr (inr (points_total.antisymm y x ∙ ap ordering_reverse e))

-- where only leaves pass, a first spot is the only one
abbrev pub OnLeaves : (Point → Bool) → Type 0
OnLeaves passes = (x : Point) → passes x ≡ true → is_leaf x.leaf ≡ true

one_spot : (passes : Point → Bool) (levels : Point → Option ℕ) (a b : Spot) → OnLeaves passes
    → IsFirstSpot passes levels a → IsFirstSpot passes levels b → a ≡ b
one_spot passes levels a b leaves p q = by_order (less_or_after a.point b.point) where
  by_order : (point_cmp a.point b.point ≡ Less) ⊎ ((point_cmp a.point b.point ≡ Equal)
      ⊎ (point_cmp b.point a.point ≡ Less)) → a ≡ b
  by_order (inl l) = let no = q.first a.point l in let yes = p.here in cc
  by_order (inr (inr l)) = let no = p.first b.point l in let yes = q.here in cc
  by_order (inr (inl e)) =
      let same = same_point a.point b.point (leaves a.point p.here) (leaves b.point q.here) e in
      let level : Some a.priority ≡ Some b.priority = sym p.level ∙ ap levels same ∙ q.level in
      let priorities : a.priority ≡ b.priority = cc in
      λ i. record { point = same i; priority = priorities i }

pub one_first : (passes : Point → Bool) (levels : Point → Option ℕ) (a b : Option Spot)
    → OnLeaves passes
    → IsFirst passes levels a → IsFirst passes levels b → a ≡ b
one_first passes levels None None leaves p q = refl
one_first passes levels None (Some b) leaves p q = let no = p b.point in let yes = q.here in cc
one_first passes levels (Some a) None leaves p q = let no = q a.point in let yes = p.here in cc
one_first passes levels (Some a) (Some b) leaves p q = ap Some (one_spot passes levels a b leaves p q)

pub blocked_leaves : (permitted : List ℕ) (area : List Block) (levels : Point → Option ℕ) (priority : ℕ)
    → OnLeaves (is_blocked permitted area levels priority)
blocked_leaves permitted area levels priority x e =
    area_leaf area x (only_inside permitted area levels priority x e)

is_some_at_least : (o : Option ℕ) (priority : ℕ) → is_some (at_least priority o) ≡ reaches o priority
is_some_at_least None priority = refl
is_some_at_least (Some n) priority = by_test (reaches (Some n) priority) where
  by_test : (b : Bool) → is_some (cond b (Some n) None) ≡ b
  by_test true = refl
  by_test false = refl

level_at_least : (o : Option ℕ) (priority n : ℕ) → at_least priority o ≡ Some n → o ≡ Some n
level_at_least o priority n = by_test (reaches o priority) where
  by_test : (b : Bool) → cond b o None ≡ Some n → o ≡ Some n
  by_test true e = e
  by_test false e = cc

-- what blocks a plan is what reaches the least priority that does
permitted_reaches : (priority level : ℕ)
    → (nat_lt priority level || (level == priority && false)) ≡ nat_le (priority + 1) level
permitted_reaches priority level = grind (arith, nat_tests)

unpermitted_reaches : (priority level : ℕ)
    → (nat_lt priority level || (level == priority && true)) ≡ nat_le priority level
unpermitted_reaches priority level = grind (arith, nat_tests)

blocks_reaches : (permitted : List ℕ) (priority : ℕ) (level : Option ℕ)
    → blocks permitted priority level ≡ reaches level (least_blocking permitted priority)
blocks_reaches permitted priority None = refl
blocks_reaches permitted priority (Some level) = by_test (is_permitted permitted priority) where
  by_test : (b : Bool) → (nat_lt priority level || (level == priority && not b))
      ≡ nat_le (cond b (priority + 1) priority) level
  by_test true = permitted_reaches priority level
  by_test false = unpermitted_reaches priority level

shared_is_blocked : (permitted : List ℕ) (levels : Point → Option ℕ) (priority : ℕ)
    (mine : List Slab) (theirs : List Held)
    → HoldLevelsAmong theirs mine levels (least_blocking permitted priority) → (x : Point)
    → is_shared mine theirs x ≡ is_blocked_among permitted mine levels priority x
unfolding is_shared is_blocked_among
shared_is_blocked permitted levels priority mine theirs helds x =
    by_test (slabs_have mine x) (helds x) where
      least : ℕ
      least = least_blocking permitted priority

      by_test : (b : Bool) → (b ≡ true → top_held theirs x ≡ at_least least (levels x))
          → (b && is_some (top_held theirs x)) ≡ (b && blocks permitted priority (levels x))
      by_test true h = ap is_some (h refl) ∙ is_some_at_least (levels x) least
          ∙ sym (blocks_reaches permitted priority (levels x))
      by_test false h = refl

only_among : (permitted : List ℕ) (mine : List Slab) (levels : Point → Option ℕ) (priority : ℕ)
    (x : Point) → is_blocked_among permitted mine levels priority x ≡ true → slabs_have mine x ≡ true
unfolding is_blocked_among
only_among permitted mine levels priority x e = (and_parts (slabs_have mine x) _ e).0

-- the first meeting of slabs with what others hold is the first blocked point among them
pub first_among : (permitted : List ℕ) (levels : Point → Option ℕ) (priority : ℕ) (mine : List Slab)
    (theirs : List Held) → HoldLevelsAmong theirs mine levels (least_blocking permitted priority)
    → (m : Option Spot) → IsFirst (is_shared mine theirs) (top_held theirs) m
    → IsFirst (is_blocked_among permitted mine levels priority) levels m
first_among permitted levels priority mine theirs helds m = kept m where
  same : (x : Point) → is_shared mine theirs x ≡ is_blocked_among permitted mine levels priority x
  same = shared_is_blocked permitted levels priority mine theirs helds

  kept : (o : Option Spot) → IsFirst (is_shared mine theirs) (top_held theirs) o
      → IsFirst (is_blocked_among permitted mine levels priority) levels o
  kept None h = λ x. sym (same x) ∙ h x
  kept (Some s) h =
      let here = sym (same s.point) ∙ h.here in
      record {
        here = here;
        level = level_at_least (levels s.point) (least_blocking permitted priority) s.priority
            (sym (helds s.point (only_among permitted mine levels priority s.point here)) ∙ h.level);
        first = λ x l. sym (same x) ∙ h.first x l;
      }

among_is_of_area : (permitted : List ℕ) (area : List Block) (levels : Point → Option ℕ) (priority : ℕ)
    (mine : List Slab) → AreSlabsOf mine area → (x : Point)
    → is_blocked_among permitted mine levels priority x ≡ is_blocked permitted area levels priority x
unfolding is_blocked is_blocked_among
among_is_of_area permitted area levels priority mine slabs x =
    ap (λ b. b && blocks permitted priority (levels x)) (slabs x)

-- a first point that passes is the first of an equal test
pub first_again : (passes others : Point → Bool) (levels : Point → Option ℕ) (m : Option Spot)
    → ((x : Point) → passes x ≡ others x) → IsFirst passes levels m → IsFirst others levels m
first_again passes others levels None same h = λ x. sym (same x) ∙ h x
first_again passes others levels (Some s) same h = record {
  here = sym (same s.point) ∙ h.here;
  level = h.level;
  first = λ x l. sym (same x) ∙ h.first x l;
}

-- the first blocked point among an area's slabs is the area's conflict
pub conflict_among : (permitted : List ℕ) (area : List Block) (levels : Point → Option ℕ)
    (priority : ℕ) (mine : List Slab) → AreSlabsOf mine area → (m : Option Spot)
    → IsFirst (is_blocked_among permitted mine levels priority) levels m
    → m ≡ conflict permitted area levels priority
conflict_among permitted area levels priority mine slabs m h =
    one_first (is_blocked permitted area levels priority) levels m
    (conflict permitted area levels priority) (blocked_leaves permitted area levels priority)
    (first_again (is_blocked_among permitted mine levels priority)
    (is_blocked permitted area levels priority) levels m
    (among_is_of_area permitted area levels priority mine slabs) h)
    (conflict_is permitted area levels priority)

-- the first meeting of an area's slabs with what others hold is the area's conflict
pub conflict_by_meeting : (permitted : List ℕ) (area : List Block) (levels : Point → Option ℕ)
    (priority : ℕ) (mine : List Slab) (theirs : List Held) → AreSlabsOf mine area
    → HoldLevels theirs area levels (least_blocking permitted priority) → (m : Option Spot)
    → IsFirst (is_shared mine theirs) (top_held theirs) m → m ≡ conflict permitted area levels priority
conflict_by_meeting permitted area levels priority mine theirs slabs helds m h =
    conflict_among permitted area levels priority mine slabs m
    (first_among permitted levels priority mine theirs (λ x has. helds x (sym (slabs x) ∙ has)) m h)

-- equal levels have equal conflicts
pub conflict_same_levels : (permitted : List ℕ) (area : List Block) (f g : Point → Option ℕ)
    (priority : ℕ) → ((x : Point) → f x ≡ g x)
    → conflict permitted area f priority ≡ conflict permitted area g priority
conflict_same_levels permitted area f g priority same =
    ap (λ levels. conflict permitted area levels priority) (fun_ext same)
