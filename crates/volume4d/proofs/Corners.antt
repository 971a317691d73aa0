-- The first point that two slabs share.
use Rattle.std.proofs.Common.{◌≡◌, ℕ, ◌*◌, ◌^◌, ◌<◌, ℤ, true, false, ◌&&◌, leb, ltb, max, refl, sym, ap, ◌∙◌, arith, Less, Equal, Greater}
use Rattle.std.specs.Prelude.{int_le, int_lt}
use Rattle.std.specs.declared.cmp.Ordering.{Ordering}
use Rattle.std.specs.Ordering.{ordering_then, is_lt, nat_cmp, int_cmp}
use Rattle.std.specs.Int.{int_max}
use Rattle.std.proofs.lemmas.Int.{ints}
use Rattle.std.proofs.lemmas.Bool.{and_parts, and_from, false_from_ne_true}
use Rattle.std.proofs.lemmas.Bool.Decides.{nat_tests}
use Rattle.s2_hilbert.specs.Curve.{position_of, grid_leaf_at}
use Rattle.s2_hilbert.proofs.lemmas.Curve.{position_undone}
use Rattle.s2_cellid.specs.Cell.{leaf_id_at, leaf_id}
use Rattle.volume4d.specs.declared.slab.Slab.{Slab}
use Rattle.volume4d.specs.Volume.{Point, is_leaf, point_cmp}
use Rattle.volume4d.specs.Slab.{slab_has_leaf, slab_has, corner_of}
use Rattle.volume4d.proofs.LeafTests.{leaf_at_passes}
use Rattle.volume4d.proofs.lemmas.Slab.{IsIn, IsIn-from_has, has-from_IsIn}

int_max_le : (a b m x : ℤ) → m ≡ int_max a b → int_le a x ≡ true → int_le b x ≡ true → int_le m x ≡ true
int_max_le a b m x e p q = grind (arith, ints)

int_le_max_left : (a b m : ℤ) → m ≡ int_max a b → int_le a m ≡ true
int_le_max_left a b m e = grind (arith, ints)

int_le_max_right : (a b m : ℤ) → m ≡ int_max a b → int_le b m ≡ true
int_le_max_right a b m e = grind (arith, ints)

int_below : (m x u : ℤ) → int_le m x ≡ true → int_lt x u ≡ true → int_lt m u ≡ true
int_below m x u p q = grind (arith, ints)

nat_max_le : (a b m x : ℕ) → m ≡ max a b → leb a x ≡ true → leb b x ≡ true → leb m x ≡ true
nat_max_le a b m x e p q = grind (arith, nat_tests)

nat_le_max_left : (a b m : ℕ) → m ≡ max a b → leb a m ≡ true
nat_le_max_left a b m e = grind (arith, nat_tests)

nat_le_max_right : (a b m : ℕ) → m ≡ max a b → leb b m ≡ true
nat_le_max_right a b m e = grind (arith, nat_tests)

nat_below : (m x u : ℕ) → leb m x ≡ true → leb x u ≡ true → leb m u ≡ true
nat_below m x u p q = grind (arith, nat_tests)

-- a point not above another in any coordinate, leaves by their positions
pub record IsUpTo (m x : Point) : Type 0 where
  pub leaf : leb (position_of m.leaf) (position_of x.leaf) ≡ true
  pub altitude : int_le m.altitude x.altitude ≡ true
  pub second : int_le m.second x.second ≡ true

abbrev pub corner_position : Slab → Slab → ℕ
corner_position a b = position_of (corner_of a b).leaf

pub corner_position_is : (a b : Slab) → corner_position a b ≡ max a.first b.first
corner_position_is a b = position_undone (max a.first b.first)

corner_is_leaf : (a b : Slab) → is_leaf (corner_of a b).leaf ≡ true
corner_is_leaf a b = leaf_at_passes (max a.first b.first)
    (omega (arith, a.first_is_leaf, b.first_is_leaf))

-- the corner of two slabs that have a point is not above it, and both have it
pub corner_up_to : (a b : Slab) (x : Point) → IsIn a x → IsIn b x → IsUpTo (corner_of a b) x
corner_up_to a b x p q = record {
  leaf = nat_max_le a.first b.first (corner_position a b) (position_of x.leaf) (corner_position_is a b)
      p.first q.first;
  altitude = int_max_le a.lower b.lower _ x.altitude refl p.lower q.lower;
  second = int_max_le a.start b.start _ x.second refl p.start q.start;
}

pub corner_left : (a b : Slab) (x : Point) → IsIn a x → IsIn b x → IsIn a (corner_of a b)
corner_left a b x p q = let u = corner_up_to a b x p q in record {
  is = corner_is_leaf a b;
  first = nat_le_max_left a.first b.first (corner_position a b) (corner_position_is a b);
  last = nat_below (corner_position a b) (position_of x.leaf) _ u.leaf p.last;
  lower = int_le_max_left a.lower b.lower _ refl;
  upper = int_below _ x.altitude _ u.altitude p.upper;
  start = int_le_max_left a.start b.start _ refl;
  end = int_below _ x.second _ u.second p.end;
}

pub corner_right : (a b : Slab) (x : Point) → IsIn a x → IsIn b x → IsIn b (corner_of a b)
corner_right a b x p q = let u = corner_up_to a b x p q in record {
  is = corner_is_leaf a b;
  first = nat_le_max_right a.first b.first (corner_position a b) (corner_position_is a b);
  last = nat_below (corner_position a b) (position_of x.leaf) _ u.leaf q.last;
  lower = int_le_max_right a.lower b.lower _ refl;
  upper = int_below _ x.altitude _ u.altitude q.upper;
  start = int_le_max_right a.start b.start _ refl;
  end = int_below _ x.second _ u.second q.end;
}

not_less_leaf : (a b : ℕ) → leb a b ≡ true → nat_cmp (leaf_id_at b) (leaf_id_at a) ≡ Less → ⊥
not_less_leaf a b h e = grind (arith, nat_tests)

not_less_int : (a b : ℤ) → int_le a b ≡ true → int_cmp b a ≡ Less → ⊥
not_less_int a b h e = grind (arith, ints)

then_less : (o p : Ordering) → ordering_then o p ≡ Less → (o ≡ Less → ⊥) → p ≡ Less
then_less Less p e h = absurd (h refl)
then_less Equal p e h = e
then_less Greater p e h = cc

-- what is not below in any coordinate does not come before
pub not_before : (m x : Point) → IsUpTo m x → point_cmp x m ≡ Less → ⊥
not_before m x u e =
    not_less_int m.second x.second u.second (then_less _ _
    (then_less _ _ e (not_less_leaf (position_of m.leaf) (position_of x.leaf) u.leaf))
    (not_less_int m.altitude x.altitude u.altitude))

-- a slab has the leaf at each of its positions
pub slab_has_position : (s : Slab) (p : ℕ) → p < 6 * 2 ^ 60 → slab_has_leaf s (grid_leaf_at p)
    ≡ (leb s.first p && leb p s.last)
slab_has_position s p below = rw (leaf_at_passes p below, position_undone p) refl

-- leaves at two positions stand in the order of the positions
pub less_position : (p q : ℕ) (rest : Ordering) → (p ≡ q → ⊥) → ltb p q
    ≡ is_lt (ordering_then (nat_cmp (leaf_id (grid_leaf_at p)) (leaf_id (grid_leaf_at q))) rest)
less_position p q rest differ = rw (position_undone p, position_undone q)
    (by_ids (nat_cmp (leaf_id_at p) (leaf_id_at q)) refl) where
      by_ids : (o : Ordering) → nat_cmp (leaf_id_at p) (leaf_id_at q) ≡ o → ltb p q
          ≡ is_lt (ordering_then o rest)
      by_ids Less e = grind (arith, nat_tests)
      by_ids Equal e = grind (arith, nat_tests)
      by_ids Greater e = grind (arith, nat_tests)

-- no point that two slabs share comes before their corner
pub none_before : (a b : Slab) (m : Point) → m ≡ corner_of a b → (x : Point) → point_cmp x m ≡ Less
    → (slab_has a x && slab_has b x) ≡ false
none_before a b m c x e = false_from_ne_true _ (λ h.
    let parts = and_parts (slab_has a x) (slab_has b x) h in
    not_before (corner_of a b) x (corner_up_to a b x (IsIn-from_has a x parts.0)
    (IsIn-from_has b x parts.1))
    (ap (point_cmp x) (sym c) ∙ e))

-- slabs that share a point share their corner
pub none_left : (a b : Slab) (m : Point) → m ≡ corner_of a b → false ≡ slab_has a m → (x : Point)
    → (slab_has a x && slab_has b x) ≡ false
none_left a b m c e x = false_from_ne_true _ (λ h.
    let parts = and_parts (slab_has a x) (slab_has b x) h in
    let here = has-from_IsIn a _ (corner_left a b x (IsIn-from_has a x parts.0)
    (IsIn-from_has b x parts.1))
    in
    let bad : false ≡ true = e ∙ ap (slab_has a) c ∙ here in cc)

pub none_right : (a b : Slab) (m : Point) → m ≡ corner_of a b → false ≡ slab_has b m → (x : Point)
    → (slab_has a x && slab_has b x) ≡ false
none_right a b m c e x = false_from_ne_true _ (λ h.
    let parts = and_parts (slab_has a x) (slab_has b x) h in
    let here = has-from_IsIn b _ (corner_right a b x (IsIn-from_has a x parts.0)
    (IsIn-from_has b x parts.1))
    in
    let bad : false ≡ true = e ∙ ap (slab_has b) c ∙ here in cc)

-- a slab without the leaf or the altitude and second of a point does not have the point
pub leaf_out : (a : Slab) (m : Point) → false ≡ slab_has_leaf a m.leaf → false ≡ slab_has a m
leaf_out a m e =
    ap (λ b. b && (int_le a.lower m.altitude && int_lt m.altitude a.upper)
    && (int_le a.start m.second && int_lt m.second a.end)) e

pub time_out : (a : Slab) (m : Point)
    → false ≡ ((int_le a.lower m.altitude && int_lt m.altitude a.upper)
    && (int_le a.start m.second && int_lt m.second a.end))
    → false ≡ slab_has a m
time_out a m e = sym (false_from_ne_true _ (λ h.
    let outer = and_parts (slab_has_leaf a m.leaf
    && (int_le a.lower m.altitude && int_lt m.altitude a.upper))
    _ h in
    let bad : false ≡ true = e ∙ and_from _ _ (and_parts (slab_has_leaf a m.leaf) _ outer.0).1 outer.1
    in cc))

-- one with both has it
pub has_both : (a : Slab) (m : Point) → slab_has_leaf a m.leaf ≡ true
    → ((int_le a.lower m.altitude && int_lt m.altitude a.upper)
    && (int_le a.start m.second && int_lt m.second a.end)) ≡ true
    → slab_has a m ≡ true
has_both a m leaf time =
    let parts = and_parts (int_le a.lower m.altitude && int_lt m.altitude a.upper) _ time in
    and_from _ _ (and_from _ _ leaf parts.0) parts.1
