-- The sweep over two lists of slabs that finds the first point that both have.
use Rattle.std.specs.Prelude.{◌≡◌, ℕ, Bool, true, false, Option, Some, None, ◌≤◌, ◌||◌, List, ◌&&◌, [], ◌∷◌, All, IsTrue, ⊤}
use Rattle.std.specs.declared.cmp.Ordering.TheVariants.{Less}
use Rattle.std.specs.{List.list_any, List.Sorted.IsNonDecreasingBy, Ordering.int_eq}
use Rattle.s2_hilbert.specs.Curve.{position_of}
use Rattle.volume4d.specs.{Volume.Point, Volume.point_cmp, Slab.slab_has}
use Rattle.volume4d.specs.declared.{slab.Slab.Slab, sweep.Lane.Lane}

-- a point, and a priority that is held there
pub record Spot : Type 0 where
  pub point : Point
  pub priority : ℕ

-- the spot's point passes the test, the level there is its priority, and no point before it passes
pub record IsFirstSpot (passes : Point → Bool) (levels : Point → Option ℕ) (spot : Spot) : Type 0 where
  pub here : passes spot.point ≡ true
  pub level : levels spot.point ≡ Some spot.priority
  pub first : (x : Point) → point_cmp x spot.point ≡ Less → passes x ≡ false

-- the first point, by leaf id, altitude and second, that passes, with the level there; None if none passes
abbrev pub IsFirst : (Point → Bool) → (Point → Option ℕ) → Option Spot → Type 0
IsFirst passes levels None = (x : Point) → passes x ≡ false
IsFirst passes levels (Some spot) = IsFirstSpot passes levels spot

-- None if no point passes, else the first that does
abbrev pub IsFirstPoint : (Point → Bool) → Option Point → Type 0
IsFirstPoint passes None = (x : Point) → passes x ≡ false
IsFirstPoint passes (Some p) = (passes p ≡ true) × ((x : Point) → point_cmp x p ≡ Less → passes x ≡ false)

-- ==== The words of the sweep over two lists of slabs that ascend by their first leaves
-- the slab of one of the items of a list has the point
abbrev pub items_have : {A : Type 0} → (A → Slab) → List A → Point → Bool
items_have slab_of list x = list_any (λ a. slab_has (slab_of a) x) list

-- the first leaves of the items' slabs ascend along the list
abbrev pub Ascend : {A : Type 0} → (A → Slab) → List A → Type 0
Ascend slab_of list = IsNonDecreasingBy (λ a. (slab_of a).first) list

-- the slab has no point with a leaf at the position or after it
abbrev pub IsPassed : ℕ → Slab → Type 0
IsPassed position s = (x : Point) → position ≤ position_of x.leaf → slab_has s x ≡ false

-- a point was found, and this one does not come before it
abbrev pub IsLate : Option Point → Point → Type 0
IsLate None x = ⊥
IsLate (Some found) x = point_cmp x found ≡ Less → ⊥

-- no point with a leaf at the position or after it comes before the one found
abbrev pub AreLate : ℕ → Option Point → Type 0
AreLate position found = (x : Point) → position ≤ position_of x.leaf → IsLate found x

-- the new point is the first of the old one and of those that pass the test
abbrev pub AddsFirst : (Point → Bool) → Option Point → Option Point → Type 0
AddsFirst passes old new =
    (before : Point → Bool) → IsFirstPoint before old → IsFirstPoint (λ x. before x || passes x) new

-- ==== The words of the lanes of a sweep: slabs of one window of altitudes and seconds each
-- two slabs have the same altitudes and seconds
abbrev pub is_alike : Slab → Slab → Bool
is_alike a b =
    (int_eq a.lower b.lower && int_eq a.upper b.upper) && (int_eq a.start b.start && int_eq a.end b.end)

-- one of the slabs with the altitudes and seconds of the window has the point
abbrev pub alike_have : Slab → List Slab → Point → Bool
alike_have window slabs x = list_any (λ s. is_alike window s && slab_has s x) slabs

-- at leaves from the position on, the slabs `new` in the window have the same points as the slabs `old`
abbrev pub KeepsFrom : Slab → ℕ → List Slab → List Slab → Type 0
KeepsFrom window position old new =
    (x : Point) → position ≤ position_of x.leaf → alike_have window new x ≡ alike_have window old x

-- a slab in the window, with leaves, that ends at the position or after it
pub record IsReached (window : Slab) (position : ℕ) (s : Slab) : Type 0 where
  pub alike : is_alike window s ≡ true
  pub some : s.first ≤ s.last
  pub reaches : position ≤ s.last

-- the first of the slabs, if there is one, is such a slab
abbrev pub BeginsReached : Slab → ℕ → List Slab → Type 0
BeginsReached window position [] = ⊤
BeginsReached window position (s ∷ rest) = IsReached window position s

-- one of the lanes has a slab left in its window that has the point
abbrev pub lanes_have : List Lane → Point → Bool
lanes_have lanes x = list_any (λ l. alike_have l.window l.left.now x) lanes

-- what is left in each lane ascends
abbrev pub LanesAscend : List Lane → Type 0
LanesAscend lanes = All (λ l. Ascend (λ s. s) l.left.now) lanes

-- in each lane all of the slabs are left: none was dropped
abbrev pub HaveAllLeft : List Slab → List Lane → Type 0
HaveAllLeft slabs lanes = All (λ l. l.left.now ≡ slabs) lanes

-- one of the lanes has the altitudes and seconds of the slab
abbrev pub IsCovered : List Lane → Slab → Type 0
IsCovered lanes s = IsTrue (list_any (λ l. is_alike l.window s) lanes)
