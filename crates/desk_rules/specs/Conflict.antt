-- The conflict of a plan, and what slabs have to do with it.
use Rattle.std.specs.Prelude.{ℕ, zero, suc, ◌+◌, ℤ, pos, ◌-ℤ◌, Bool, cond, Option, Some, None, is_some, false, nat_le, ◌*◌, ◌^◌, unsigned_abs, List, ◌&&◌, ◌≡◌, true}
use Rattle.std.specs.{Option.option_map, Option.option_and_then, List.sum_by}
use Rattle.s2_hilbert.specs.Curve.{grid_leaf_at}
use Rattle.s2_cellid.specs.Cell.{last_leaf_id}
use Rattle.volume4d.specs.{Volume.Point, Volume.Shape, Volume.cells, Volume.rectangle, Volume.Block, Volume.area_has, Sweep.Spot, Sweep.IsFirst, Slab.slabs_have, Slab.top_held}
use Rattle.volume4d.specs.declared.slab.{Slab.Slab, Held.Held}
use Rattle.desk_rules.specs.Limits.{blocks}

-- a way to look for the first thing that passes
abbrev pub Finder : Type 0 → Type 0
Finder A = (A → Bool) → Option A

-- the first if there is one, else the second
abbrev pub earlier_of : {A : Type 0} → Option A → Option A → Option A
earlier_of None b = b
earlier_of (Some a) b = Some a

-- among the numbers below n
unfoldable pub first_below : ℕ → Finder ℕ
first_below zero passes = None
first_below (suc n) passes = earlier_of (first_below n passes) (cond (passes n) (Some n) None)

-- among the whole numbers from -n to n
unfoldable pub first_within : ℕ → Finder ℤ
first_within n passes =
    option_map (λ k. pos k -ℤ pos n) (first_below (n + n + 1) (λ k. passes (pos k -ℤ pos n)))

-- among pairs, by the first part and then by the second
unfoldable pub first_pair : {A B : Type 0} → Finder A → Finder B → Finder (A × B)
first_pair in_a in_b passes =
    option_and_then (λ a. option_map (λ b. (a, b)) (in_b (λ b. passes (a, b))))
    (in_a (λ a. is_some (in_b (λ b. passes (a, b)))))

-- whether a plan holds the point and the greatest priority held there is at least `priority`
abbrev pub reaches : Option ℕ → ℕ → Bool
reaches None priority = false
reaches (Some level) priority = nat_le priority level

-- ==== The conflict of a plan, by the strategic conflict detection of ASTM F3548-21: a plan may share points
-- with plans of lower priority, and not with those of higher priority
-- Those of equal priority block it too, unless that priority is permitted.

-- a point of an area is blocked if the greatest priority that others hold there blocks the plan, by the
-- list of permitted priorities
unfoldable pub is_blocked : List ℕ → List Block → (Point → Option ℕ) → ℕ → Point → Bool
is_blocked permitted area levels priority x = area_has area x && blocks permitted priority (levels x)

-- what a conflict is: None if no point is blocked, else the first blocked point, by leaf id, then
-- altitude, then second, with the greatest priority that others hold there
abbrev pub IsConflict : List ℕ → List Block → (Point → Option ℕ) → ℕ → Option Spot → Type 0
IsConflict permitted area levels priority spot =
    IsFirst (is_blocked permitted area levels priority) levels spot

-- Three upper bounds on curve positions, altitudes and seconds of an area's points let the search below end.
abbrev pub leaf_reach : Shape → ℕ
leaf_reach (cells ids) = sum_by (λ id. last_leaf_id id + 1) ids
leaf_reach (rectangle r) = 6 * 2 ^ 60

abbrev pub altitude_reach : Block → ℕ
altitude_reach v = unsigned_abs v.window.lower + unsigned_abs v.window.upper

abbrev pub second_reach : Block → ℕ
second_reach v = unsigned_abs v.window.start + unsigned_abs v.window.end

-- the point of a position along the curve, an altitude and a second
abbrev pub point_of : ℕ × (ℤ × ℤ) → Point
point_of p = record { leaf = grid_leaf_at p.0; altitude = p.1.0; second = p.1.1 }

-- the first point of an area that passes a test
unfoldable pub first_point : List Block → (Point → Bool) → Option Point
first_point area passes =
    option_map point_of
    (first_pair (first_below (sum_by (λ v. leaf_reach v.footprint) area))
    (first_pair (first_within (sum_by altitude_reach area)) (first_within (sum_by second_reach area)))
    (λ p. passes (point_of p)))

-- the conflict, as a function: the first blocked point, with the level there
unfoldable pub conflict : List ℕ → List Block → (Point → Option ℕ) → ℕ → Option Spot
conflict permitted area levels priority =
    option_and_then (λ x. option_map (λ level. record { point = x; priority = level }) (levels x))
    (first_point area (is_blocked permitted area levels priority))

-- the level, if there is one and it is at least the priority, and else None
abbrev pub at_least : ℕ → Option ℕ → Option ℕ
at_least priority level = cond (reaches level priority) level None

-- there is a point that both areas have
abbrev pub HaveAPoint : List Block → List Block → Type 0
HaveAPoint area other = (x : Point) × (area_has area x ≡ true) × (area_has other x ≡ true)

-- whether there is one: a search among the points of the first area finds a point that both have
unfoldable pub share_a_point : List Block → List Block → Bool
share_a_point area other = is_some (first_point area (λ x. area_has area x && area_has other x))

-- ==== Slabs in place of areas and of the plans of others
-- the slabs have exactly the area's points
abbrev pub AreSlabsOf : List Slab → List Block → Type 0
AreSlabsOf slabs area = (x : Point) → slabs_have slabs x ≡ area_has area x

-- `levels` gives the greatest priority that other plans hold at a point. At each point of the area the
-- greatest priority of the held slabs is that one if it is at least `priority`, and else None
abbrev pub HoldLevels : List Held → List Block → (Point → Option ℕ) → ℕ → Type 0
HoldLevels helds area levels priority =
    (x : Point) → area_has area x ≡ true → top_held helds x ≡ at_least priority (levels x)

-- the same at each point of the slabs: the greatest priority of the held slabs is the level there if that
-- is at least `priority`, and else None
abbrev pub HoldLevelsAmong : List Held → List Slab → (Point → Option ℕ) → ℕ → Type 0
HoldLevelsAmong helds slabs levels priority =
    (x : Point) → slabs_have slabs x ≡ true → top_held helds x ≡ at_least priority (levels x)

-- a point of the slabs is blocked if the greatest priority that others hold there blocks the plan
unfoldable pub is_blocked_among : List ℕ → List Slab → (Point → Option ℕ) → ℕ → Point → Bool
is_blocked_among permitted slabs levels priority x =
    slabs_have slabs x && blocks permitted priority (levels x)
