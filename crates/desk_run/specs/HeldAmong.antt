-- What plans hold among each other and against others, part by part.
use Rattle.std.specs.Prelude.{ℕ, List, Option, ◌≡◌, Bool, true, false, not, ◌&&◌, nat_le, All, ◌≤◌, cond, max, min, None}
use Rattle.std.specs.List.{filter, list_any}
use Rattle.s2_hilbert.specs.Curve.{position_of}
use Rattle.volume4d.specs.declared.slab.{Slab.Slab, Held.Held}
use Rattle.volume4d.specs.{Sweep.Spot, Sweep.IsFirst, Sweep.Ascend, Volume.Point, Slab.slabs_have, Slab.top_held, Slab.greater, Slab.level_where, Slab.HasAll, Slab.IsFilled, Slab.slab_has_leaf, Slab.slab_window}
use Rattle.desk_rules.specs.{Conflict.is_blocked_among, Outcome.row_holds, Outcome.top_priority}
use Rattle.desk_rules.specs.declared.plan.PlanRow.{PlanRow}
use Rattle.desk_store.specs.World.{World, plans_of, held, held_at, has_id}

-- `spot` is the first point of `slabs` that other plans of `w` block, with the greatest priority that they
-- hold there; or none, if none is blocked. The slabs are those of the operator's plan `id` with this priority
abbrev pub IsFirstAmong : List ℕ → World → List ℕ → List ℕ → List Slab → ℕ → Option Spot → Type 0
IsFirstAmong permitted w operator id slabs priority spot =
    let levels = held_at (plans_of operator w) (held w operator) id in
    IsFirst (is_blocked_among permitted slabs levels priority) levels spot

-- ==== What an operator's plans hold among each other, and what others hold where they lie
-- the slabs together have each point that passes the test
abbrev pub HaveAll : (Point → Bool) → List Slab → Type 0
HaveAll passes slabs = (x : Point) → passes x ≡ true → slabs_have slabs x ≡ true

-- `slabs` have exactly the points that a plan holds. They ascend, and none is empty. The slab `round` has all
-- these points, and so do `parts` together
pub record AreSlabsHeld (row : PlanRow) (slabs : List Slab) (round : Slab) (parts : List Slab) : Type 0 where
  pub points : (x : Point) → slabs_have slabs x ≡ row_holds row x
  pub filled : All IsFilled slabs
  pub order : Ascend (λ s. s) slabs
  pub bounds : HasAll (slabs_have slabs) round
  pub parts_have : HaveAll (slabs_have slabs) parts

-- one of the plans holds a point
abbrev pub some_hold : List PlanRow → Point → Bool
some_hold rows x = list_any (λ r. row_holds r x) rows

-- at each point that passes the test, the greatest priority among the held slabs is the `level` there
abbrev pub HaveLevelAt : (Point → Bool) → List Held → (Point → Option ℕ) → Type 0
HaveLevelAt passes helds level = (x : Point) → passes x ≡ true → top_held helds x ≡ level x

-- at each point that passes the test, the greatest priority among `helds` is the greater of that among
-- `before` and of the `level` there: what was appended to `before` adds the level
abbrev pub AddLevelAt : (Point → Bool) → List Held → List Held → (Point → Option ℕ) → Type 0
AddLevelAt passes before helds level = HaveLevelAt passes helds (λ x. greater (top_held before x) (level x))

-- the slabs `new` have each point that `old` have
abbrev pub Keep : List Slab → List Slab → Type 0
Keep old new = (x : Point) → slabs_have old x ≡ true → slabs_have new x ≡ true

-- the slabs `left` have each point of `slabs` whose leaf is at the position along the S2 curve or after it
abbrev pub AreLeft : ℕ → List Slab → List Slab → Type 0
AreLeft position slabs left = (x : Point) → nat_le position (position_of x.leaf) ≡ true
    → slabs_have slabs x ≡ true → slabs_have left x ≡ true

-- the priority that the plan `r` holds at the point `x`, unless it is the plan `id`; and the greatest
-- priority of some plans there, without that plan
unfoldable pub own_level : List ℕ → PlanRow → Point → Option ℕ
own_level id r x = level_where (not (has_id id r) && row_holds r x) r.priority

abbrev pub own_top : List ℕ → List PlanRow → Point → Option ℕ
own_top id rows x = top_priority (filter (λ r. not (has_id id r)) rows) x

-- none of the slabs has a point whose leaf is at the position or before it
abbrev pub AreAfter : ℕ → List Slab → Type 0
AreAfter position slabs =
    (x : Point) → slabs_have slabs x ≡ true → nat_le (position_of x.leaf) position ≡ false

-- ==== Pieces of the leaves that slabs lie at, one after the other
-- `piece` has the leaves of the slab `whole` from a position on, up to the last or to an earlier one
pub record IsPiece (whole : Slab) (position : ℕ) (piece : Slab) : Type 0 where
  pub begins : piece.first ≡ position
  pub some : position ≤ whole.last → position ≤ piece.last
  pub within : piece.last ≤ whole.last

-- `cut` is `slab` with those of its leaves that `piece` has
pub record IsCutTo (slab piece cut : Slab) : Type 0 where
  pub first : cut.first ≡ max slab.first piece.first
  pub last : cut.last ≡ min slab.last piece.last
  pub window : slab_window cut ≡ slab_window slab

-- the level at a point whose leaf is one of the piece, and none at every other point
abbrev pub at_piece : Slab → (Point → Option ℕ) → Point → Option ℕ
at_piece piece levels x = cond (slab_has_leaf piece x.leaf) (levels x) None

-- the held slabs `cut` hold at the leaves of `piece` what `helds` hold there, and nothing elsewhere
abbrev pub AreCut : Slab → List Held → List Held → Type 0
AreCut piece helds cut = (x : Point) → top_held cut x ≡ at_piece piece (top_held helds) x

-- the extents together have each point at the leaves of `piece` that passes the test
abbrev pub HavePart : (Point → Bool) → Slab → List Slab → Type 0
HavePart passes piece extents =
    (x : Point) → passes x ≡ true → slab_has_leaf piece x.leaf ≡ true → slabs_have extents x ≡ true

-- `spot` is the first point of `slabs` at the leaves of `piece` that other plans of the world `w` block, with
-- the greatest priority that they hold there; or none, if none is blocked. The slabs are those of the
-- operator's plan `id` with this priority
abbrev pub IsFirstBlockedAt : List ℕ → World → List ℕ → List ℕ → List Slab → Slab → ℕ → Option Spot → Type 0
IsFirstBlockedAt permitted w operator id slabs piece priority spot =
    let levels = at_piece piece (held_at (plans_of operator w) (held w operator) id) in
    IsFirst (is_blocked_among permitted slabs levels priority) levels spot
