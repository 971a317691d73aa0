-- The rows of `span2` compared with plans, one at a time.
use Rattle.std.specs.Prelude.{◌≡◌, ◌↔◌, ◌<◌, ◌^◌, ℕ, ◌+◌, Bool, true, List, [], ◌∷◌, ◌++◌, drop, length, map, MatchBool, IsTrue}
use Rattle.std.specs.List.{AllByRecursion}
use Rattle.sqlite_value.specs.Order.{Row}
use Rattle.volume4d.specs.declared.slab.Slab.{Slab}
use Rattle.desk_rules.specs.Outcome.{is_live}
use Rattle.desk_store.specs.World.{Filed}
use Rattle.row_codec.specs.{Tables.slab_row, Tables.AreSpanRowsFrom, Tables.AreSpanRows, SpanBounds.IsKnownRow, declared.span_bounds.SpanBounds.SpanBounds}

-- rows are those of the plan's slabs that are left: `slabs`, of the volume at `shown`, and then those of the
-- volumes from `place` on
abbrev pub AreRestOf : Filed → List Slab → ℕ → ℕ → List Row → Type 0
AreRestOf p slabs shown place rows = MatchBool (is_live p.row.usage)
    ((more : List Row) × (rows ≡ map (slab_row p shown) slabs ++ more)
    × AreSpanRowsFrom p place (drop place p.row.area) more)
    (rows ≡ [])

-- and then those of the plans after it
abbrev pub AreAwaited : List Filed → List Slab → ℕ → ℕ → List Row → Type 0
AreAwaited [] slabs shown place rows = rows ≡ []
AreAwaited (p ∷ ps) slabs shown place rows =
    (mine rest : List Row) × (rows ≡ mine ++ rest) × AreRestOf p slabs shown place mine × AreSpanRows ps rest

-- where a cursor is: the plan under way and the place of its next volume, the slabs of the volume that is
-- shown, its place, and the next of them
pub record Place : Type 0 where
  pub plan : ℕ
  pub place : ℕ
  pub slabs : List Slab
  pub shown : ℕ
  pub next : ℕ

-- the cursor before the rows of the next plan
abbrev pub after_plan : Place → Place
after_plan at = record { plan = at.plan + 1; place = 0; slabs = []; shown = at.shown; next = 0 }

-- the rows that are still to come
abbrev pub Awaits : List Filed → Place → List Row → Type 0
Awaits ps at rows = AreAwaited (drop at.plan ps) (drop at.next at.slabs) at.shown at.place rows

-- before and after a step of the cursor, the same rows are still to come
abbrev pub AwaitsAlike : List Filed → Place → Place → Type 0
AwaitsAlike ps old new = (rows : List Row) → Awaits ps old rows ↔ Awaits ps new rows

-- a slab of a live plan is the next
pub record HasSlab (ps : List Filed) (at : Place) : Type 0 where
  pub plan : Filed
  pub plans : List Filed
  pub slab : Slab
  pub slabs : List Slab
  pub under_way : drop at.plan ps ≡ plan ∷ plans
  pub live : is_live plan.row.usage ≡ true
  pub first : drop at.next at.slabs ≡ slab ∷ slabs

-- there is a next slab, or all plans are done
abbrev pub IsFound : List Filed → Place → Bool → Type 0
IsFound ps at found = MatchBool found (HasSlab ps at) (drop at.plan ps ≡ [])

-- no slab of the volume that is shown is left
abbrev pub IsSpent : Place → Type 0
IsSpent at = drop at.next at.slabs ≡ []

-- a slab is found among those of a plan's volumes, or none of them is left
abbrev pub IsSlabFound : Filed → Place → Bool → Type 0
IsSlabFound p at found = MatchBool found (at.next < length at.slabs)
    (IsSpent at × (drop at.place p.row.area ≡ []))

-- a slab of the plan under way is found, or the next plan is under way
abbrev pub IsEntered : Filed → Place → Place → Bool → Type 0
IsEntered p old new found = MatchBool found
    ((new.plan ≡ old.plan) × (is_live p.row.usage ≡ true) × (new.next < length new.slabs))
    (new.plan ≡ old.plan + 1)

-- if `is`, `row` is the next row to come, and the cursor has passed it; else no rows to come begin with it
abbrev pub IsNextRow : List Filed → Place → Place → Row → Bool → Type 0
IsNextRow ps old new row is = MatchBool is
    ((rest : List Row) → Awaits ps old (row ∷ rest) ↔ Awaits ps new rest)
    ((rest : List Row) → ¬ Awaits ps old (row ∷ rest))

-- these rows were compared with plans: `agree` says whether they are the plans' first rows, `at` is then the
-- place of the next one (`same`); `count` is how many they are, and `span_bounds` hold for their spans
pub record HasChecked (ps : List Filed) (at : Place) (agree : Bool) (count : ℕ) (span_bounds : SpanBounds)
    (rows : List Row) : Type 0
  where
    pub same : (rest : List Row) → AreSpanRows ps (rows ++ rest) ↔ (IsTrue agree × Awaits ps at rest)
    pub counted : count ≡ length rows
    pub few : count < 2 ^ 63
    pub known : AllByRecursion (IsKnownRow span_bounds) rows
