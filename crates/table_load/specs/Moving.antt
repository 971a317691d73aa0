-- How a content of schema 1 is moved to schema 2, and which content a database holds.
use Rattle.std.specs.Prelude.{◌≡◌, ◌≤◌, ◌⊎◌, ⊤, ℕ, ◌-◌, ◌^◌, true, List, [], ◌∷◌, ◌++◌, length, nat_le, nat_lt, ◌||◌, if◌then◌else◌, IsTrue, IsPermutation, Bool, false, filter}
use Rattle.std.specs.List.{AllByRecursion}
use Rattle.sqlite_trees.specs.declared.store.Store.{Ghosts}
use Rattle.sqlite_value.specs.Order.{Row}
use Rattle.sqlite.specs.{Effect.Database, Schema.Schema, State.HasCleanDisk, Held.Held, Held.state}
use Rattle.s2_cover.specs.Covers.{canonical_list}
use Rattle.volume4d.specs.Volume.{Shape, cells, rectangle, shape_positions, Block}
use Rattle.desk_rules.specs.Outcome.{is_live}
use Rattle.desk_store.specs.World.{Filed, Listed, World, IsContent}
use Rattle.desk_sql.specs.{declared.opening.finding.TablesPresent.TablesPresent, Rows.IsDesk, Rows.IsMadeTo, Rows.Tables, Rows.Lists, Rows.tables_of, Rows.tables_at, Rows.has_old_rows, Effects.ShowsAsBefore, Effects.HasOthers, Schema.blank_schema}
use Rattle.row_codec.specs.{Tables.operator_rows, Tables.plan_rows, Tables.area_rows, Tables.volume_rows, Tables.area_covers, Tables.cover_rows, Tables.ArePlanSpanRows, Tables.AreSpanRows, SpanBounds.HaveSpanRows, SpanBounds.IsMostCells, SpanBounds.IsMostSpans}
use Rattle.table_load.specs.{Opening.IsDatabaseOf, Opening.AreParts, Opening.BeginsWith, Opening.HasNoContent, Opening.IsContentOf, Opening.AreNoContent, declared.looking.DbStats.DbStats}

-- ---- schema 1
-- the most volumes of a plan, and the most cells of a rectangle's cover, in schema 1
abbrev pub old_max_volumes : ℕ
old_max_volumes = 8

abbrev pub old_max_cover : ℕ
old_max_cover = 256

-- a cell list has the same limits in both
abbrev pub IsOldShape : Shape → Type 0
IsOldShape (cells ids) = ⊤
IsOldShape (rectangle r) = length (canonical_list (shape_positions (rectangle r))) ≤ old_max_cover

-- the volumes of a plan within the limits of schema 1
pub record IsOldArea (area : List Block) : Type 0 where
  pub few : length area ≤ old_max_volumes
  pub each : AllByRecursion (λ v. IsOldShape v.footprint) area

-- a valid state within the limits of schema 1
pub record IsOldContent (w : World) : Type 0 where
  pub content : IsContent w
  pub areas : AllByRecursion (λ p. IsOldArea p.row.area) w.plans

-- no row is in the tables that schema 2 has alone
pub record HasNoNewRows (tables : Tables) : Type 0 where
  pub volumes : tables.volumes ≡ []
  pub covers : tables.covers ≡ []
  pub spans : tables.spans ≡ []

-- up to order, the tables have exactly the rows of the world, in schema 1
pub record AreOldTables (tables : Tables) (w : World) : Type 0 where
  pub new : HasNoNewRows tables
  pub operators : IsPermutation (operator_rows w) tables.operators
  pub plans : IsPermutation (plan_rows w.plans) tables.plans
  pub volumes : IsPermutation (volume_rows w.plans) tables.old_volumes
  pub spans : (rows : List Row) × AreSpanRows w.plans rows × IsPermutation rows tables.old_spans

-- the tables have the rows of this state in schema 1
pub record IsOldContentOf (t : Tables) (w : World) : Type 0 where
  pub content : IsOldContent w
  pub tables : AreOldTables t w

-- the tables have the rows of no valid state in schema 1
abbrev pub AreNoOldContent : Tables → Type 0
AreNoOldContent t = (w : World) → IsOldContent w → ¬ AreOldTables t w

-- the tables of schema 1 but for spans, each put in the order of its key
pub record AreSortedOld (t rows : Tables) : Type 0 where
  pub operator_part : Lists (0 ∷ []) t.operators rows.operators
  pub plan_part : Lists (0 ∷ 1 ∷ []) t.plans rows.plans
  pub volume_part : Lists (0 ∷ 1 ∷ 2 ∷ []) t.old_volumes rows.volumes

-- the tables but for spans have the rows of these operators and plans, which are a content's of schema 1
pub record AreOldParts (t : Tables) (ls : List Listed) (ps : List Filed) : Type 0 where
  pub parts : AreParts t ls ps
  pub areas : AllByRecursion (λ p. IsOldArea p.row.area) ps

-- ---- the move
-- the rows of a plan are added
pub record AddsPlanRows (p : Filed) (old new : Tables) : Type 0 where
  pub operators : new.operators ≡ old.operators
  pub plans : new.plans ≡ old.plans
  pub old_volumes : new.old_volumes ≡ old.old_volumes
  pub old_spans : new.old_spans ≡ old.old_spans
  pub with_volumes : IsPermutation (area_rows p ++ old.volumes) new.volumes
  pub with_covers : IsPermutation (area_covers p ++ old.covers) new.covers
  pub with_spans : (rows : List Row) × ArePlanSpanRows p rows × IsPermutation (rows ++ old.spans) new.spans

-- the rows of plans are added
pub record AddsPlansRows (ps : List Filed) (old new : Tables) : Type 0 where
  pub operators : new.operators ≡ old.operators
  pub plans : new.plans ≡ old.plans
  pub old_volumes : new.old_volumes ≡ old.old_volumes
  pub old_spans : new.old_spans ≡ old.old_spans
  pub with_volumes : IsPermutation (volume_rows ps ++ old.volumes) new.volumes
  pub with_covers : IsPermutation (cover_rows ps ++ old.covers) new.covers
  pub with_spans : (rows : List Row) × AreSpanRows ps rows × IsPermutation (rows ++ old.spans) new.spans

-- the rows of schema 1 are removed
abbrev pub RemovesOldRows : Tables → Tables → Type 0
RemovesOldRows old new = new ≡ record old { old_volumes = []; old_spans = [] }

-- the rows of schema 1 are removed, and those of `ps` in schema 2 are added
pub record MovesRows (ps : List Filed) (old new : Tables) : Type 0 where
  pub operators : new.operators ≡ old.operators
  pub plans : new.plans ≡ old.plans
  pub old_volumes : new.old_volumes ≡ []
  pub old_spans : new.old_spans ≡ []
  pub with_volumes : IsPermutation (volume_rows ps ++ old.volumes) new.volumes
  pub with_covers : IsPermutation (cover_rows ps ++ old.covers) new.covers
  pub with_spans : (rows : List Row) × AreSpanRows ps rows × IsPermutation (rows ++ old.spans) new.spans

-- the rows of plans come in the place of those of `volume2` and `span2`, and the rows of the others stay
pub record OrdersRows (ps : List Filed) (old new : Tables) : Type 0 where
  pub operators : new.operators ≡ old.operators
  pub plans : new.plans ≡ old.plans
  pub old_volumes : new.old_volumes ≡ old.old_volumes
  pub old_spans : new.old_spans ≡ old.old_spans
  pub with_volumes : IsPermutation (volume_rows ps ++ []) new.volumes
  pub with_covers : IsPermutation (cover_rows ps ++ []) new.covers
  pub with_spans : (rows : List Row) × AreSpanRows ps rows × IsPermutation (rows ++ []) new.spans

-- all of the schema's tables are made, with the rows that there were
pub record HasAllTables {S : Type 0} (g : Ghosts S) (made : TablesPresent) (old new : Held S) : Type 0 where
  pub was_open : IsTrue (state g old).is_open
  pub desk : IsDesk (state g new).now
  pub same : tables_of (state g new).now.trees ≡ tables_at made (state g old).now.trees

-- ---- what a store begins with
-- there were rows of schema 1, of this world; all are those of schema 2 now
pub record WasMoved {S : Type 0} (g : Ghosts S) (old new : Held S) (w : World) : Type 0 where
  pub made : TablesPresent
  pub desk : IsMadeTo made (state g old).now
  pub old_rows : has_old_rows (tables_at made (state g old).now.trees) ≡ true
  pub rows : IsOldContentOf (tables_at made (state g old).now.trees) w
  pub standing : IsDatabaseOf g new w

-- the tables that are made, with a row of schema 1, and rows of no valid state of schema 1
pub record HasNoOldContent (db : Database) : Type 0 where
  pub made : TablesPresent
  pub desk : IsMadeTo made db
  pub old : has_old_rows (tables_at made db.trees) ≡ true
  pub none : AreNoOldContent (tables_at made db.trees)

-- how many plans were moved is reported up to the greatest number of 32 bits
abbrev pub reported_count : List Filed → ℕ
reported_count ps = if nat_le (length ps) (2 ^ 32 - 1) then length ps else 2 ^ 32 - 1

module _ {S : Type 0} (g : Ghosts S) (old new : Held S) where
  -- over an open connection and a clean disk, a store of this world begins, and so many plans were moved
  abbrev pub BeginsMoved : World → ℕ → Type 0
  BeginsMoved w count =
      HasCleanDisk (state g new) → IsTrue (state g new).is_open →
      ((count ≡ 0) × BeginsWith g old new w) ⊎ ((count ≡ reported_count w.plans) × WasMoved g old new w)

  -- what is shown is invalid, in either schema
  abbrev pub ShowsNoContent : Type 0
  ShowsNoContent = HasCleanDisk (state g new) → IsTrue (state g new).is_open →
      HasOthers (state g old).now
      ⊎ (HasNoContent (state g old).now ⊎ HasNoOldContent (state g old).now)

  -- the schema's tables are made so far now, with the rows that there were
  pub record HasSameRows : Type 0 where
    pub made : TablesPresent
    pub next : TablesPresent
    pub was_open : IsTrue (state g old).is_open
    pub desk : IsMadeTo made (state g old).now
    pub after : IsMadeTo next (state g new).now
    pub same : tables_at next (state g new).now.trees ≡ tables_at made (state g old).now.trees

  -- what is shown is what was shown, or has the same rows
  abbrev pub KeepsRows : Type 0
  KeepsRows =
      HasCleanDisk (state g new) → IsTrue (state g new).is_open → ShowsAsBefore g old new ⊎ HasSameRows

-- ==== The content that a database holds, in schema 1 or in schema 2
-- the rows of this content, in schema 1 or in schema 2
abbrev pub IsContentIn : Bool → Tables → World → Type 0
IsContentIn true tables w = IsOldContentOf tables w
IsContentIn false tables w = IsContentOf tables w

-- the rows are those of no valid state in this schema
abbrev pub AreNoContentIn : Bool → Tables → Type 0
AreNoContentIn true tables = AreNoOldContent tables
AreNoContentIn false tables = AreNoContent tables

-- the tables that are made, with the rows of this content: in schema 1 if that has rows, else in schema 2
pub record HoldsContent (old : Bool) (w : World) (db : Database) : Type 0 where
  pub made : TablesPresent
  pub desk : IsMadeTo made db
  pub schema : has_old_rows (tables_at made db.trees) ≡ old
  pub rows : IsContentIn old (tables_at made db.trees) w

-- no table at all, other tables than the schema's, or rows of no valid state in either schema
abbrev pub HoldsNone : Database → Type 0
HoldsNone db = (db.schema ≡ blank_schema) ⊎ (HasOthers db ⊎ (HasNoContent db ⊎ HasNoOldContent db))

-- another table, index or view stands beside a desk's six tables and eight indexes
abbrev pub has_others : Schema → Bool
has_others schema =
    nat_lt 6 (length schema.tables) || (nat_lt 8 (length schema.indexes) || nat_lt 0 (length schema.views))

-- how many plans are not closed
abbrev pub live_count : List Filed → ℕ
live_count ps = length (filter (λ p. is_live p.row.usage) ps)

-- these are the statistics of the state `w`, whatever `is_old` says
pub record AreStatsOf (h : DbStats) (w : World) : Type 0 where
  pub operators : h.operators ≡ length w.operators
  pub plans : h.plans ≡ length w.plans
  pub live : h.live ≡ live_count w.plans
  pub spans : HaveSpanRows w.plans h.spans
  pub most_spans : IsMostSpans w.plans h.most_spans
  pub most_cells : IsMostCells w.plans h.most_cells

module _ {S : Type 0} (g : Ghosts S) (old new : Held S) where
  -- over a clean disk and an open connection, what was shown is no valid state
  abbrev pub ShowsNone : Type 0
  ShowsNone = HasCleanDisk (state g new) → IsTrue (state g new).is_open → HoldsNone (state g old).now

  -- over a clean disk, what was shown has the rows of this content
  abbrev pub ShowsContent : Bool → World → Type 0
  ShowsContent schema w = HasCleanDisk (state g new) → HoldsContent schema w (state g old).now
