-- A store over tables: what contracts see of it, the results of its readers and changes, and why it fails.
use Rattle.std.specs.Prelude.{ℕ, refl, List, ◌≡◌, ◌⊎◌, ◌≤◌, ◌-◌, ◌^◌, IsTrue, length, Result, IfErr, IfOk, ◌≢◌, MatchResult, Ok, OnErr, OnOk, [], ◌∷◌, Option, Some, None, pos, Bool, ◌++◌, take, drop, not, cond, map}
use Rattle.std.specs.{Coded.Coded, Coded.code_by, Coded.coded×, Coded.coded_ℕ, Result.IsErrAnd, List.find, List.filter, List.list_any, List.AllByRecursion, List.Sorted.IsPermutation}
use Rattle.sqlite.specs.{Held.Held, Held.held_code, Held.state, State.HasCleanDisk, Effect.Database, Files.FailsToClose, Files.IsClosed, declared.error.Error.Error, declared.error.Error.TheVariants.SqliteFailure}
use Rattle.sqlite_trees.specs.{declared.store.Store.Ghosts, View.doubt as doubt_of, View.IsClean}
use Rattle.sqlite_value.specs.{Order.Row, declared.value.Value.TheVariants.Int}
use Rattle.sqlite.specs.declared.error.ErrorCode.TheVariants as code
use Rattle.sqlite_disk.specs.declared.Disk as disk
use Rattle.sqlite_store.specs.{declared.store.FileStore.FileStore, FileStore.view}
use Rattle.desk_rules.specs.Limits.{is_operator_name}
use Rattle.desk_rules.specs.declared.words.Usage.TheVariants as usage
use Rattle.desk_store.specs.{World.World, World.Filed, World.is_own, World.IsId, World.IsPlan, Changes.filed_by, Changes.IsFitting, Changes.changed_by, declared.change.Change.Change, declared.change.Change.TheVariants.Enrol, declared.change.Change.TheVariants.Put, declared.change.Change.TheVariants.Close, declared.change.Change.TheVariants.Clear, declared.fault.StoreFault.StoreFault, declared.fault.StoreFault.TheVariants.Store}
use Rattle.desk_store.specs.contracts.list.ListStore as list
use Rattle.desk_sql.specs.{Rows.tables_of, Rows.Tables, Rows.operator_row, Rows.is_row_by, Rows.is_of, Rows.is_not_of, Changing.AreLow, Changing.HasRowids, Statements.HasDiskFailed, Effects.OnlyReads}
use Rattle.desk_changes.specs.RowChanges.{HasRoomFor}
use Rattle.row_codec.specs.Tables.{ArePlanSpanRows, id_text, usage_number, row_of_plan, area_rows, area_covers, HasNoOldRows}
use Rattle.table_load.specs.Files.{MayHave}
use Rattle.desk_tables.specs.declared.closing.CheckpointError.{CheckpointError}

-- the connection, the world that it keeps, and how many faults it has met
pub record Shown (S : Type 0) : Type 0 where
  pub held : Held S
  pub world : World
  pub faults : ℕ

abbrev pub shown_code : {S : Type 0} → Coded S → Coded (Shown S)
shown_code {S} store =
    code_by (Held S × (World × ℕ)) (coded× (held_code store) (coded× list.the_row.coded coded_ℕ))
    (λ s. (s.held, (s.world, s.faults)))
    (λ p. record { held = p.0; world = p.1.0; faults = p.1.1 })
    (λ _. refl)

-- a connection, and the world that the tables which it shows stand for
pub record HeldWorld (S : Type 0) : Type 0 where
  pub held : Held S
  pub world : World

abbrev pub held_world_code : {S : Type 0} → Coded S → Coded (HeldWorld S)
held_world_code {S} store =
    code_by (Held S × World) (coded× (held_code store) list.the_row.coded) (λ t. (t.held, t.world))
    (λ p. record { held = p.0; world = p.1 })
    (λ _. refl)

-- ==== Why a store over tables answers that it failed, though the disk returned what was written
-- `span2` has 2 ^ 64 - 1 rows or more
abbrev pub HasTooManySpans : Database → Type 0
HasTooManySpans db = 2 ^ 64 - 1 ≤ length (tables_of db.trees).spans

-- rowids are left for a plan's row, and for those of its volumes and spans
pub record HasRoomForPlan (p : Filed) (db : Database) : Type 0 where
  pub plan : HasRoomFor 1 (db.trees 2)
  pub volumes : HasRoomFor (length p.row.area) (db.trees 9)
  pub spans : (rows : List Row) → ArePlanSpanRows p rows → HasRoomFor (length rows) (db.trees 11)

module _ {S : Type 0} (g : Ghosts S) (old new : Held S) where
  -- over an open connection, `Store` is answered only if the disk failed
  abbrev pub BlamesStore : StoreFault → Type 0
  BlamesStore e =
      HasCleanDisk (state g new) → IsTrue (state g new).is_open → e ≡ Store → HasDiskFailed g old new

  -- the same of a change, if the tables have rowids left for what it adds
  abbrev pub BlamesChange : Change → StoreFault → Type 0
  BlamesChange (Enrol operator ceiling) e = HasRowids 1 ((state g old).now.trees 0) → BlamesStore e
  BlamesChange (Put operator row) e = HasRoomForPlan (filed_by operator row) (state g old).now → BlamesStore e
  BlamesChange (Close operator id) e = AreLow ((state g old).now.trees 2) → BlamesStore e
  BlamesChange (Clear operator ids) e = BlamesStore e

  -- over an open connection, `Store` is answered only if the disk failed or there are too many spans to count
  abbrev pub BlamesSpans : StoreFault → Type 0
  BlamesSpans e =
      HasCleanDisk (state g new) → IsTrue (state g new).is_open → e ≡ Store →
      HasDiskFailed g old new ⊎ HasTooManySpans (state g old).now

-- ==== What a reader of a store's tables comes to
module _ {S V : Type 0} (g : Ghosts S) (old new : HeldWorld S) (result : Result V StoreFault) where
  -- what it answers over a clean disk, and why it fails; the world stays, and the connection is only read
  pub record ReadsWorld (Gives : V → Type 0) (Blames : StoreFault → Type 0) : Type 0 where
    pub value : HasCleanDisk (state g new.held) → IfOk result Gives
    pub cause : IfErr result Blames
    pub same : new.world ≡ old.world
    pub reads : OnlyReads g old.held new.held

  -- the same of a reader that fails with `Store` only if the disk failed
  abbrev pub ReadsPlans : (V → Type 0) → Type 0
  ReadsPlans Gives = ReadsWorld Gives (BlamesStore g old.held new.held)

  -- or also if there are more spans than a reader counts
  abbrev pub ReadsSpans : (V → Type 0) → Type 0
  ReadsSpans Gives = ReadsWorld Gives (BlamesSpans g old.held new.held)

-- the rows of spans that the connection shows
abbrev pub spans_shown : {S : Type 0} → Ghosts S → HeldWorld S → List Row
spans_shown g t = (tables_of (state g t.held).now.trees).spans

-- a change that fits the world, if the disk is clean, makes this of it
pub record IsNext {S : Type 0} (g : Ghosts S) (old : HeldWorld S) (next : World) (change : Change) : Type 0
  where
    pub world : next ≡ changed_by change old.world
    pub fits : HasCleanDisk (state g old.held) → IsFitting change old.world

-- if a change was committed, `answer` is returned, and the world becomes `next`; else the world stays, and
-- the fault isn't `Store` if memory ran out
abbrev pub HasFollowed : {V U : Type 0} → Result V Error → U → Result U StoreFault → World → World → World
    → Type 0
HasFollowed committed answer result old new next =
    MatchResult committed (λ _. (result ≡ Ok answer) × (new ≡ next))
    (λ error. IsErrAnd result (λ fault. fault ≡ Store → error ≢ SqliteFailure code.OutOfMemory)
    × (new ≡ old))

-- the world is the one after the change, which is committed, or the same as before if it failed; a crash
-- leaves what it could leave before, or the world after the change
pub record IsMade {S V : Type 0} (g : Ghosts S) (old new : HeldWorld S) (result : Result V StoreFault)
    (change : Change) : Type 0
  where
    pub ok : OnOk result (new.world ≡ changed_by change old.world)
    pub err : OnErr result (new.world ≡ old.world)
    pub crash : MayHave g old.held new.held (changed_by change old.world)
    pub is_open : HasCleanDisk (state g new.held) → OnOk result (IsTrue (state g new.held).is_open)
    pub committed : HasCleanDisk (state g new.held)
        → OnOk result ((state g new.held).now ≡ (state g new.held).committed)
    pub doubt : doubt_of (state g old.held).is_clean ≤ doubt_of (state g new.held).is_clean
    pub shield : (state g old.held).IsShielded → (state g new.held).IsShielded

-- the checkpoint of a close failed: a crash has no new outcome, and if the disk returned what was written,
-- then memory ran out, the disk failed meanwhile, or the connection was shut before
pub record IsLeftUnclosed {D : Type 0} {g : disk.Ghosts D} (h : Held (FileStore D g))
    (it : CheckpointError D g)
    : Type 0 where
  pub closed : IsClosed h it.left
  pub cause : IsClean (view it.left) → FailsToClose h it.left it.error

-- the plan as a list of none or one
abbrev pub one_or_none : Option Filed → List Filed
one_or_none None = []
one_or_none (Some p) = p ∷ []

-- the operator's plan of this id, as a list of none or one
abbrev pub own_of : List ℕ → List ℕ → World → List Filed
own_of operator id w = one_or_none (find (is_own operator id) w.plans)

-- ==== What a change of a desk does to its tables, up to the order of rows
-- a row stays if the operator's plans `ids` are removed: it is of none of them
abbrev pub is_left : List ℕ → List (List ℕ) → Row → Bool
is_left operator ids row = not (list_any (λ id. is_of operator (id_text id) row) ids)

-- a plan's row with another usage, its fourth column
abbrev pub with_usage : ℕ → Row → Row
with_usage number row = take 3 row ++ Int (pos number) ∷ drop 4 row

-- a plan's row with the usage Closed, if it is the operator's of the id
abbrev pub closed_if : List ℕ → List ℕ → Row → Row
closed_if operator id row =
    cond (is_of operator (id_text id) row) (with_usage (usage_number usage.Closed) row) row

-- the operator's row is put in place of the one of its name, or added
pub record EnrolsRows (name : List ℕ) (ceiling : ℕ) (old new : Tables) : Type 0 where
  pub no_old : HasNoOldRows old → HasNoOldRows new
  pub operators :
      IsPermutation (operator_row name ceiling
      ∷ filter (λ r. not (is_row_by name r)) old.operators) new.operators
  pub plans : IsPermutation old.plans new.plans
  pub volumes : IsPermutation old.volumes new.volumes
  pub covers : IsPermutation old.covers new.covers
  pub spans : IsPermutation old.spans new.spans

-- the plan's rows are put in place of those of its key
pub record PutsRows (p : Filed) (old new : Tables) : Type 0 where
  pub no_old : HasNoOldRows old → HasNoOldRows new
  pub operators : IsPermutation old.operators new.operators
  pub plans :
      IsPermutation (row_of_plan p ∷ filter (is_not_of p.operator (id_text p.row.id)) old.plans) new.plans
  pub volumes :
      IsPermutation (area_rows p ++ filter (is_not_of p.operator (id_text p.row.id)) old.volumes) new.volumes
  pub covers :
      IsPermutation (area_covers p ++ filter (is_not_of p.operator (id_text p.row.id)) old.covers) new.covers
  pub spans :
      (rows : List Row) × ArePlanSpanRows p rows
      × IsPermutation (rows ++ filter (is_not_of p.operator (id_text p.row.id)) old.spans) new.spans

-- the plan's row is closed, and its spans are taken out
pub record ClosesRows (operator id : List ℕ) (old new : Tables) : Type 0 where
  pub no_old : HasNoOldRows old → HasNoOldRows new
  pub operators : IsPermutation old.operators new.operators
  pub plans : IsPermutation (map (closed_if operator id) old.plans) new.plans
  pub volumes : IsPermutation old.volumes new.volumes
  pub covers : IsPermutation old.covers new.covers
  pub spans : IsPermutation (filter (is_not_of operator (id_text id)) old.spans) new.spans

-- the rows of the plans are taken out
pub record ClearsRows (operator : List ℕ) (ids : List (List ℕ)) (old new : Tables) : Type 0 where
  pub no_old : HasNoOldRows old → HasNoOldRows new
  pub operators : IsPermutation old.operators new.operators
  pub plans : IsPermutation (filter (is_left operator ids) old.plans) new.plans
  pub volumes : IsPermutation (filter (is_left operator ids) old.volumes) new.volumes
  pub covers : IsPermutation (filter (is_left operator ids) old.covers) new.covers
  pub spans : IsPermutation (filter (is_left operator ids) old.spans) new.spans

-- the tables are changed as this change says
unfoldable pub ChangesRows : Change → Tables → Tables → Type 0
ChangesRows (Enrol operator ceiling) old new = EnrolsRows operator ceiling old new
ChangesRows (Put operator row) old new = PutsRows (filed_by operator row) old new
ChangesRows (Close operator id) old new = ClosesRows operator id old new
ChangesRows (Clear operator ids) old new = ClearsRows operator ids.items old new

-- the names, ids and volumes that a change brings are within their limits
unfoldable pub IsWithinLimits : Change → Type 0
IsWithinLimits (Enrol operator ceiling) = IsTrue (is_operator_name operator)
IsWithinLimits (Put operator row) = IsPlan row
IsWithinLimits (Close operator id) = IsId id
IsWithinLimits (Clear operator ids) = AllByRecursion IsId ids.items
