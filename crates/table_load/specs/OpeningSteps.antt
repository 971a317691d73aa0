-- What a step of an opening comes to, what may be found if it is cut short, and which part of files is named.
use Rattle.std.specs.Prelude.{List, ◌≡◌, ◌≢◌, ◌≤◌, ℕ, false, true, None, IsTrue, Result, IfOk, IfErr, OnOk, OnErr, ◌⊎◌, Bool, [], ◌∷◌, Option, Some, IfSome, codes}
use Rattle.std.specs.{List.AllByRecursion, List.Sorted.IsStrictlySortedBy}
use Rattle.sqlite_value.specs.Order.{Row}
use Rattle.sqlite_trees.specs.{declared.store.Store.Ghosts, View.doubt as doubt_of}
use Rattle.sqlite.specs.{State.HasCleanDisk, State.KeepsCommit, Held.Held, Held.state, Tree.Trees, Schema.Schema, Effect.Database, Effect.IsDatabase, Files.file_state, Files.over_files}
use Rattle.sqlite_disk.specs.declared.Disk as disk
use Rattle.sqlite_wal.specs.Recovery.{Image}
use Rattle.sqlite_store.specs.declared.store.FileStore.{FileStore}
use Rattle.desk_rules.specs.Limits.{max_priority, is_operator_name}
use Rattle.desk_store.specs.World.{World, IsId, Filed, Listed, listed_cmp, filed_cmp}
use Rattle.desk_sql.specs.{declared.opening.finding.TablesPresent.TablesPresent, declared.opening.finding.TablesPresent.TheVariants.Nothing, Effects.Holds, Effects.IsOpenIfClean, Effects.Makes, Effects.OnlyReads, Effects.Remembers, Schema.has_table, Queries.WasOpen, Rows.IsMadeTo, Rows.Tables, Rows.tables_at, Rows.IsDesk, Rows.tables_of, Rows.has_old_rows, Rows.Lists}
use Rattle.desk_sql.specs.declared.opening.numbers.DeskTable.TheVariants as desk
use Rattle.row_codec.specs.{declared.exact.RowFault.RowFault, Tables.AreOperatorRows, Tables.ArePlanRows, Tables.HaveOperatorsAndRoom, Tables.AreSpanRows, Tables.row_of_plan}
use Rattle.row_codec.specs.declared.exact.RowFault.TheVariants as row
use Rattle.table_load.specs.{declared.spans.SpanCheck.SpanCheck, declared.fault.OpenFault.OpenFault, declared.fault.OpenFault.TheVariants.NotADesk, declared.fault.OpenFault.TheVariants.OldSchema, SpanChecks.HasChecked, Opening.AreNoContent, Opening.BlamesReading, Opening.BlamesDatabase, Opening.BlamesDisk, Opening.WasCompleted, Opening.WasOrdered, Opening.Stands, Opening.AreParts, Opening.AreSortedHeads, Opening.IsNoDesk, Moving.AreNoOldContent, Moving.HasAllTables, Moving.WasMoved, Moving.reported_count, Moving.IsOldContentOf, Moving.HoldsContent, Moving.AreSortedOld, Moving.HasNoNewRows, Moving.IsOldArea, Files.IsSettledAt, Files.FindsFirst, Files.HasWorld, Files.Finds, declared.naming.InvalidPart.InvalidPart, declared.naming.InvalidPart.TheVariants.NoTable, declared.naming.InvalidPart.TheVariants.OtherTables, declared.naming.InvalidPart.TheVariants.BothSchemas, declared.naming.InvalidPart.TheVariants.Operator, declared.naming.InvalidPart.TheVariants.Plan, declared.naming.InvalidPart.TheVariants.Plans, declared.naming.InvalidPart.TheVariants.Volume, declared.naming.InvalidPart.TheVariants.Cover, declared.naming.InvalidPart.TheVariants.Span, declared.naming.InvalidPart.TheVariants.OldVolume, declared.naming.InvalidPart.TheVariants.OldSpan, declared.naming.InvalidPart.TheVariants.OldPlan}
use Rattle.table_load.specs.declared.fault.OpenFault.TheVariants as opening

-- the check has compared these rows with its plans
abbrev pub WereCompared : SpanCheck → List Row → Type 0
WereCompared check = HasChecked check.plans.items check.cursor check.agree check.count check.span_bounds

-- ==== What a step of an opening comes to, by its result
-- ---- what a step begins with
-- no transaction is begun, and no statement is refused for its steps
pub record IsAtRest {S : Type 0} (h : Held S) : Type 0 where
  pub settled : h.in_transaction ≡ false
  pub unlimited : h.step_limit ≡ None

module _ {S : Type 0} (g : Ghosts S) (h : Held S) (made : TablesPresent) where
  -- over a clean disk and an open connection, the tables `made` are there; no transaction is begun
  pub record ShowsPart : Type 0 where
    pub part : Holds g h (IsMadeTo made)
    pub settled : h.in_transaction ≡ false

  -- the same, and the table of operators is among them
  pub record ShowsOperators : Type 0 where
    pub part : Holds g h (IsMadeTo made)
    pub settled : h.in_transaction ≡ false
    pub some : has_table made desk.Operator ≡ true

-- ---- what it comes to
module _ {S : Type 0} (g : Ghosts S) (old new : Held S) where
  -- over a clean disk a store begins with tables that were completed
  abbrev pub BeginsCompleted : World → Type 0
  BeginsCompleted w = HasCleanDisk (state g new) → WasCompleted g old new w

  -- the same with tables that were put in canonical order
  abbrev pub BeginsOrdered : World → Type 0
  BeginsOrdered w = HasCleanDisk (state g new) → WasOrdered g old new w

  -- the same with plans of schema 1 that were migrated; `count` says how many
  abbrev pub BeginsAllMoved : World → ℕ → Type 0
  BeginsAllMoved w count =
      HasCleanDisk (state g new) → (count ≡ reported_count w.plans) × WasMoved g old new w

  -- over a clean disk the tables, so far as they were made, had the rows of no valid state
  abbrev pub HadNone : TablesPresent → Type 0
  HadNone made = HasCleanDisk (state g new) → AreNoContent (tables_at made (state g old).now.trees)

  -- over a clean disk, the tables had the rows of no valid state of schema 1
  abbrev pub HadNoOld : TablesPresent → Type 0
  HadNoOld made = HasCleanDisk (state g new) → AreNoOldContent (tables_at made (state g old).now.trees)

module _ {S : Type 0} (g : Ghosts S) (old new : Held S) {V : Type 0} (result : Result V OpenFault) where
  -- what was missing of the schema's tables is made, over an open connection
  abbrev pub MakesWhole : TablesPresent → Type 0
  MakesWhole made =
      HasCleanDisk (state g new) → IsTrue (state g new).is_open → OnOk result (HasAllTables g made old new)

  -- the tables `made` are read and not changed: what is returned of them (`Gives`), what holds of them if
  -- they are reported to be invalid (`Refuses`), and why reading fails
  pub record IsRead (made : TablesPresent) (Gives : Tables → V → Type 0) (Refuses : Tables → Type 0) : Type 0
    where
      pub value : HasCleanDisk (state g new) → IfOk result (Gives (tables_at made (state g old).now.trees))
      pub was_open : WasOpen g old new result
      pub none : IfErr result (λ e. e ≡ NotADesk → HasCleanDisk (state g new)
          → Refuses (tables_at made (state g old).now.trees))
      pub newer : IfErr result (λ e. e ≢ OldSchema)
      pub cause : IfErr result (BlamesReading g old new)
      pub reads : OnlyReads g old new

  -- rows are added within a transaction, which goes on; what fails commits nothing
  pub record IsAdded (Changes : Tables → Tables → Type 0) : Type 0 where
    pub done : HasCleanDisk (state g new) → OnOk result (Makes g old new Changes)
    pub undone : HasCleanDisk (state g new) → OnErr result (KeepsCommit (state g old) (state g new))
    pub fault : IfErr result (λ e. (e ≢ NotADesk) × (e ≢ OldSchema))
    pub remembered : Remembers g old new

  -- a database without a table has the schema's tables now, with the rows of a world
  pub record IsMadeAnew (world : World) : Type 0 where
    pub stands : OnOk result (Stands g new world)
    pub live : OnOk result (IsOpenIfClean g new)
    pub limit : new.step_limit ≡ old.step_limit
    pub doubt : doubt_of (state g old).is_clean ≤ doubt_of (state g new).is_clean
    pub shield : (state g old).IsShielded → (state g new).IsShielded

  module _ (world : V → World) (Begins : V → Type 0) where
    -- all tables come to be there, with a world's rows in schema 2: how the world comes from what was there
    -- (`Begins`), what holds if that is invalid (`Refuses`), why it fails, and what then stays (`Keeps`)
    pub record IsSetUp (Refuses Keeps : Type 0) : Type 0 where
      pub begins : IfOk result Begins
      pub stands : IfOk result (λ v. Stands g new (world v))
      pub was_open : WasOpen g old new result
      pub live : OnOk result (IsOpenIfClean g new)
      pub none : IfErr result (λ e. e ≡ NotADesk → Refuses)
      pub newer : IfErr result (λ e. e ≢ OldSchema)
      pub cause : IfErr result (BlamesReading g old new)
      pub kept : OnErr result Keeps
      pub limit : new.step_limit ≡ old.step_limit
      pub doubt : doubt_of (state g old).is_clean ≤ doubt_of (state g new).is_clean
      pub shield : (state g old).IsShielded → (state g new).IsShielded

    -- a whole opening, of which it may also be reported that there are rows of schema 1
    pub record IsOpening (Refuses Older Keeps : Type 0) : Type 0 where
      pub begins : IfOk result Begins
      pub stands : IfOk result (λ v. Stands g new (world v))
      pub live : OnOk result (IsOpenIfClean g new)
      pub none : IfErr result (λ e. e ≡ NotADesk → Refuses)
      pub older : IfErr result (λ e. e ≡ OldSchema → Older)
      pub cause : IfErr result (BlamesDatabase g old new)
      pub kept : OnErr result Keeps
      pub limit : new.step_limit ≡ old.step_limit
      pub doubt : doubt_of (state g old).is_clean ≤ doubt_of (state g new).is_clean
      pub shield : (state g old).IsShielded → (state g new).IsShielded

-- ---- of a connection that is given away
module _ {S : Type 0} (g : Ghosts S) (old new : Held S) where
  -- a store is over the connection, open on a clean disk, with no step limit: a crash leaves just its content
  pub record IsAdopted (world : World) : Type 0 where
    pub live : IsOpenIfClean g new
    pub left : IsSettledAt g new world
    pub unlimited : new.step_limit ≡ None
    pub doubt : doubt_of (state g old).is_clean ≤ doubt_of (state g new).is_clean
    pub shield : (state g old).IsShielded → (state g new).IsShielded

  -- the connection is given back, without a step limit, for this fault: what is said of it, and what is kept
  pub record IsNotAdopted (e : OpenFault) (Refuses Older Keeps : Type 0) : Type 0 where
    pub none : e ≡ NotADesk → Refuses
    pub older : e ≡ OldSchema → Older
    pub cause : BlamesDisk g old new e
    pub kept : Keeps
    pub unlimited : new.step_limit ≡ None
    pub doubt : doubt_of (state g old).is_clean ≤ doubt_of (state g new).is_clean

-- ==== What may be found after an opening that was cut short: the content that was there, in either schema
-- the trees list and obey a desk's schema, and have rows of schema 1, which are those of the content
pub record HasOldWorld (db : Trees) (w : World) : Type 0 where
  pub listed : Schema
  pub desk : IsDesk (record { schema = listed; trees = db })
  pub sound : IsDatabase (record { schema = listed; trees = db })
  pub schema : has_old_rows (tables_of db) ≡ true
  pub rows : IsOldContentOf (tables_of db) w

-- a database has a content in schema 2, so far as its tables are made, which may be not at all; the trees are
-- a desk's as a whole, with that content
pub record IsCompletedAs (db : Database) (left : Trees) : Type 0 where
  pub world : World
  pub before : HoldsContent false world db
  pub after : HasWorld left world

-- a database has a content in schema 1; the trees are a desk's as a whole, with that content in schema 1 or 2
pub record IsMovedAs (db : Database) (left : Trees) : Type 0 where
  pub world : World
  pub before : HoldsContent true world db
  pub after : HasOldWorld left world ⊎ HasWorld left world

-- what an opening that may migrate leaves: the tables completed, or the rows migrated
abbrev pub IsMovedOn : Database → Trees → Type 0
IsMovedOn db left = IsCompletedAs db left ⊎ IsMovedAs db left

module _ {S : Type 0} (g : Ghosts S) (old new : Held S) (Becomes : Database → Trees → Type 0) where
  -- a crash leaves what it could leave before, or what an open connection showed has become this
  abbrev pub MayBecome : Type 0
  MayBecome = HasCleanDisk (state g new) → (db : Trees) → (state g new).may_leave db
      → (state g old).may_leave db ⊎ (IsTrue (state g old).is_open × Becomes (state g old).now db)

  -- a crash leaves the trees that an open connection showed, or what they have become
  abbrev pub LeavesShownOr : Type 0
  LeavesShownOr = HasCleanDisk (state g new) → IsTrue (state g old).is_open → (db : Trees)
      → (state g new).may_leave db → (db ≡ (state g old).now.trees) ⊎ Becomes (state g old).now db

module _ {D : Type 0} {g : disk.Ghosts D} (Becomes : Database → Trees → Type 0) (image : Image) where
  -- an opening of files that held this has come to this connection: wherever it was cut short, a crash leaves
  -- the database of the files, or what that has become
  pub record IsCutShort (h : Held (FileStore D g)) : Type 0 where
    pub found : Held (FileStore D g)
    pub opened : HasCleanDisk (file_state h) → FindsFirst image found
    pub left : HasCleanDisk (file_state h) → (db : Trees) → (file_state h).may_leave db
        → (db ≡ (file_state found).now.trees) ⊎ Becomes (file_state found).now db

-- a database has this content, in schema 1 or in schema 2, so far as its tables are made
abbrev pub HasContent : World → Database → Type 0
HasContent w db = (old : Bool) × HoldsContent old w db

-- whatever connection finds the database of such files shows this content
abbrev pub ShowContent : {D : Type 0} → disk.Ghosts D → Image → World → Type 0
ShowContent {D} g image w = (found : Held (FileStore D g)) → FindsFirst image found
    → HasContent w (file_state found).now

-- ==== Which part of files is named to an administrator, and what is left of them
-- ---- which part is named
-- a part, if its rows are invalid; none if memory ran out
abbrev pub part_if_invalid : RowFault → InvalidPart → Option InvalidPart
part_if_invalid row.InvalidRows part = Some part
part_if_invalid row.OutOfMemory part = None

-- the row in `plan` of a plan within the limits, whatever its volumes are
pub record IsPlanHead (head : Row) : Type 0 where
  pub plan : Filed
  pub operator : IsTrue (is_operator_name plan.operator)
  pub id : IsId plan.row.id
  pub priority : plan.row.priority ≤ max_priority
  pub row : head ≡ row_of_plan plan

abbrev pub ArePlanHeads : List Row → Type 0
ArePlanHeads heads = AllByRecursion IsPlanHead heads

-- rows of spans were compared with plans: `Span` is named if they aren't the rows of the plans, else `Cover`
-- if a cover isn't that of its volume
abbrev pub FailsSpans : List Filed → List Row → Bool → InvalidPart → Type 0
FailsSpans ps rows covered Span = ¬ AreSpanRows ps rows
FailsSpans ps rows covered Cover = AreSpanRows ps rows × (covered ≡ false)
FailsSpans ps rows covered _ = ⊥

-- the same of schema 1, which has no covers: `OldPlan` is named if a plan exceeds the limits of schema 1
abbrev pub FailsOldSpans : List Filed → List Row → InvalidPart → Type 0
FailsOldSpans ps rows OldSpan = ¬ AreSpanRows ps rows
FailsOldSpans ps rows OldPlan = AreSpanRows ps rows × (¬ AllByRecursion (λ p. IsOldArea p.row.area) ps)
FailsOldSpans ps rows _ = ⊥

-- no operators by name have these rows
abbrev pub AreNoOperators : List Row → Type 0
AreNoOperators rows = (ls : List Listed) → IsStrictlySortedBy listed_cmp ls → ¬ AreOperatorRows ls rows

-- no plans by operator and id have these rows
abbrev pub AreNoPlans : List Row → List Row → Type 0
AreNoPlans heads volumes =
    (ps : List Filed) → IsStrictlySortedBy filed_cmp ps → ¬ ArePlanRows ps heads volumes

-- operators and plans have these rows, but a plan's operator isn't there, or an operator has too many plans
pub record LackOperatorsOrRoom (t : Tables) : Type 0 where
  pub operators : List Listed
  pub plans : List Filed
  pub listed : AreOperatorRows operators t.operators
  pub filed : ArePlanRows plans t.plans t.volumes
  pub unshared : ¬ HaveOperatorsAndRoom operators plans

-- the part that is named of the rows but for spans and covers; `other` is the name for rows of volumes
abbrev pub FailsHeads : Tables → InvalidPart → InvalidPart → Type 0
FailsHeads t other part =
    ((part ≡ Operator) × AreNoOperators t.operators)
    ⊎ ((((part ≡ Plan) ⊎ (part ≡ other)) × AreNoPlans t.plans t.volumes)
    ⊎ ((part ≡ Plans) × LackOperatorsOrRoom t))

-- some operators and these plans have the rows but for spans and covers, and are a content's
abbrev pub AreGoodHeads : Tables → List Filed → Type 0
AreGoodHeads t ps = (ls : List Listed) × AreParts t ls ps

-- ---- what tables show of the part that is named
-- these plans have all other rows, and their spans, in the order of their key, fail so
pub record FailsAfter (rows : Tables) (spans : List Row)
    (Fails : List Filed → List Row → Type 0) : Type 0 where
  pub plans : List Filed
  pub good : AreGoodHeads rows plans
  pub sorted : List Row
  pub listed : Lists (0 ∷ 1 ∷ 2 ∷ 3 ∷ []) spans sorted
  pub fails : Fails plans sorted

-- tables of schema 2, each in the order of its key: rows but for spans and covers fail, or else these
pub record FailsNew (t : Tables) (part : InvalidPart) : Type 0 where
  pub rows : Tables
  pub covered : Bool
  pub read : AreSortedHeads t rows covered
  pub fails : FailsHeads rows Volume part
      ⊎ FailsAfter rows t.spans (λ ps spans. FailsSpans ps spans covered part)

-- the same of schema 1
pub record FailsOld (t : Tables) (part : InvalidPart) : Type 0 where
  pub rows : Tables
  pub read : AreSortedOld t rows
  pub fails : FailsHeads rows OldVolume part
      ⊎ FailsAfter rows t.old_spans (λ ps spans. FailsOldSpans ps spans part)

-- tables with rows of schema 1: there are rows of schema 2 too, or else those of schema 1 fail
abbrev pub FailsMoving : Tables → InvalidPart → Type 0
FailsMoving t part = ((part ≡ BothSchemas) × ¬ HasNoNewRows t) ⊎ (HasNoNewRows t × FailsOld t part)

-- so much of the schema's tables is made, and a part of them fails
pub record FailsMade (db : Database) (part : InvalidPart) : Type 0 where
  pub made : TablesPresent
  pub some : made ≢ Nothing
  pub desk : IsMadeTo made db
  pub fails : ((has_old_rows (tables_at made db.trees) ≡ false) × FailsNew (tables_at made db.trees) part)
      ⊎ ((has_old_rows (tables_at made db.trees) ≡ true) × FailsMoving (tables_at made db.trees) part)

-- a part is named of a database by the first test that this fails
abbrev pub FailsPart : Database → InvalidPart → Type 0
FailsPart db part =
    ((part ≡ OtherTables) × IsNoDesk db)
    ⊎ (((part ≡ NoTable) × IsMadeTo Nothing db) ⊎ FailsMade db part)

-- if a part is named over an open connection and a clean disk, the database shows why
abbrev pub ShowsPartOf : {S : Type 0} → Ghosts S → Held S → Held S → Option InvalidPart
    → (Database → InvalidPart → Type 0) → Type 0
ShowsPartOf g old new named Fails =
    HasCleanDisk (state g new) → IsTrue (state g new).is_open → IfSome named (Fails (state g old).now)

-- a connection found the database of files that held this, only read since, and shows why this part is named
pub record NamesIn {D : Type 0} {g : disk.Ghosts D} (image : Image) (named : Option InvalidPart)
    (left : Held (FileStore D g)) : Type 0 where
  pub found : Held (FileStore D g)
  pub finds : Finds image found
  pub reads : OnlyReads (over_files {D = D} {g = g}) found left
  pub shows : ShowsPartOf (over_files {D = D} {g = g}) found left named FailsPart

-- the word that the program prints if a database can't be opened
abbrev pub open_word : OpenFault → List ℕ
open_word opening.OutOfMemory = codes "memory"
open_word opening.Store = codes "store"
open_word opening.NotADesk = codes "not_a_desk"
open_word opening.OldSchema = codes "old_schema"
