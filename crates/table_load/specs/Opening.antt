-- What all rows of the schema's tables stand for, and what a store over them begins with.
use Rattle.std.specs.Prelude.{◌≡◌, ◌↔◌, Bool, List, map, IsTrue, false, None, ◌≢◌, ℕ, ◌⊎◌, true, [], ◌∷◌, codes, if◌then◌else◌, IsSome, ◌<◌, ◌^◌, length, IsPermutation}
use Rattle.std.specs.{List.AllByRecursion, List.Sorted.IsStrictlySortedBy}
use Rattle.sqlite_value.specs.{declared.value.Value.TheVariants.Blob, Order.Row, Order.column}
use Rattle.sqlite_trees.specs.declared.store.Store.{Ghosts}
use Rattle.sqlite.specs.{State.HasCleanDisk, Held.Held, Held.state, Effect.Database, declared.error.Error.Error, declared.error.Error.TheVariants.SqliteFailure}
use Rattle.sqlite.specs.declared.error.ErrorCode.TheVariants as code
use Rattle.volume4d.specs.Volume.{Block}
use Rattle.desk_store.specs.World.{IsValidVolume, World, IsContent, Filed, Listed, listed_cmp, filed_cmp}
use Rattle.desk_sql.specs.{Rows.volume_part, Rows.IsDesk, Rows.tables_of, Rows.IsMadeTo, Rows.Tables, Rows.Lists, Rows.tables_at, Rows.has_old_rows, Rows.ListVolumes, Schema.blank_schema, Effects.HasOthers, Effects.ShowsAsBefore, Statements.HasDiskFailed, Statements.IsMisnumbered, Changing.HasKey, Changing.IsShort, Changing.LacksKey, Changing.HasSmallSpans, declared.opening.finding.TablesPresent.TablesPresent, declared.opening.finding.TablesPresent.TheVariants.All, declared.opening.finding.TablesPresent.TheVariants.Packed}
use Rattle.desk_changes.specs.RowChanges.{AreNewSpans, AreNewVolumes, HasRoomFor, HaveOwnKeys}
use Rattle.row_codec.specs.{RowsRead.IsVolumeAt, Tables.canon_bytes, Tables.AreTables, Tables.operator_rows, Tables.plan_rows, Tables.volume_rows, Tables.cover_rows, Tables.AreSpanRows, Tables.AreOperatorRows, Tables.ArePlanRows, Tables.HaveOperatorsAndRoom, Tables.IsFiled, Tables.row_of_operator, declared.exact.RowFault.RowFault}
use Rattle.row_codec.specs.declared.exact.RowFault.TheVariants as row
use Rattle.table_load.specs.declared.fault.{OpenFault.OpenFault, OpenFault.TheVariants.OutOfMemory, OpenFault.TheVariants.Store, OpenFault.TheVariants.NotADesk, OpenFault.TheVariants.OldSchema}

-- a row has the cover of a volume
abbrev pub HasCoverOf : Block → Row → Type 0
HasCoverOf v row = column row 8 ≡ Blob (canon_bytes v.footprint)

-- a row has a valid volume, and the canonical cover of that
pub record HasItsCover (row : Row) : Type 0 where
  pub volume : Block
  pub within : IsValidVolume volume
  pub there : IsVolumeAt row 3 volume
  pub cover : HasCoverOf volume row

-- rows were compared: `volumes` are these rows without their covers, and `agree` says whether each had the
-- cover of its volume
pub record AreCompared (volumes : List Row) (agree : Bool) (rows : List Row) : Type 0 where
  pub volumes_are : volumes ≡ map volume_part rows
  pub agreed : IsTrue agree ↔ AllByRecursion HasItsCover rows

-- the database has the desk's tables, and their rows are those of the world
pub record IsDatabaseOf {S : Type 0} (g : Ghosts S) (h : Held S) (w : World) : Type 0 where
  pub content : IsContent w
  pub desk : IsDesk (state g h).now
  pub tables : AreTables (tables_of (state g h).now.trees) w

-- while the disk has returned what was written and no fault has shut the connection, the database has the
-- rows of `w`; no transaction is begun, and the connection has no step limit
pub record Stands {S : Type 0} (g : Ghosts S) (h : Held S) (w : World) : Type 0 where
  pub settled : h.in_transaction ≡ false
  pub unlimited : h.step_limit ≡ None
  pub standing : HasCleanDisk (state g h) → IsTrue (state g h).is_open → IsDatabaseOf g h w

-- ==== What all rows of the schema's tables stand for, and what a store over a connection begins with
-- why a store cannot be opened
abbrev pub open_fault_text : OpenFault → List ℕ
open_fault_text OutOfMemory = codes "out of memory"
open_fault_text Store = codes "the database failed"
open_fault_text NotADesk = codes "the tables are not a desk's"
open_fault_text OldSchema = codes "the tables are of schema 1"

abbrev pub is_memory : Error → Bool
is_memory (SqliteFailure code.OutOfMemory) = true
is_memory _ = false

-- what an error of SQLite makes an opening answer
abbrev pub open_fault_of : Error → OpenFault
open_fault_of error = if is_memory error then OutOfMemory else Store

-- what rows that are not read make an opening answer
abbrev pub fault_of_rows : RowFault → OpenFault
fault_of_rows row.OutOfMemory = OutOfMemory
fault_of_rows row.InvalidRows = NotADesk

-- ---- rows in the order of their keys
-- the tables, each in the order of its key, have the rows of the world in that order, but for the covers
pub record AreRows (t : Tables) (w : World) : Type 0 where
  pub operator_part : t.operators ≡ operator_rows w
  pub plan_part : t.plans ≡ plan_rows w.plans
  pub volume_part : t.volumes ≡ volume_rows w.plans
  pub span_part : AreSpanRows w.plans t.spans

-- the tables but for spans, in key order, without covers; and whether each cover is that of its row's volume
pub record AreSortedHeads (t rows : Tables) (covered : Bool) : Type 0 where
  pub operator_part : Lists (0 ∷ []) t.operators rows.operators
  pub plan_part : Lists (0 ∷ 1 ∷ []) t.plans rows.plans
  pub whole : List Row
  pub listed : ListVolumes t whole
  pub compared : AreCompared rows.volumes covered whole

-- operators by name, plans by operator and id, and each operator's plans few
pub record AreListedInOrder (ls : List Listed) (ps : List Filed) : Type 0 where
  pub names : IsStrictlySortedBy listed_cmp ls
  pub keys : IsStrictlySortedBy filed_cmp ps
  pub shared : HaveOperatorsAndRoom ls ps

-- the tables but for spans and covers have the rows of these operators and plans, which are a content's
pub record AreParts (t : Tables) (ls : List Listed) (ps : List Filed) : Type 0 where
  pub operators : AreOperatorRows ls t.operators
  pub plans : ArePlanRows ps t.plans t.volumes
  pub order : AreListedInOrder ls ps

-- ---- what a store begins with
-- the tables are a content's
pub record IsContentOf (t : Tables) (w : World) : Type 0 where
  pub content : IsContent w
  pub tables : AreTables t w

-- the tables have the rows of no content
abbrev pub AreNoContent : Tables → Type 0
AreNoContent t = (w : World) → IsContent w → ¬ AreTables t w

-- there were no tables, and the world is empty
pub record BeganBlank (db : Database) (w : World) : Type 0 where
  pub blank : db.schema ≡ blank_schema
  pub empty : w ≡ record { operators = []; plans = [] }

-- what the database showed is still shown, and is the schema's tables with the rows of the world
pub record WasFound {S : Type 0} (g : Ghosts S) (old new : Held S) (w : World) : Type 0 where
  pub standing : IsDatabaseOf g old w
  pub kept : ShowsAsBefore g old new

-- the schema's tables and indexes and nothing else, but not all of them in its own order
pub record IsPart (made : TablesPresent) (db : Database) : Type 0 where
  pub missing : made ≢ All
  pub part : IsMadeTo made db

-- so it was, with the rows of the world; all are made now, and have these rows
pub record WasCompleted {S : Type 0} (g : Ghosts S) (old new : Held S) (w : World) : Type 0 where
  pub made : TablesPresent
  pub part : IsPart made (state g old).now
  pub rows : IsContentOf (tables_at made (state g old).now.trees) w
  pub whole : IsDesk (state g new).now
  pub same : tables_of (state g new).now.trees ≡ tables_at made (state g old).now.trees

-- the tables came before all indexes, with the world's rows; they are in canonical order now, with these rows
pub record WasOrdered {S : Type 0} (g : Ghosts S) (old new : Held S) (w : World) : Type 0 where
  pub part : IsMadeTo Packed (state g old).now
  pub rows : IsContentOf (tables_at Packed (state g old).now.trees) w
  pub standing : IsDatabaseOf g new w

-- the schema's tables, so far as they are made, with no row of schema 1, and rows of no valid state
pub record HasNoContent (db : Database) : Type 0 where
  pub made : TablesPresent
  pub desk : IsMadeTo made db
  pub new : has_old_rows (tables_at made db.trees) ≡ false
  pub none : AreNoContent (tables_at made db.trees)

-- the schema is another one, or the rows are those of no content
abbrev pub IsNoDesk : Database → Type 0
IsNoDesk db = HasOthers db ⊎ HasNoContent db

-- the schema's tables, so far as they are made, with a row in those of schema 1
pub record HasOldRows (db : Database) : Type 0 where
  pub made : TablesPresent
  pub desk : IsMadeTo made db
  pub old : has_old_rows (tables_at made db.trees) ≡ true

-- whether there are rows of schema 1
abbrev pub HasRowsOld : TablesPresent → Bool → Database → Type 0
HasRowsOld made old db = has_old_rows (tables_at made db.trees) ≡ old

abbrev pub HasNewRows : TablesPresent → Database → Type 0
HasNewRows made = HasRowsOld made false

module _ {S : Type 0} (g : Ghosts S) (old new : Held S) where
  -- over a connection that is open and a clean disk, a store of this world begins
  abbrev pub BeginsWith : World → Type 0
  BeginsWith w =
      HasCleanDisk (state g new) → IsTrue (state g new).is_open →
      BeganBlank (state g old).now w
      ⊎ (WasFound g old new w ⊎ (WasCompleted g old new w ⊎ WasOrdered g old new w))

  -- over an open connection and a clean disk, what was shown is invalid
  abbrev pub ShowsNoDesk : Type 0
  ShowsNoDesk = HasCleanDisk (state g new) → IsTrue (state g new).is_open → IsNoDesk (state g old).now

  -- over an open connection and a clean disk, what was shown has rows of schema 1
  abbrev pub ShowsOldRows : Type 0
  ShowsOldRows = HasCleanDisk (state g new) → IsTrue (state g new).is_open → HasOldRows (state g old).now

  -- the disk failed meanwhile, or the connection allows a statement but few steps
  abbrev pub IsHindered : Type 0
  IsHindered = HasDiskFailed g old new ⊎ IsSome old.step_limit

  -- over an open connection, `Store` is answered only if the disk failed or a statement's steps are limited
  abbrev pub BlamesReading : OpenFault → Type 0
  BlamesReading e = HasCleanDisk (state g new) → IsTrue (state g new).is_open → e ≡ Store → IsHindered

  -- the same of an opening, a migration or a look; or a rowid of the database is invalid
  abbrev pub BlamesDatabase : OpenFault → Type 0
  BlamesDatabase e =
      HasCleanDisk (state g new) → IsTrue (state g new).is_open → e ≡ Store →
      IsHindered ⊎ IsMisnumbered (state g old).now

  -- the same of a connection that has no limit on steps
  abbrev pub BlamesDisk : OpenFault → Type 0
  BlamesDisk e =
      HasCleanDisk (state g new) → IsTrue (state g new).is_open → e ≡ Store →
      HasDiskFailed g old new ⊎ IsMisnumbered (state g old).now

-- ==== What plans have to be, so that their rows are refused by nothing but memory, the disk and a limit on
-- steps

-- fewer than 2 ^ 63 rows of volumes, and of spans
pub record HaveFewRows (ps : List Filed) : Type 0 where
  pub volumes : length (volume_rows ps) < 2 ^ 63
  pub spans : List Row
  pub are : AreSpanRows ps spans
  pub few : length spans < 2 ^ 63

-- the rows of these plans in `volume2` and `span2` can be added, those of one plan after those of the other
pub record AreWritable (ps : List Filed) (db : Database) : Type 0 where
  pub volumes : AreNewVolumes (volume_rows ps) (cover_rows ps) db
  pub spans : List Row
  pub are : AreSpanRows ps spans
  pub new : AreNewSpans spans db

-- plans are within the limits, each with a key of its own, and only their rows in `plan` are there
pub record AreAwaited (ps : List Filed) (t : Tables) : Type 0 where
  pub within : AllByRecursion IsFiled ps
  pub keys : IsStrictlySortedBy filed_cmp ps
  pub few : HaveFewRows ps
  pub plans : IsPermutation (plan_rows ps) t.plans
  pub volumes : t.volumes ≡ []
  pub spans : t.spans ≡ []

-- ---- a content that is written into tables without rows
-- rows that can be added one after the other: there is room, and no row has their keys
pub record AreNewKeys (width : ℕ) (rows stored shown : List Row) : Type 0 where
  pub room : HasRoomFor (length rows) stored
  pub apart : HaveOwnKeys width rows
  pub free : AllByRecursion (λ r. LacksKey width r shown) rows

-- rows of operators can be added: none has the name of one that is there
pub record AreNewOperators (ls : List Listed) (db : Database) : Type 0 where
  pub names : AllByRecursion (λ l. IsShort l.name) ls
  pub new : AreNewKeys 1 (map row_of_operator ls) (db.trees 0) (tables_of db.trees).operators

-- rows of plans can be added to `plan`: none has the key of one that is there, and their operators are there
pub record AreNewHeads (ps : List Filed) (db : Database) : Type 0 where
  pub names : AllByRecursion (λ p. IsShort p.operator) ps
  pub new : AreNewKeys 2 (plan_rows ps) (db.trees 2) (tables_of db.trees).plans
  pub listed : AllByRecursion (λ r. HasKey 1 r (tables_of db.trees).operators) (plan_rows ps)

-- the tables have no row, and the state `w` has fewer than 2 ^ 63 rows for each
pub record CanBeFilled (w : World) (db : Database) : Type 0 where
  pub content : IsContent w
  pub operators : length w.operators < 2 ^ 63
  pub plans : length w.plans < 2 ^ 63
  pub few : HaveFewRows w.plans
  pub no_operators : (tables_of db.trees).operators ≡ []
  pub no_plans : (tables_of db.trees).plans ≡ []
  pub no_volumes : (tables_of db.trees).volumes ≡ []
  pub no_spans : (tables_of db.trees).spans ≡ []

-- ---- what the tables have then
-- rows of spans that have entries in the indexes over leaves
abbrev pub HasSpansToIndex : TablesPresent → Database → Type 0
HasSpansToIndex made db = HasSmallSpans (tables_at made db.trees)

-- without the rows of `volume2` and `span2`
abbrev pub blanked : Tables → Tables
blanked t = record t { volumes = []; covers = []; spans = [] }

-- a packed file, of which the rows of these plans are to be written anew
pub record IsToOrder (ps : List Filed) (db : Database) : Type 0 where
  pub indexed : HasSpansToIndex Packed db
  pub awaited : AreAwaited ps (blanked (tables_of db.trees))
