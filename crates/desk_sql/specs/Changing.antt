-- How the tables are changed, made and rebuilt, and why that is refused.
use Rattle.std.specs.Prelude.{◌≡◌, ◌≤◌, ◌<◌, ◌^◌, ◌+ℤ◌, ℕ, pos, Bool, true, false, List, [], length, Option, Some, None, Result, Ok, Err, IsSome, ◌⊎◌, IsTrue, ⊤}
use Rattle.std.specs.List.{AllByRecursion, list_all, list_any, range_with_len}
use Rattle.sqlite.specs.{Order.Row, Order.column, Ops.fits_i64, Tree.rowid, Tree.IsTable, Tree.Trees, Edit.id_in, Edit.next_rowid, Calls.IsWrite, Does.Does, Effect.Database, Effect.IsDatabase, Listing.understood, State.text_of, State.HasCleanDisk, Store.Ghosts, Held.Held, Held.state, Schema.Schema, Given.IsPlain, declared.error.Error.Error, declared.error.Error.TheVariants.SqliteFailure, declared.types.Value.Value, declared.types.Value.TheVariants.Null, declared.types.Value.TheVariants.Int, declared.types.Value.TheVariants.Real, declared.types.Value.TheVariants.Text, declared.types.Value.TheVariants.Blob}
use Rattle.sqlite_resolve.specs.declared.{compiled.Compiled.Compiled, error.CompileError.CompileError}
use Rattle.sqlite.specs.declared.error.ErrorCode.TheVariants as code
use Rattle.sqlite_schema.specs.declared.schema.Index.{Index}
use Rattle.sqlite_catalog.specs.Change.{without_table, without_index, KeepsRows}
use Rattle.desk_sql.specs.{Schema.beside_of, Schema.desk_in, Schema.IsDeskSchema, Schema.schema_of, Schema.packed_schema, Schema.old_span_first, Rows.IsDesk, Rows.is_same, Rows.tables_of, Rows.IsMadeTo, Rows.Tables, Rows.tables_at, Rows.old_tables_of, Statements.enforced, Statements.Extends, Statements.IsWriting, Statements.MayWrite, declared.opening.finding.TablesPresent.TablesPresent, declared.opening.finding.TablesPresent.TheVariants.Nothing, declared.opening.finding.TablesPresent.TheVariants.Operators, declared.opening.finding.TablesPresent.TheVariants.Plans, declared.opening.finding.TablesPresent.TheVariants.OldVolumes, declared.opening.finding.TablesPresent.TheVariants.OldSpans, declared.opening.finding.TablesPresent.TheVariants.OldIndex, declared.opening.finding.TablesPresent.TheVariants.Volumes, declared.opening.finding.TablesPresent.TheVariants.Spans, declared.opening.finding.TablesPresent.TheVariants.All, declared.opening.finding.TablesPresent.TheVariants.Packed}

-- ---- what SQLite can store
-- at most 100 million bytes; SQLite stores rows of a billion
abbrev pub IsShort : List ℕ → Type 0
IsShort text = length text ≤ 10 ^ 8

-- the rowids fit 64 bits (`db.trees 2` has the rows of `plan`)
abbrev pub AreLow : List Row → Type 0
AreLow rows = AllByRecursion (λ r. fits_i64 (id_in (rowid r)) ≡ true) rows

-- rows in the order of their rowids, with `count` rowids left after the last
pub record HasRowids (count : ℕ) (rows : List Row) : Type 0 where
  pub rising : IsTable rows
  pub low : AreLow rows
  pub next : (k : ℕ) → k < count → fits_i64 (next_rowid rows +ℤ pos k) ≡ true

-- ---- keys
-- the rows have the same key; the key is the first `width` columns
abbrev pub has_same_key : ℕ → Row → Row → Bool
has_same_key width a b = list_all (λ at. is_same (column a at) (column b at)) (range_with_len 0 width)

-- one of the rows has the key of `row`; below, none has it
abbrev pub HasKey : ℕ → Row → List Row → Type 0
HasKey width row rows = list_any (λ r. has_same_key width r row) rows ≡ true

abbrev pub LacksKey : ℕ → Row → List Row → Type 0
LacksKey width row rows = list_any (λ r. has_same_key width r row) rows ≡ false

-- there is a rowid left for one more row, whose key no row has; `stored` has the rowids, `shown` does not
abbrev pub IsNewRow : ℕ → Row → List Row → List Row → Type 0
IsNewRow width row stored shown = HasRowids 1 stored × LacksKey width row shown

-- ---- what fits each INSERT
-- what a new row of `operator` (b-tree 0), `plan` (2), `volume2` (9) and `span2` (11) needs: short texts, a
-- rowid that is left, a new key, and that its operator or plan is stored
abbrev pub FitsOperator : List ℕ → Row → Database → Type 0
FitsOperator name row db = IsShort name × IsNewRow 1 row (db.trees 0) (tables_of db.trees).operators

abbrev pub FitsPlan : List ℕ → List ℕ → Row → Database → Type 0
FitsPlan operator id row db = IsShort operator × IsShort id
    × IsNewRow 2 row (db.trees 2) (tables_of db.trees).plans × HasKey 1 row (tables_of db.trees).operators

abbrev pub FitsVolume : List ℕ → List ℕ → List ℕ → List ℕ → Row → Database → Type 0
FitsVolume operator id asked canon row db = IsShort operator × IsShort id × IsShort asked × IsShort canon
    × IsNewRow 3 row (db.trees 9) (tables_of db.trees).volumes × HasKey 2 row (tables_of db.trees).plans

abbrev pub FitsSpan : List ℕ → List ℕ → Row → Database → Type 0
FitsSpan operator id row db = IsShort operator × IsShort id
    × IsNewRow 4 row (db.trees 11) (tables_of db.trees).spans × HasKey 2 row (tables_of db.trees).plans

-- ---- what stops a statement
-- a compiled statement that may, with this step limit, stop with this error, or at an unstorable row (None)
abbrev pub MayStop : List ℕ → Result Compiled CompileError → Row → Option ℕ → Database → Option Error
    → Type 0
MayStop text (Ok c) params limit old stop =
    Does limit enforced params old (text_of text c) None c.command (Err stop)
MayStop text (Err e) params limit old stop = ⊥

-- it stops at the limit on steps, and there is one
abbrev pub IsAtLimit : Option ℕ → Option Error → Type 0
IsAtLimit limit stop = (stop ≡ Some (SqliteFailure code.OperationInterrupted)) × IsSome limit

-- the text is one whole statement with `count` parameters, which writes and returns no rows
pub record IsWholeWrite (text : List ℕ) (count : ℕ) (c : Compiled) : Type 0 where
  pub bare : c.returning ≡ None
  pub timeless : c.formats ≡ []
  pub given : count ≡ length c.names
  pub whole : length text ≤ c.tail
  pub writes : IsWrite c.command

abbrev pub IsWholeIn : List ℕ → ℕ → Result Compiled CompileError → Type 0
IsWholeIn text count (Ok c) = IsWholeWrite text count c
IsWholeIn text count (Err e) = ⊥

-- a statement that, with these parameters, on a sound desk's tables for which `Fits` holds, fails only for
-- lack of memory, a failure of the disk or a limit on steps
pub record IsSureChange (text : List ℕ) (params : Row) (Fits : Database → Type 0) : Type 0 where
  pub means : (schema : Schema) → IsDeskSchema schema → IsWholeIn text (length params) (understood schema text)
  pub never : (limit : Option ℕ) (db : Database) (stop : Option Error) → IsDesk db → IsDatabase db → Fits db
      → MayStop text (understood db.schema text) params limit db stop → IsAtLimit limit stop

-- ==== How the tables and the indexes are made, one after the other
-- how many tables and indexes are still to be made
abbrev pub left_to_make : TablesPresent → ℕ
left_to_make Nothing = 8
left_to_make Operators = 7
left_to_make Plans = 6
left_to_make OldVolumes = 5
left_to_make OldSpans = 4
left_to_make OldIndex = 3
left_to_make Volumes = 2
left_to_make Spans = 1
left_to_make All = 0
left_to_make Packed = 0

-- ---- what stops a step
-- no fraction, and texts and bytes of at most 100 million bytes
abbrev pub IsSmall : Value → Type 0
IsSmall Null = ⊤
IsSmall (Int n) = ⊤
IsSmall (Real x) = ⊥
IsSmall (Text text) = IsShort text
IsSmall (Blob bytes) = IsShort bytes

-- so is each value of the rows
abbrev pub AreSmall : List Row → Type 0
AreSmall rows = AllByRecursion (λ r. AllByRecursion IsSmall r) rows

-- each row of a table of spans has an entry in the index over leaves that SQLite can store
abbrev pub HasSmallSpans : Tables → Type 0
HasSmallSpans t = AreSmall t.old_spans × AreSmall t.spans

-- a statement that makes `next` of `made`; in a sound database with such spans only memory and disk refuse it
pub record IsStep (text : List ℕ) (made next : TablesPresent) : Type 0 where
  pub extends : Extends text made next
  pub means : IsWholeIn text 0 (understood (schema_of made) text)
  pub never : (limit : Option ℕ) (db : Database) (stop : Option Error) → IsMadeTo made db → IsDatabase db
      → HasSmallSpans (tables_at made db.trees)
      → ¬ MayStop text (understood (schema_of made) text) [] limit db stop

-- ---- what a step makes
-- within a transaction, which goes on, all was made that was missing. The rows that there were stayed, and what
-- stands beside the desk's tables
pub record Finishes {S : Type 0} (g : Ghosts S) (made : TablesPresent) (old new : Held S) : Type 0 where
  pub was_open : IsTrue (state g old).is_open
  pub is_open : IsTrue (state g new).is_open
  pub begun : IsTrue new.in_transaction
  pub committed : (state g new).committed ≡ (state g old).committed
  pub desk : IsDesk (state g new).now
  pub beside : beside_of (state g new).now.schema ≡ beside_of (state g old).now.schema
  pub sound : IsDatabase (state g new).now
  pub same : tables_of (state g new).now.trees ≡ tables_at made (state g old).now.trees

-- the same, and that was committed
pub record Completes {S : Type 0} (g : Ghosts S) (made : TablesPresent) (old new : Held S) : Type 0 where
  pub was_open : IsTrue (state g old).is_open
  pub is_open : IsTrue (state g new).is_open
  pub settled : (state g new).now ≡ (state g new).committed
  pub desk : IsDesk (state g new).now
  pub beside : beside_of (state g new).now.schema ≡ beside_of (state g old).now.schema
  pub same : tables_of (state g new).now.trees ≡ tables_at made (state g old).now.trees

-- a desk's trees, which list and obey its schema, with the rows that there were
pub record IsCompleted {S : Type 0} (g : Ghosts S) (made : TablesPresent) (old : Held S)
    (db : Trees) : Type 0 where
  pub was_open : IsTrue (state g old).is_open
  pub desk : IsDesk (record { schema = desk_in (state g old).now.schema; trees = db })
  pub sound : IsDatabase (record { schema = desk_in (state g old).now.schema; trees = db })
  pub same : tables_of db ≡ tables_at made (state g old).now.trees

-- a crash leaves what it could leave before, or all made
abbrev pub MayComplete : {S : Type 0} → Ghosts S → TablesPresent → Held S → Held S → Type 0
MayComplete g made old new = HasCleanDisk (state g new) → (db : Trees)
    → (state g new).may_leave db → (state g old).may_leave db ⊎ IsCompleted g made old db

-- ==== How a packed file's tables are put in canonical order: what has another tree is dropped, and made anew
-- the schema of a packed file without the index over the leaves of `span`, which is b-tree 12 there
abbrev pub loose_schema : Schema
loose_schema = without_index packed_schema 12

-- the same without `span2`, which is b-tree 10
abbrev pub spanless_schema : Schema
spanless_schema = without_table loose_schema 10

-- a statement that returns no rows and drops a table or an index. The rows of the tables that are left stay.
-- If the database is sound, only memory and the disk refuse it
pub record Drops (text : List ℕ) (old next : Schema) : Type 0 where
  pub plain : IsPlain (understood old text)
  pub writes : IsWriting (understood old text)
  pub rows : (limit : Option ℕ) (before after : Database) → before.schema ≡ old
      → MayWrite text (understood old text) [] limit before after
      → (after.schema ≡ next) × KeepsRows next.tables before.trees after.trees
  pub means : IsWholeIn text 0 (understood old text)
  pub never : (limit : Option ℕ) (db : Database) (stop : Option Error) → db.schema ≡ old → IsDatabase db
      → ¬ MayStop text (understood old text) [] limit db stop

module _ {S : Type 0} (g : Ghosts S) (old new : Held S) where
  -- within a transaction, which goes on, what has another tree than in canonical order was dropped
  pub record Unpacks : Type 0 where
    pub was_open : IsTrue (state g old).is_open
    pub is_open : IsTrue (state g new).is_open
    pub begun : IsTrue new.in_transaction
    pub committed : (state g new).committed ≡ (state g old).committed
    pub has : IsMadeTo OldSpans (state g new).now
    pub beside : beside_of (state g new).now.schema ≡ beside_of (state g old).now.schema
    pub sound : IsDatabase (state g new).now
    pub same : old_tables_of (state g new).now.trees ≡ old_tables_of (state g old).now.trees

-- `volume2` and `span2` have no rows, and the rows of the others stayed
abbrev pub RemakesTables : Tables → Tables → Type 0
RemakesTables old new = new ≡ record old { volumes = []; covers = []; spans = [] }
