-- What a text of SQL selects, changes or makes, and why tables are not read.
use Rattle.std.specs.Prelude.{◌≡◌, ◌⊎◌, ℕ, ◌≤◌, List, [], length, Option, Result, Ok, Err, None, IsSome, false, ◌∷◌, map, unwrap_or}
use Rattle.sqlite_disk.specs.Disk.{MoreFaults}
use Rattle.sqlite_schema.specs.{declared.command.Command.Command, declared.command.Command.TheVariants.Select, declared.schema.Keys.TheVariants.Enforced, Program.lets_of}
use Rattle.sqlite_resolve.specs.declared.{compiled.Compiled.Compiled, error.CompileError.CompileError}
use Rattle.sqlite.specs.{declared.error.Error.Error, declared.error.Error.TheVariants.SqliteFailure, declared.run.Mode.Mode, Effect.Database, Effect.RefusesToRead, Effect.Reads, Order.Row, Listing.understood, Listing.reads_listing, Store.Ghosts, Held.Held, Held.state, Schema.Schema, Tree.Trees, Tree.rowid, Does.Tally, Does.Does, Calls.IsWrite, State.text_of, Given.IsPlain}
use Rattle.sqlite.specs.declared.error.ErrorCode.TheVariants as code
use Rattle.desk_sql.specs.{declared.opening.finding.TablesPresent.TablesPresent, declared.opening.numbers.DeskTable.DeskTable, Schema.schema_of, Schema.tree_of, Schema.beside_of, Schema.IsDeskSchema, Schema.IsSchemaOf, Schema.HasTable, Rows.AreNumbered, Rows.IsMadeTo, Rows.IsDesk, Rows.Tables, Rows.tables_of, Rows.tables_at, Rows.Lists}

-- a command that reads, under a schema and given these parameters, is refused by a limit on steps alone
abbrev pub NeverRefuses : Schema → Command → Row → Type 0
NeverRefuses schema command params =
    (limit : Option ℕ) (db : Database) (e : Error) → db.schema ≡ schema →
    RefusesToRead limit command db params e → (e ≡ SqliteFailure code.OperationInterrupted) × IsSome limit

-- a command that reads no table that it makes itself
abbrev pub IsSimple : Command → Type 0
IsSimple (Select plan names) = lets_of plan ≡ []
IsSimple _ = ⊥

-- one whole statement with as many parameters, which shows rows of the tables, whatever they have
pub record IsSureCommand (schema : Schema) (text : List ℕ) (params : Row) (c : Compiled) : Type 0 where
  pub bare : c.returning ≡ None
  pub timeless : c.formats ≡ []
  pub given : length params ≡ length c.names
  pub whole : length text ≤ c.tail
  pub simple : IsSimple c.command
  pub never : NeverRefuses schema c.command params

abbrev pub IsSureMeaning : Schema → List ℕ → Row → Result Compiled CompileError → Type 0
IsSureMeaning schema text params (Ok c) = IsSureCommand schema text params c
IsSureMeaning schema text params (Err e) = ⊥

-- a query under this schema that, with these parameters, only memory, the disk and a limit on steps refuse
pub record IsSureGiven (schema : Schema) (text : List ℕ) (params : Row) : Type 0 where
  pub means : IsSureMeaning schema text params (understood schema text)
  pub unlisted : reads_listing schema text ≡ false

-- such a query without parameters
abbrev pub IsSure : Schema → List ℕ → Type 0
IsSure schema text = IsSureGiven schema text []

-- so it is under each desk's schema, whatever stands beside the desk's tables
abbrev pub IsSureFor : List ℕ → Row → Type 0
IsSureFor text params = (schema : Schema) → IsDeskSchema schema → IsSureGiven schema text params

-- the error that is reported: `OutOfMemory` instead of `TooBig`, which means too many rows to count
abbrev pub too_big_as_out_of_memory : Error → Error
too_big_as_out_of_memory (SqliteFailure code.TooBig) = SqliteFailure code.OutOfMemory
too_big_as_out_of_memory e = e

-- the schema's tables, so far as they are made, but in one of them a rowid is no whole number, or comes twice
pub record IsMisnumbered (db : Database) : Type 0 where
  pub made : TablesPresent
  pub schema : IsSchemaOf made db.schema
  pub unsound : ¬ IsMadeTo made db

module _ {S : Type 0} (g : Ghosts S) (old new : Held S) where
  -- the disk's count of faults rose
  abbrev pub HasDiskFailed : Type 0
  HasDiskFailed = MoreFaults (state g old).faults (state g new).faults

  abbrev pub HasNoSteps : Error → Type 0
  HasNoSteps e = (e ≡ SqliteFailure code.OperationInterrupted) × IsSome old.step_limit

  -- memory ran out, the disk failed meanwhile, or the connection allows too few steps
  abbrev pub IsRefusal : Error → Type 0
  IsRefusal e = (e ≡ SqliteFailure code.OutOfMemory) ⊎ (HasDiskFailed ⊎ HasNoSteps e)

  -- an error as in `IsRefusal`, or `DatabaseCorrupt` if the table's rowids are not whole numbers, each once
  abbrev pub IsUnnumbered : DeskTable → Error → Type 0
  IsUnnumbered table e = IsRefusal e ⊎ ((e ≡ SqliteFailure code.DatabaseCorrupt)
      × (¬ AreNumbered ((state g old).now.trees (tree_of table))))

  -- an error as in `IsRefusal`, or `DatabaseCorrupt` if the rowids of some table are not
  abbrev pub AreRowsUnread : Error → Type 0
  AreRowsUnread e = IsRefusal e ⊎ ((e ≡ SqliteFailure code.DatabaseCorrupt) × IsMisnumbered (state g old).now)

-- ==== What a text of SQL selects, changes or makes
-- ---- what a query shows
-- a compiled query that may return these rows
abbrev pub MayRead : Result Compiled CompileError → Database → Row → List Row → Type 0
MayRead (Ok c) db params rows = Reads c.command db params rows
MayRead (Err e) db params rows = ⊥

-- a query that, with these parameters, only memory, the disk and a limit on steps refuse, and that returns
-- just the rows `wanted` of a desk's tables, ordered by the columns `cells`
pub record Selects (text : List ℕ) (params : Row) (cells : List ℕ) (wanted : Tables → List Row) : Type 0 where
  pub sure : IsSureFor text params
  pub rows : (db : Database) (shown : List Row) → IsDesk db
      → MayRead (understood db.schema text) db params shown → Lists cells (wanted
      (tables_of db.trees)) shown

-- a query without parameters that, wherever the table exists, only memory, the disk and a limit on steps
-- refuse, and that returns just the rows `wanted`, ordered by the columns `cells`
pub record SelectsAll (table : DeskTable) (text : List ℕ) (cells : List ℕ) (wanted : Trees → List Row)
    : Type 0
  where
    pub sure : (db : Database) → HasTable table db → IsSure db.schema text
    pub rows : (db : Database) (shown : List Row) → HasTable table db
        → MayRead (understood db.schema text) db [] shown → Lists cells (wanted db.trees) shown

-- the rowids of the rows of a tree
abbrev pub rowids : List Row → List Row
rowids rows = map (λ r. rowid r ∷ []) rows

-- ---- what a statement writes
-- each foreign key is tested at the end of each statement
abbrev pub enforced : Mode
enforced = record { keys = Enforced; in_doubt = false; may_wait = false }

-- a compiled text that writes
abbrev pub IsWriting : Result Compiled CompileError → Type 0
IsWriting (Ok c) = IsWrite c.command
IsWriting (Err e) = ⊥

-- a compiled statement that, with this limit on steps, may change the first database into the second
abbrev pub MayWrite : List ℕ → Result Compiled CompileError → Row → Option ℕ → Database → Database → Type 0
MayWrite text (Ok c) params limit old new =
    (tally : Tally) × Does limit enforced params old (text_of text c) None c.command (Ok (tally, new))
MayWrite text (Err e) params limit old new = ⊥

-- the same, and it may count this many rows as changed
abbrev pub MayCount : List ℕ → Result Compiled CompileError → Row → Option ℕ → Database → Database → ℕ
    → Type 0
MayCount text (Ok c) params limit old new count =
    (tally : Tally) × Does limit enforced params old (text_of text c) None c.command (Ok (tally, new))
    × (count ≡ unwrap_or tally.rows 0)
MayCount text (Err e) params limit old new count = ⊥

-- a statement that returns no rows, and with these parameters changes the desk's tables as `Change` says. The
-- schema stays
pub record Changes (text : List ℕ) (params : Row) (Change : Tables → Tables → Type 0) : Type 0 where
  pub plain : (schema : Schema) → IsDeskSchema schema → IsPlain (understood schema text)
  pub writes : (schema : Schema) → IsDeskSchema schema → IsWriting (understood schema text)
  pub tables : (limit : Option ℕ) (old new : Database) → IsDesk old
      → MayWrite text (understood old.schema text) params limit old new
      → IsDesk new × Change (tables_of old.trees) (tables_of new.trees) × (new.schema ≡ old.schema)

-- a statement that returns no rows and makes `next` of `made`; the rows that there were stay, and so does what
-- stands beside the desk's tables
pub record Extends (text : List ℕ) (made next : TablesPresent) : Type 0 where
  pub plain : IsPlain (understood (schema_of made) text)
  pub writes : IsWriting (understood (schema_of made) text)
  pub tables : (limit : Option ℕ) (old new : Database) → IsMadeTo made old
      → MayWrite text (understood (schema_of made) text) [] limit old new
      → IsMadeTo next new × (tables_at next new.trees ≡ tables_at made old.trees)
      × (beside_of new.schema ≡ beside_of old.schema)
