-- What tables a database has, what a call requires of a connection, and what it preserves.
use Rattle.std.specs.Prelude.{◌≡◌, List, [], ◌∷◌, ◌++◌, ℤ, Bool, ◌&&◌, int_lt, if◌then◌else◌, Option, None, Some, true, false, IsTrue, ◌⊎◌, ◌≤◌}
use Rattle.std.specs.List.{AllByRecursion}
use Rattle.sqlite.specs.{Order.Row, Tree.rowid, Tree.IsTable, Tree.Trees, View.is_int, View.doubt as doubt_of, Store.Ghosts, State.HasCleanDisk, Held.Held, Held.state, Effect.Database, Effect.IsDatabase, declared.types.Value.Value, declared.types.Value.TheVariants.Null, declared.types.Value.TheVariants.Int, declared.types.Value.TheVariants.Real, declared.types.Value.TheVariants.Text, declared.types.Value.TheVariants.Blob}
use Rattle.desk_sql.specs.{declared.opening.finding.TablesPresent.TablesPresent, Schema.beside_of, Schema.desk_in, Schema.IsSchemaOf, Rows.IsDesk, Rows.Tables, Rows.tables_of}

-- the database that an open connection over a clean disk shows has this property
abbrev pub Holds : {S : Type 0} → Ghosts S → Held S → (Database → Type 0) → Type 0
Holds g h Is = HasCleanDisk (state g h) → IsTrue (state g h).is_open → Is (state g h).now

-- other tables, indexes or views than a desk's that don't stand apart behind all of it, or the desk's in another
-- order than its own and that of a packed file
abbrev pub HasOthers : Database → Type 0
HasOthers db = (made : TablesPresent) → ¬ IsSchemaOf made db.schema

-- ---- rowids
-- the number is above the last one, if there is one
abbrev pub is_above_last : Option ℤ → ℤ → Bool
is_above_last None n = true
is_above_last (Some last) n = int_lt last n

-- the value, if it is a whole number above the last one
abbrev pub next_above : Option ℤ → Value → Option ℤ
next_above last (Int n) = if is_above_last last n then Some n else None
next_above last Null = None
next_above last (Real x) = None
next_above last (Text t) = None
next_above last (Blob b) = None

abbrev pub rises_after : (Option ℤ → Bool) → Option ℤ → Bool
rises_after more None = false
rises_after more (Some n) = more (Some n)

-- each rowid is above the one before, and the first above `last`, if there is one
abbrev pub rises : List Row → Option ℤ → Bool
rises [] last = true
rises (r ∷ rows) last = rises_after (rises rows) (next_above last (rowid r))

-- the state of the check after these rows: `still` says whether their rowids rise, `last` is the last of them
abbrev pub RiseSo : Bool → Option ℤ → List Row → Type 0
RiseSo still last rows = (rest : List Row) → rises (rows ++ rest) None ≡ (still && rises rest last)

-- ==== What a call requires of a connection, and what holds of the connection after it
-- no transaction is under way, and the database that the connection shows has this property
pub record IsReady {S : Type 0} (g : Ghosts S) (h : Held S) (Is : Database → Type 0) : Type 0 where
  pub settled : h.in_transaction ≡ false
  pub shown : Holds g h Is

-- over a clean disk the connection is open
abbrev pub IsOpenIfClean : {S : Type 0} → Ghosts S → Held S → Type 0
IsOpenIfClean g h = HasCleanDisk (state g h) → IsTrue (state g h).is_open

-- a transaction goes on over the schema's tables
abbrev pub IsUnderWay : {S : Type 0} → Ghosts S → Held S → Type 0
IsUnderWay g h = HasCleanDisk (state g h) → IsTrue (state g h).is_open × IsTrue h.in_transaction
    × IsDesk (state g h).now × IsDatabase (state g h).now

module _ {S : Type 0} (g : Ghosts S) (old new : Held S) where
  -- over a clean disk, a connection that was open stays open
  abbrev pub StaysOpen : Type 0
  StaysOpen = HasCleanDisk (state g new) → IsTrue (state g old).is_open → IsTrue (state g new).is_open

  -- the connection shows what it showed
  pub record ShowsAsBefore : Type 0 where
    pub was_open : IsTrue (state g old).is_open
    pub now : (state g new).now ≡ (state g old).now
    pub committed : (state g new).committed ≡ (state g old).committed

  -- the same, if the disk is clean and the connection open
  abbrev pub StaysShown : Type 0
  StaysShown = HasCleanDisk (state g new) → IsTrue (state g new).is_open → ShowsAsBefore

  -- within a transaction, which goes on, the tables were changed as `Changes` says. What stands beside them stays
  pub record Makes (Changes : Tables → Tables → Type 0) : Type 0 where
    pub was_open : IsTrue (state g old).is_open
    pub is_open : IsTrue (state g new).is_open
    pub begun : IsTrue new.in_transaction
    pub committed : (state g new).committed ≡ (state g old).committed
    pub desk : IsDesk (state g new).now
    pub beside : beside_of (state g new).now.schema ≡ beside_of (state g old).now.schema
    pub sound : IsDatabase (state g new).now
    pub changed : Changes (tables_of (state g old).now.trees) (tables_of (state g new).now.trees)

  -- the tables were changed as `Changes` says, and that was committed
  pub record Commits (Changes : Tables → Tables → Type 0) : Type 0 where
    pub was_open : IsTrue (state g old).is_open
    pub is_open : IsTrue (state g new).is_open
    pub settled : (state g new).now ≡ (state g new).committed
    pub desk : IsDesk (state g new).now
    pub beside : beside_of (state g new).now.schema ≡ beside_of (state g old).now.schema
    pub changed : Changes (tables_of (state g old).now.trees) (tables_of (state g new).now.trees)

-- ---- what a crash leaves
-- a desk's trees list and obey its schema, beside which stands what the connection showed, and their tables are
-- those that it showed, changed so
pub record IsMadeOf {S : Type 0} (g : Ghosts S) (old : Held S) (Changes : Tables → Tables → Type 0)
    (db : Trees) : Type 0
  where
    pub was_open : IsTrue (state g old).is_open
    pub desk : IsDesk (record { schema = desk_in (state g old).now.schema; trees = db })
    pub sound : IsDatabase (record { schema = desk_in (state g old).now.schema; trees = db })
    pub changed : Changes (tables_of (state g old).now.trees) (tables_of db)

module _ {S : Type 0} (g : Ghosts S) (old new : Held S) where
  -- a crash leaves what it could leave before
  abbrev pub Spares : Type 0
  Spares = HasCleanDisk (state g new) → (db : Trees)
      → (state g new).may_leave db → (state g old).may_leave db

  -- a crash leaves what it could leave before, or the tables changed so as a whole
  abbrev pub MayMake : (Tables → Tables → Type 0) → Type 0
  MayMake Changes = HasCleanDisk (state g new) → (db : Trees)
      → (state g new).may_leave db → (state g old).may_leave db ⊎ IsMadeOf g old Changes db

-- ==== What each call preserves of a connection
module _ {S : Type 0} (g : Ghosts S) (old new : Held S) where
  -- a query: what is shown stays, no transaction is under way, the limit on steps stays, the disk's doubt and
  -- the count of its faults never fall, a shield stays, and a crash leaves what it could leave before
  pub record OnlyReads : Type 0 where
    pub kept : StaysShown g old new
    pub mode : new.in_transaction ≡ false
    pub limit : new.step_limit ≡ old.step_limit
    pub doubt : doubt_of (state g old).is_clean ≤ doubt_of (state g new).is_clean
    pub faults : (state g old).faults ≤ (state g new).faults
    pub shield : (state g old).IsShielded → (state g new).IsShielded
    pub spared : Spares g old new

  -- a step of a query, or a statement within a transaction: the same, but what is shown may change
  pub record Remembers : Type 0 where
    pub limit : new.step_limit ≡ old.step_limit
    pub doubt : doubt_of (state g old).is_clean ≤ doubt_of (state g new).is_clean
    pub faults : (state g old).faults ≤ (state g new).faults
    pub shield : (state g old).IsShielded → (state g new).IsShielded
    pub spared : Spares g old new

  -- a transaction that has ended, whatever it came to: the limit on steps is what it was
  pub record IsOver : Type 0 where
    pub mode : new.in_transaction ≡ false
    pub limit : new.step_limit ≡ old.step_limit
    pub doubt : doubt_of (state g old).is_clean ≤ doubt_of (state g new).is_clean
    pub faults : (state g old).faults ≤ (state g new).faults
    pub shield : (state g old).IsShielded → (state g new).IsShielded
