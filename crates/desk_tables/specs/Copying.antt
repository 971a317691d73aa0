-- Copying: a new database that gets the content of another, which is read in either schema.
use Rattle.std.specs.Prelude.{◌≡◌, ◌≢◌, ◌≤◌, ◌⊎◌, Bool, true, List, ◌++◌, map, IsTrue, IsPermutation, Result, Ok, Err}
use Rattle.sqlite_disk.specs.declared.Disk as disk
use Rattle.sqlite_wal.specs.Recovery.{Image}
use Rattle.sqlite_trees.specs.{declared.store.Store.Ghosts, View.doubt as doubt_of}
use Rattle.sqlite_store.specs.{declared.store.FileStore.FileStore, FileStore.view}
use Rattle.sqlite_value.specs.Order.{Row}
use Rattle.sqlite.specs.{Effect.Database, State.HasCleanDisk, Held.Held, Held.IsNew, Held.state, Files.over_files, Files.file_state, Files.IsBlankAs}
use Rattle.desk_sql.specs.{Effects.IsOpenIfClean, Effects.OnlyReads, Effects.HasOthers, Schema.blank_schema, Statements.HasDiskFailed, Statements.IsMisnumbered, Rows.IsMadeTo, Rows.Tables, declared.opening.finding.TablesPresent.TablesPresent, declared.opening.finding.TablesPresent.TheVariants.Nothing}
use Rattle.desk_store.specs.World.{Filed, Listed, World}
use Rattle.row_codec.specs.Tables.{row_of_operator, operator_rows, plan_rows, volume_rows, cover_rows, AreSpanRows}
use Rattle.table_load.specs.{Opening.BlamesDisk, Files.FindsFirst, Files.IsOfUnreached, Files.IsUnread, Moving.ShowsContent, Moving.ShowsNone, declared.path.NotOpened.NotOpened, declared.fault.OpenFault.OpenFault, declared.fault.OpenFault.TheVariants.NotADesk, declared.fault.OpenFault.TheVariants.OldSchema, declared.fault.OpenFault.TheVariants.Store}
use Rattle.desk_tables.specs.declared.opening.files.CopyFault.{CopyFault}
use Rattle.desk_tables.specs.declared.opening.files.CopyFault.TheVariants as copy

-- a table of the schema, or another
abbrev pub HasTables : Database → Type 0
HasTables db = HasOthers db ⊎ ((made : TablesPresent) × (made ≢ Nothing) × IsMadeTo made db)

-- why a new database fails: it has a table, or the disk failed
abbrev pub BlamesNew : {S : Type 0} → Ghosts S → Held S → Held S → OpenFault → Type 0
BlamesNew g old new e = HasCleanDisk (state g new) → IsTrue (state g new).is_open → e ≡ Store
    → HasTables (state g old).now ⊎ (HasDiskFailed g old new ⊎ IsMisnumbered (state g old).now)

-- no store of a content was made over a connection
pub record IsUnmade {S : Type 0} (g : Ghosts S) (old new : Held S) (e : OpenFault) : Type 0 where
  pub fault : IsUnread e
  pub cause : BlamesNew g old new e
  pub doubt : doubt_of (state g old).is_clean ≤ doubt_of (state g new).is_clean

-- ---- over files
module _ {D : Type 0} {g : disk.Ghosts D} (image : Image) where
  -- a connection finds the database of the files, which has the rows of this content, and is left as it was
  pub record LooksIn (left : Held (FileStore D g)) (old : Bool) (w : World) : Type 0 where
    pub found : Held (FileStore D g)
    pub opened : HasCleanDisk (file_state left) → FindsFirst image found
    pub shows : ShowsContent (over_files {D = D} {g = g}) found left old w
    pub reads : OnlyReads (over_files {D = D} {g = g}) found left

  -- a connection found no table in files, and the store of a content was made there
  pub record IsMadeIn (h : Held (FileStore D g)) : Type 0 where
    pub found : Held (FileStore D g)
    pub doubt : doubt_of (file_state found).is_clean ≤ doubt_of (file_state h).is_clean
    pub opened : HasCleanDisk (file_state h) → FindsFirst image found
    pub blank : HasCleanDisk (file_state h) → (file_state found).now.schema ≡ blank_schema
    pub guarded : HasCleanDisk (file_state found) → (file_state h).IsShielded
    pub summed : HasCleanDisk (file_state found) → IsBlankAs true image
        → (view found.store).has_sums ≡ true
    pub live : IsOpenIfClean (over_files {D = D} {g = g}) h

module _ {D : Type 0} {g : disk.Ghosts D} (image : Image) (e : OpenFault) where
  -- the connection that is left had found the database of the files, which it leaves, and what it showed says
  -- why no content is read in it
  pub record IsUnreadIn (left : Held (FileStore D g)) : Type 0 where
    pub found : Held (FileStore D g)
    pub opened : HasCleanDisk (file_state left) → FindsFirst image found
    pub fresh : IsNew found
    pub none : e ≡ NotADesk → ShowsNone (over_files {D = D} {g = g}) found left
    pub newer : e ≢ OldSchema
    pub cause : BlamesDisk (over_files {D = D} {g = g}) found left e
    pub reads : OnlyReads (over_files {D = D} {g = g}) found left

  -- reading the files failed, and the connection is left; or they were not opened, and nothing was read
  abbrev pub AreNotRead : Result (Held (FileStore D g)) (NotOpened D g) → Type 0
  AreNotRead (Ok left) = IsUnreadIn left
  AreNotRead (Err it) = IsOfUnreached image e it

  -- the connection that is left had found the database of new files, and no store was made there, since they
  -- had a table, or the disk failed
  pub record IsUnmadeIn (left : Held (FileStore D g)) : Type 0 where
    pub found : Held (FileStore D g)
    pub opened : HasCleanDisk (file_state left) → FindsFirst image found
    pub fresh : IsNew found
    pub unmade : IsUnmade (over_files {D = D} {g = g}) found left e

  -- new files in which no store was made; or they were not opened
  abbrev pub AreNotMade : Result (Held (FileStore D g)) (NotOpened D g) → Type 0
  AreNotMade (Ok left) = IsUnmadeIn left
  AreNotMade (Err it) = IsOfUnreached image e it

-- no store was made in new files that held this, and the connection to what was to be copied is this one
abbrev pub IsUnmadeOf :
    {D E : Type 0} {g : disk.Ghosts D} {k : disk.Ghosts E} → Image → Held (FileStore D g)
    → CopyFault D E g k → Type 0
IsUnmadeOf other source (copy.Unread it) = ⊥
IsUnmadeOf other source (copy.Unmade it left) =
    AreNotMade other it.fault it.connection × (left.connection ≡ source)

-- the connection that is left had found the database of the files and read its content, and changed nothing
pub record IsLeftRead {D : Type 0} {g : disk.Ghosts D} (image : Image) (left : Held (FileStore D g)) :
    Type 0 where
  pub schema : Bool
  pub content : World
  pub looks : LooksIn image left schema content

-- nothing was copied from files that held this: they were not read, or nothing was made in the new ones
abbrev pub AreNotCopied :
    {D E : Type 0} {g : disk.Ghosts D} {k : disk.Ghosts E} → Image → Image
    → CopyFault D E g k → Type 0
AreNotCopied image other (copy.Unread it) = AreNotRead image it.fault it.connection
AreNotCopied image other (copy.Unmade it left) =
    AreNotMade other it.fault it.connection × IsLeftRead image left.connection

-- ---- a content that is written
-- the rows of operators are added
pub record AddsOperatorRows (ls : List Listed) (old new : Tables) : Type 0 where
  pub operators : IsPermutation (map row_of_operator ls ++ old.operators) new.operators
  pub plans : new.plans ≡ old.plans
  pub old_volumes : new.old_volumes ≡ old.old_volumes
  pub old_spans : new.old_spans ≡ old.old_spans
  pub volumes : new.volumes ≡ old.volumes
  pub covers : new.covers ≡ old.covers
  pub spans : new.spans ≡ old.spans

-- the rows of plans in `plan` are added
pub record AddsHeadRows (ps : List Filed) (old new : Tables) : Type 0 where
  pub operators : new.operators ≡ old.operators
  pub plans : IsPermutation (plan_rows ps ++ old.plans) new.plans
  pub old_volumes : new.old_volumes ≡ old.old_volumes
  pub old_spans : new.old_spans ≡ old.old_spans
  pub volumes : new.volumes ≡ old.volumes
  pub covers : new.covers ≡ old.covers
  pub spans : new.spans ≡ old.spans

-- the rows of a world are added
pub record AddsWorldRows (w : World) (old new : Tables) : Type 0 where
  pub operators : IsPermutation (operator_rows w ++ old.operators) new.operators
  pub plans : IsPermutation (plan_rows w.plans ++ old.plans) new.plans
  pub old_volumes : new.old_volumes ≡ old.old_volumes
  pub old_spans : new.old_spans ≡ old.old_spans
  pub with_volumes : IsPermutation (volume_rows w.plans ++ old.volumes) new.volumes
  pub with_covers : IsPermutation (cover_rows w.plans ++ old.covers) new.covers
  pub with_spans : (rows : List Row) × AreSpanRows w.plans rows × IsPermutation (rows ++ old.spans) new.spans
