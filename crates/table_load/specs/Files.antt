-- What a store over files begins with, why files are refused, and what a crash leaves of them.
use Rattle.std.specs.Prelude.{◌⊎◌, List, ℕ, ◌≡◌, IsTrue, ⊤, ◌≢◌, ◌≤◌, true, [], Result, Ok, Err, IfSome, Option, Some, None}
use Rattle.sqlite_disk.specs.declared.Disk as disk
use Rattle.sqlite_disk.specs.{Events.Event, Events.HasCollision, declared.Files.Files}
use Rattle.sqlite_store.specs.{declared.store.FileStore.FileStore, FileStore.files, FileStore.view, Unopened.state_of}
use Rattle.sqlite.specs.{Held.Held, Held.AreDatabases, Held.IsNew, Held.state, State.HasCleanDisk, Files.file_state, Files.image_of, Files.IsCleanLeft, Files.LeavesFiles, Files.SaysSums, Files.over_files, Files.IsBlankAs, Files.IsOpened, Start.FindsIn, Tree.Trees, Schema.Schema, Effect.Database, Effect.IsDatabase, declared.file.Leftover.Leftover}
use Rattle.sqlite_wal.specs.{Files.outcomes, Recovery.Image}
use Rattle.sqlite_pool.specs.Stored.{is_summed, stored_size}
use Rattle.sqlite_store.specs.FileStore as file
use Rattle.sqlite.specs.declared.file.Leftover.TheVariants as left
use Rattle.sqlite_trees.specs.{View.doubt as doubt_of, declared.store.Store.Ghosts}
use Rattle.desk_store.specs.World.{World, LeavesOnly, IsContent}
use Rattle.desk_sql.specs.{Effects.IsOpenIfClean, Effects.StaysShown, Rows.IsDesk, Rows.tables_of, Statements.HasDiskFailed, Statements.IsMisnumbered, declared.opening.finding.TablesPresent.TablesPresent}
use Rattle.row_codec.specs.Tables.{AreTables}
use Rattle.table_load.specs.{declared.fault.OpenFault.OpenFault, declared.fault.OpenFault.TheVariants.NotADesk, declared.fault.OpenFault.TheVariants.OldSchema, declared.fault.OpenFault.TheVariants.OutOfMemory, declared.path.NotOpened.NotOpened, Opening.BeginsWith, Opening.ShowsNoDesk, Opening.ShowsOldRows, Opening.BlamesDisk, Opening.IsPart, Opening.IsNoDesk, Opening.HasOldRows, Moving.BeginsMoved, Moving.KeepsRows, Moving.ShowsNoContent}

-- if the disk has returned what was written so far, each later read is tested
abbrev pub IsGuarded : {D : Type 0} {g : disk.Ghosts D} → Held (FileStore D g) → Type 0
IsGuarded h = HasCleanDisk (file_state h) → (file_state h).IsShielded

-- a read of the log or of the database file returned other bytes than had been written there, of the same
-- digest of 64 bits under the key that came with the files. `start` is what a file held before its first
-- call, and `calls` are its calls since with their answers, the newest first
abbrev pub HasStoreCollided :
    {D : Type 0} {g : disk.Ghosts D} → (start : D → List ℕ) → (calls : D → List Event)
    → Held (FileStore D g) → Type 0
HasStoreCollided {D} {g} start calls h =
    let log = (files h.store).0 in
    let db = (files h.store).1 in
    HasCollision (g.key_of log) (start log) (calls log) ⊎ HasCollision (g.key_of log) (start db) (calls db)

-- ==== What is left of two files that the crate sqlite did not open
module _ {D : Type 0} {g : disk.Ghosts D} where
  -- what a crash may leave of such files
  abbrev pub MayRemain : Leftover D g → Image → Type 0
  MayRemain (left.Files now) = outcomes g now.log now.db
  MayRemain (left.Unopened now) = (state_of now).may_leave
  MayRemain (left.Store now) = (file.state now).may_leave

  -- this is left of files that held this, all of it on the disk, and were not opened: if the disk returned
  -- what was written, it is what the crate sqlite leaves of such files
  pub record IsLeftOf (image : Image) (it : Leftover D g) : Type 0 where
    pub files : Files D
    pub held : image_of g files ≡ image
    pub synced : (next : Image) → outcomes g files.log files.db next → next ≡ image
    pub left : IsCleanLeft it → LeavesFiles files it

  -- what the crate sqlite keeps of what it leaves, and says in no clause: it takes the pages for such with
  -- sums where the first one says so; a store numbers its root pages, and a crash leaves only databases of it
  abbrev pub IsKeptBySqlite : Image → Leftover D g → Type 0
  IsKeptBySqlite image (left.Files now) = ⊤
  IsKeptBySqlite image (left.Unopened now) =
      SaysSums (stored_size (state_of now).page_size) image → IsTrue (is_summed (state_of now).page_size)
  IsKeptBySqlite image (left.Store now) =
      IsTrue (file.view now).is_numbered × AreDatabases (file.recovers now)

  -- files hold what a crash may have left of files that held this, and were not opened
  pub record RemainsOf (image : Image) (it : Leftover D g) (next : Image) : Type 0 where
    pub left : IsLeftOf image it
    pub clean : IsCleanLeft it
    pub taken : IsKeptBySqlite image it
    pub may : MayRemain it next

-- ==== What a store over files begins with, and why files are refused
-- how many frames the write-ahead log holds before it is copied into the database file
abbrev pub log_frames : ℕ
log_frames = 320

-- the files that there are where nothing was
abbrev pub no_files : Image
no_files = record { log = []; db = [] }

-- a connection is opened, and finds the database that the files held
abbrev pub FindsFirst : {D : Type 0} {g : disk.Ghosts D} → Image → Held (FileStore D g) → Type 0
FindsFirst image found = IsOpened found × FindsIn image (file_state found)

module _ {D : Type 0} {g : disk.Ghosts D} where
  -- a connection to files that held this: if the disk returned what was written so far, it finds their
  -- database, each later read is tested, and new files have the sums of SQLite's cksumvfs
  pub record Finds (image : Image) (found : Held (FileStore D g)) : Type 0 where
    pub first : HasCleanDisk (file_state found) → FindsFirst image found
    pub guarded : IsGuarded found
    pub summed : HasCleanDisk (file_state found) → IsBlankAs true image
        → (view found.store).has_sums ≡ true

  -- if the disk has returned what was written so far, and the files were new, the connection that opened them
  -- puts the sums of SQLite's cksumvfs on pages
  abbrev pub IsSummed : Image → Held (FileStore D g) → Type 0
  IsSummed image h = HasCleanDisk (file_state h) → IsBlankAs true image
      → (found : Held (FileStore D g)) × FindsFirst image found × ((view found.store).has_sums ≡ true)

  -- a connection finds the files' database, and is open; the store begins with what that connection shows
  pub record OpensIn (image : Image) (h : Held (FileStore D g)) (w : World) : Type 0 where
    pub found : Held (FileStore D g)
    -- what the store's disk returned as written, it had returned so when the connection was there
    pub doubt : doubt_of (file_state found).is_clean ≤ doubt_of (file_state h).is_clean
    pub opened : HasCleanDisk (file_state h) → FindsFirst image found
    -- if the disk returned what was written until the connection was there, each later read is tested
    pub guarded : HasCleanDisk (file_state found) → (file_state h).IsShielded
    -- new files get the sums of SQLite's cksumvfs
    pub summed : HasCleanDisk (file_state found) → IsBlankAs true image
        → (view found.store).has_sums ≡ true
    pub live : IsOpenIfClean (over_files {D = D} {g = g}) h
    pub begins : BeginsWith (over_files {D = D} {g = g}) found h w

-- what is said of files in which nothing was read: neither what tables nor what rows they have
abbrev pub IsUnread : OpenFault → Type 0
IsUnread e = (e ≢ NotADesk) × (e ≢ OldSchema)

module _ {D : Type 0} {g : disk.Ghosts D} (image : Image) where
  -- files that held this were not opened, and are reported so, with what is left of them if both were there
  pub record IsUnreached (it : NotOpened D g) : Type 0 where
    pub unread : IsUnread it.fault
    pub left : IfSome it.left (λ s. IsLeftOf image s.value)

  -- a fault is that of files that were not opened
  pub record IsOfUnreached (e : OpenFault) (it : NotOpened D g) : Type 0 where
    pub same : e ≡ it.fault
    pub unread : IsUnread e
    pub left : IfSome it.left (λ s. IsLeftOf image s.value)

module _ {D : Type 0} {g : disk.Ghosts D} (image : Image) (e : OpenFault) where
  -- the connection that is left had found the files' database, and what it showed says why it is no store's
  pub record IsRefusedIn (left : Held (FileStore D g)) : Type 0 where
    pub found : Held (FileStore D g)
    pub opened : HasCleanDisk (file_state left) → FindsFirst image found
    pub fresh : IsNew found
    pub none : e ≡ NotADesk → ShowsNoDesk (over_files {D = D} {g = g}) found left
    pub old : e ≡ OldSchema → ShowsOldRows (over_files {D = D} {g = g}) found left
    pub cause : BlamesDisk (over_files {D = D} {g = g}) found left e
    pub kept : StaysShown (over_files {D = D} {g = g}) found left

  -- files of which no store comes are refused by the connection that is left; or they were not opened, and
  -- nothing in them was read
  abbrev pub AreRefused : Result (Held (FileStore D g)) (NotOpened D g) → Type 0
  AreRefused (Ok left) = IsRefusedIn left
  AreRefused (Err it) = IsOfUnreached image e it

-- ---- files that may hold rows of schema 1
module _ {D : Type 0} {g : disk.Ghosts D} where
  -- a connection finds the database of the files, and is open; the store begins with what that connection
  -- shows, from which so many plans were moved
  pub record OpensMoved (image : Image) (h : Held (FileStore D g)) (w : World) (count : ℕ) : Type 0 where
    pub found : Held (FileStore D g)
    pub doubt : doubt_of (file_state found).is_clean ≤ doubt_of (file_state h).is_clean
    pub opened : HasCleanDisk (file_state h) → FindsFirst image found
    pub guarded : HasCleanDisk (file_state found) → (file_state h).IsShielded
    pub live : IsOpenIfClean (over_files {D = D} {g = g}) h
    pub begins : BeginsMoved (over_files {D = D} {g = g}) found h w count

module _ {D : Type 0} {g : disk.Ghosts D} (image : Image) (e : OpenFault) where
  -- the connection that is left had found the database of the files, and what it showed says why its plans
  -- can't be moved; the rows are kept
  pub record IsMoveRefusedIn (left : Held (FileStore D g)) : Type 0 where
    pub found : Held (FileStore D g)
    pub opened : HasCleanDisk (file_state left) → FindsFirst image found
    pub fresh : IsNew found
    pub none : e ≡ NotADesk → ShowsNoContent (over_files {D = D} {g = g}) found left
    pub newer : e ≢ OldSchema
    pub cause : BlamesDisk (over_files {D = D} {g = g}) found left e
    pub kept : KeepsRows (over_files {D = D} {g = g}) found left

  -- files that may hold rows of schema 1 are refused so; or they were not opened
  abbrev pub AreNotMoved : Result (Held (FileStore D g)) (NotOpened D g) → Type 0
  AreNotMoved (Ok left) = IsMoveRefusedIn left
  AreNotMoved (Err it) = IsOfUnreached image e it

-- ==== What a crash leaves of a store over tables, and what a start reads in it
-- the trees list and obey a desk's schema, beside which others may stand, and their rows are those of the content
pub record HasWorld (db : Trees) (w : World) : Type 0 where
  pub content : IsContent w
  pub listed : Schema
  pub desk : IsDesk (record { schema = listed; trees = db })
  pub sound : IsDatabase (record { schema = listed; trees = db })
  pub tables : AreTables (tables_of db) w

-- what trees are read as: a content, or None if they are invalid
abbrev pub ReadsAs : Trees → Option World → Type 0
ReadsAs db None = (w : World) → ¬ HasWorld db w
ReadsAs db (Some w) = HasWorld db w

module _ {S : Type 0} (g : Ghosts S) where
  -- what may be found if the program ends here
  abbrev pub MayLeave : Held S → Option World → Type 0
  MayLeave h found = (db : Trees) × (state g h).may_leave db × ReadsAs db found

  -- a crash leaves what it could leave before, or the rows of this content
  abbrev pub MayHave : Held S → Held S → World → Type 0
  MayHave old new w = HasCleanDisk (state g new) → (db : Trees)
      → (state g new).may_leave db → (state g old).may_leave db ⊎ HasWorld db w

  -- while the connection is open, a crash leaves this content and nothing else
  abbrev pub IsSettledAt : Held S → World → Type 0
  IsSettledAt h w = HasCleanDisk (state g h) → IsTrue (state g h).is_open → LeavesOnly w (MayLeave h)

-- ---- over files
module _ {D : Type 0} {g : disk.Ghosts D} where
  -- what the crate sqlite keeps of each connection, and says in no clause
  pub record IsConnected (h : Held (FileStore D g)) : Type 0 where
    pub numbered : IsTrue (file.view h.store).is_numbered
    pub sound : AreDatabases (file.recovers h.store)

  -- what a crash may leave in the files
  abbrev pub MayHold : Held (FileStore D g) → Image → Type 0
  MayHold h = (file.state h.store).may_leave

  -- files hold what a crash may have left of a connection
  pub record IsImageLeft (last : Held (FileStore D g)) (image : Image) : Type 0 where
    pub connected : IsConnected last
    pub left : MayHold last image

-- a connection is open, on a clean disk: what it shows is what the files have
abbrev pub IsLegible : {D : Type 0} {g : disk.Ghosts D} → Held (FileStore D g) → Type 0
IsLegible h = HasCleanDisk (file_state h) × IsTrue (file_state h).is_open

module _ {D E : Type 0} {g : disk.Ghosts D} {k : disk.Ghosts E} (last : Held (FileStore D g)) where
  -- a start finds the database in such files
  pub record IsFoundAfter (found : Held (FileStore E k)) : Type 0 where
    pub image : Image
    pub files : IsImageLeft last image
    pub first : FindsFirst image found

  -- a store begins over such files, on a clean disk
  pub record BeginsAfter (new : Held (FileStore E k)) (w : World) : Type 0 where
    pub image : Image
    pub files : IsImageLeft last image
    pub opens : OpensIn image new w
    pub clean : HasCleanDisk (file_state new)

module _ {D E : Type 0} {g : disk.Ghosts D} {k : disk.Ghosts E} (last : Held (FileStore D g)) (e : OpenFault)
    (left : Held (FileStore E k))
  where
    -- such files are opened, and refused by a connection that is left open, on a clean disk
    pub record IsRefusedAfter : Type 0 where
      pub image : Image
      pub files : IsImageLeft last image
      pub refused : IsRefusedIn image e left
      pub legible : IsLegible left

    -- though memory is left, and the disk had no fault
    pub record IsRefusedAtRest : Type 0 where
      pub after : IsRefusedAfter
      pub room : e ≢ OutOfMemory
      pub quiet : ¬ HasDiskFailed over_files after.refused.found left
