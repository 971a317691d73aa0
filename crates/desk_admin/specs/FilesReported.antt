-- What `check` reports of a file, what `copy` copies, and the errors of a file that can't be opened.
use Rattle.std.specs.Prelude.{ℕ, Bool, true, false, List, Option, ◌≡◌, None, Result, Ok, Err, ◌⊎◌, codes, Some, [], length}
use Rattle.std.specs.declared.io.Write as write
use Rattle.std.specs.Option.{IsSomeAnd}
use Rattle.sqlite_disk.specs.declared.Disk as disk
use Rattle.sqlite_disk.specs.declared.Files.{Files}
use Rattle.sqlite_wal.specs.{Reads.AreClean, Recovery.Image}
use Rattle.sqlite_store.specs.declared.store.FileStore.{FileStore}
use Rattle.sqlite.specs.{Closing.IsCopied as IsClosedInto, Files.over_files, Files.file_state, Held.Held}
use Rattle.desk_store.specs.World.{World}
use Rattle.desk_wire.specs.Streams.{Course, course}
use Rattle.db_file.specs.Orders.{order_text}
use Rattle.row_codec.specs.SpanBounds.{HaveSpanRows, IsMostCells, IsMostSpans}
use Rattle.table_load.specs.{declared.fault.OpenFault.OpenFault, declared.naming.InvalidPart.InvalidPart, declared.looking.DbStats.DbStats, Moving.AreStatsOf, Moving.has_others, Moving.live_count, Files.IsSettledAt}
use Rattle.table_load.specs.declared.fault.OpenFault.TheVariants as opening
use Rattle.table_load.specs.declared.naming.InvalidPart.TheVariants as part
use Rattle.desk_tables.specs.{declared.opening.files.FilesFault.FilesFault, declared.opening.files.CopyFault.CopyFault, declared.closing.CheckpointError.CheckpointError, Store.IsLeftUnclosed, Copying.AreNotCopied, Copying.AreNotRead, Copying.IsMadeIn, Copying.LooksIn}
use Rattle.desk_tables.specs.declared.opening.files.CopyFault.TheVariants as copy
use Rattle.desk_cli.specs.{declared.failure.ExitReport.ExitReport, declared.failure.ErrorCode.ErrorCode, declared.line.Database.Database, Exits.Ending, Exits.FailsWith, Lines.file_of}
use Rattle.desk_cli.specs.declared.failure.ErrorCode.TheVariants as failure
use Rattle.desk_program.specs.{Keeping.bytes_written, Keeping.ended, Enrolling.IsTextPrinted, Enrolling.checked_line, Enrolling.copied_line, declared.looking.CheckedFile.CheckedFile}
use Rattle.host_files.specs.Naming.{Steps, Follows, HasFailedStep, IsNamed, IsUnnamed, Synced, free_steps, named_steps, IsWrittenIfRoom, line_of, Reports}
use Rattle.desk_admin.specs.declared.{keeping.Writers.Writers, keeping.CopyError.CopyError, unopened.OpenError.OpenError}

-- the steps in folders; the bytes printed to the output; and how the command ended, with what went to errors
pub record AdminOutside : Type 0 where
  pub steps : Steps
  pub writes : Course (Option (List ℕ))
  pub end : Ending

-- these effects, by the command's writers before and after, its steps in folders, and its exit report
abbrev pub admin_outside :
    {W E : Type 0} → write.Ghosts W → write.Ghosts E → Writers W E → Writers W E → Steps → ExitReport E
    → AdminOutside
admin_outside w e old new steps exit = record {
  steps = steps;
  writes = bytes_written w old.output new.output;
  end = ended e exit old.errors new.errors;
}

-- ==== The errors of a database that can't be opened
-- the error code with which the program ends, by why the database can't be opened
abbrev pub open_failure : OpenFault → ErrorCode
open_failure opening.OutOfMemory = failure.Memory
open_failure opening.Store = failure.Store
open_failure opening.NotADesk = failure.NotADesk
open_failure opening.OldSchema = failure.OldSchema

-- the error code is one of a database that can't be opened
abbrev pub IsOpenFailure : ErrorCode → Type 0
IsOpenFailure f = (fault : OpenFault) × (f ≡ open_failure fault)

-- the error is that of this fault, and no files were opened
pub record IsUnreadFor {D : Type 0} {g : disk.Ghosts D} (it : OpenError D g)
    (fault : OpenFault) : Type 0 where
  pub failure : it.failure ≡ open_failure fault
  pub refused : it.refused ≡ None

-- the error is that of files that were refused, and `Refused` holds of these files
pub record FailsOver {D : Type 0} {g : disk.Ghosts D} (Refused : FilesFault D g → Type 0) (it : OpenError D g)
    : Type 0 where
  pub files : FilesFault D g
  pub are : IsSomeAnd it.refused (λ s. s.value ≡ files)
  pub failure : it.failure ≡ open_failure files.fault
  pub refused : Refused files

-- what was opened, or only the error code
abbrev pub or_failure : {D T : Type 0} {g : disk.Ghosts D} → Result T (OpenError D g) → Result T ErrorCode
or_failure (Ok it) = Ok it
or_failure (Err unread) = Err unread.failure

-- the database is in memory: it has no file
abbrev pub IsInMemory : Database → Type 0
IsInMemory database = file_of database ≡ None

-- the words for an invalid part of a file
abbrev pub part_text : InvalidPart → List ℕ
part_text part.NoTable = codes "no table"
part_text part.OtherTables = codes "other tables than a desk's"
part_text part.BothSchemas = codes "rows of schema 1 beside rows of schema 2"
part_text part.Operator = codes "rows of no content in operator"
part_text part.Plan = codes "rows of no content in plan"
part_text part.Plans = codes "plans of no operator, or too many of one, in plan"
part_text part.Volume = codes "rows of no content in volume2"
part_text part.Cover = codes "covers of no content in volume2"
part_text part.Span = codes "rows of no content in span2"
part_text part.OldVolume = codes "rows of no content in volume"
part_text part.OldSpan = codes "rows of no content in span"
part_text part.OldPlan = codes "plans beyond the limits of schema 1 in volume"

-- the words for the invalid part that was found; if none was found, what may be wrong
abbrev pub named_text : Option InvalidPart → List ℕ
named_text None = codes "no table, other tables than a desk's, or rows of no content"
named_text (Some it) = part_text it

-- the text is a cause for a file that is no valid database: its tables are in a non-canonical order, or an
-- invalid part was found, or none was
abbrev pub IsNoDeskText : List ℕ → Type 0
IsNoDeskText text = (text ≡ order_text) ⊎ ((part : Option InvalidPart) × (text ≡ named_text part))

-- ==== What `check` reports of a file, and what `copy` copies of it
-- a command fails: first the cause is reported, perhaps with no text; then the line of the error code f is
-- printed, and the exit status is that of f
pub record FailsReporting (f : ErrorCode) (end : Ending) : Type 0 where
  pub between : Option (List ℕ)
  pub cause : Reports (course end.before between)
  pub fails : FailsWith f (record end { before = between })

-- the statistics' counts of operators, plans, live plans, spans and cells are those of the content w
pub record ReportsHoldings (file : CheckedFile) (w : World) : Type 0 where
  pub operators : file.operators ≡ length w.operators
  pub plans : file.plans ≡ length w.plans
  pub live : file.live ≡ live_count w.plans
  pub spans : HaveSpanRows w.plans file.spans
  pub most_spans : IsMostSpans w.plans file.most_spans
  pub most_cells : IsMostCells w.plans file.most_cells

module _ {D : Type 0} {g : disk.Ghosts D} (image : Image) where
  -- a connection (left) read files holding the image, and left their content; the statistics are those of it
  pub record IsReadAs (left : Held (FileStore D g)) (file : CheckedFile) : Type 0 where
    pub w : World
    pub reported : ReportsHoldings file w
    pub looks : LooksIn image left file.is_old w

  -- why files that held the image can't be read: memory ran out before they were opened; or they were
  -- refused, for a fault that they have
  abbrev pub FailsToRead : OpenError D g → Type 0
  FailsToRead it = IsUnreadFor it opening.OutOfMemory
      ⊎ FailsOver (λ files. AreNotRead image files.fault files.connection) it

  -- why no statistics of a database are reported: it is in memory, or its files can't be read
  abbrev pub FailsToLook : Database → OpenError D g → Type 0
  FailsToLook database it = (IsInMemory database × IsUnreadFor it opening.Store) ⊎ FailsToRead it

  -- the statistics can't be had: the cause and the error code are reported, and nothing is printed
  pub record IsUnreported (database : Database) (end : Ending) (it : OpenError D g)
      (writes : Course (Option (List ℕ))) : Type 0 where
    pub look : FailsToLook database it
    pub reported : FailsReporting it.failure end
    pub unprinted : writes.after ≡ writes.before

  -- the statistics of the files are printed
  pub record IsFileReported (end : Ending) (left : Held (FileStore D g)) (writes : Course (Option (List ℕ)))
      : Type 0 where
    pub file : CheckedFile
    pub read : IsReadAs left file
    pub printed : IsTextPrinted (checked_line file) end writes.before writes.after

  -- the result of `check`: the statistics are printed, or the failure is reported
  abbrev pub IsChecked :
      Database → Ending → Result (Held (FileStore D g)) (OpenError D g) → Course (Option (List ℕ)) → Type 0
  IsChecked database end (Ok left) writes = IsFileReported end left writes
  IsChecked database end (Err it) writes = IsUnreported database end it writes

-- ---- a copy
-- the error has the code f, and no refused or unclosed files
pub record FailsUntried {R M U : Type 0} (f : ErrorCode) (it : CopyError R M U) : Type 0 where
  pub failure : it.failure ≡ f
  pub unread : it.unread ≡ None
  pub unmade : it.unmade ≡ None
  pub unclosed : it.unclosed ≡ None

-- why files of a disk were not copied to files of another
abbrev pub CopyEnd : {D E : Type 0} → disk.Ghosts D → disk.Ghosts E → Type 0
CopyEnd {D} {E} g k = CopyError (FilesFault D g) (FilesFault E k) (CheckpointError E k)

-- the error is that of this fault: its code, and the refused files, either those to be copied or the new ones
abbrev pub FailsBy :
    {D E U : Type 0} {g : disk.Ghosts D} {k : disk.Ghosts E} → CopyFault D E g k
    → CopyError (FilesFault D g) (FilesFault E k) U → Type 0
FailsBy (copy.Unread files) it =
    (it.failure ≡ open_failure files.fault) × IsSomeAnd it.unread (λ s. s.value ≡ files)
FailsBy (copy.Unmade files source) it =
    (it.failure ≡ open_failure files.fault) × IsSomeAnd it.unmade (λ s. s.value ≡ files)

module _ {D E : Type 0} {g : disk.Ghosts D} {k : disk.Ghosts E} (image other : Image) where
  -- the source files, which held the image, or the new files, which held the other, were refused
  pub record FailsRefused (it : CopyEnd g k) : Type 0 where
    pub fault : CopyFault D E g k
    pub by : FailsBy fault it
    pub are : AreNotCopied image other fault

  -- a store was made in the new files, and can't be closed: the error code is `Store`
  pub record FailsUnclosed (it : CopyEnd g k) : Type 0 where
    pub held : Held (FileStore E k)
    pub failure : it.failure ≡ failure.Store
    pub made : IsMadeIn other held
    pub left : IsSomeAnd it.unclosed (IsLeftUnclosed held)

  -- why files are not copied: some were refused, or the new ones can't be closed
  abbrev pub FailsAtFiles : CopyEnd g k → Type 0
  FailsAtFiles it = FailsRefused it ⊎ FailsUnclosed it

  -- why nothing is copied: the database is in memory; memory ran out; a step in the folder failed; or files
  -- were refused or couldn't be closed
  abbrev pub FailsToCopy : Database → Steps → CopyEnd g k → Type 0
  FailsToCopy database steps it = (IsInMemory database × FailsUntried failure.Store it)
      ⊎ (FailsUntried failure.Memory it
      ⊎ ((HasFailedStep steps × FailsUntried failure.Store it) ⊎ FailsAtFiles it))

  -- nothing is copied: the cause and the error code are reported, and nothing is printed
  pub record IsUncopied (database : Database) (o : AdminOutside) (it : CopyEnd g k) : Type 0 where
    pub why : FailsToCopy database o.steps it
    pub reported : FailsReporting it.failure o.end
    pub unprinted : o.writes.after ≡ o.writes.before

module _ {D E : Type 0} {g : disk.Ghosts D} (k : disk.Ghosts E) (image other : Image) where
  -- a connection read files that held the image, and left their content w. A store of w was made in new
  -- files, which held the other before, and closed: these files have w now
  pub record IsCopyMade (copies : Held (FileStore D g) × (Files E × DbStats)) : Type 0 where
    pub w : World
    pub held : Held (FileStore E k)
    pub counted : AreStatsOf copies.1.1 w
    pub looks : LooksIn image copies.0 copies.1.1.is_old w
    pub made : IsMadeIn other held
    pub settled : IsSettledAt over_files held w
    pub closed : AreClean k copies.1.0.log copies.1.0.db → IsClosedInto held copies.1.0

-- the connection to the files that were copied, the new files and the statistics; or why nothing was copied
abbrev pub CopyOutcome : {D E : Type 0} → disk.Ghosts D → disk.Ghosts E → Type 0
CopyOutcome {D} {E} g k = Result (Held (FileStore D g) × (Files E × DbStats)) (CopyEnd g k)

-- what is reported of a file with tables, indexes or views beside the desk's
abbrev pub others_text : List ℕ
others_text = codes "other tables, indexes or views are not copied"

-- so it is reported of the file at a path, if it has others; else nothing is reported
abbrev pub ReportsOthers : Bool → List ℕ → Course (Option (List ℕ)) → Type 0
ReportsOthers true path writes = IsWrittenIfRoom (line_of path others_text) writes
ReportsOthers false path writes = writes.after ≡ writes.before

-- what `copy` reports and prints: whether the file has others that are not copied; then the counts
pub record IsCopyReported {D E : Type 0} {g : disk.Ghosts D} (database : Database) (o : AdminOutside)
    (copies : Held (FileStore D g) × (Files E × DbStats)) : Type 0 where
  pub between : Option (List ℕ)
  pub reported : (path : List ℕ) → file_of database ≡ Some path
      → ReportsOthers (has_others (file_state copies.0).now.schema) path (course o.end.before between)
  pub printed : IsTextPrinted (copied_line copies.1.1.operators copies.1.1.plans)
      (record o.end { before = between }) o.writes.before o.writes.after

module _ {D E : Type 0} {g : disk.Ghosts D} {k : disk.Ghosts E} (image other : Image) where
  -- the result of `copy`: the files are copied, which is reported; or the failure is reported
  abbrev pub IsCopied : Database → AdminOutside → CopyOutcome g k → Type 0
  IsCopied database o (Ok copies) = IsCopyMade k image other copies × IsCopyReported database o copies
  IsCopied database o (Err it) = IsUncopied image other database o it

-- the error of a copy once its files were written: that of `copied`; or `Store`, since a step in the folder
-- failed afterwards
abbrev pub IsAsCopied : {A R M U : Type 0} → Result A (CopyError R M U) → Steps → CopyError R M U → Type 0
IsAsCopied copied steps it = (copied ≡ Err it) ⊎ (HasFailedStep steps × FailsUntried failure.Store it)

-- if the copy succeeded, the new file gets its final name and the folder is synced; else no file gets a name,
-- or the new file gets its name and the folder can't be synced
abbrev pub IsNamedNow : {A B : Type 0} → Result A B → List ℕ → Steps → Type 0
IsNamedNow (Ok copies) to steps = Follows steps (named_steps to (Synced to))
IsNamedNow (Err it) to steps = IsUnnamed [] to steps

-- the same for the whole command: before, nothing is found at the names of the new file
abbrev pub IsNamedIf : {A B : Type 0} → Result A B → List ℕ → Steps → Type 0
IsNamedIf (Ok copies) to steps = IsNamed to steps
IsNamedIf (Err it) to steps = IsUnnamed (free_steps to) to steps
