-- Files that are read by a scratch copy, and files that are put in canonical order before they are read.
use Rattle.std.specs.Prelude.{ℕ, Result, Ok, Err, ◌≡◌, ◌≢◌, ◌⊎◌, Bool, List, ◌++◌, codes, decimal, string_bytes, MatchOption, Option, None, Some, ⊤, true, false, [], ◌∷◌}
use Rattle.std.specs.declared.io.ErrorKind.{ErrorKind}
use Rattle.std.specs.Result.{IsErrAnd}
use Rattle.sqlite_disk.specs.declared.Disk as disk
use Rattle.sqlite_wal.specs.Recovery.{Image}
use Rattle.sqlite_store.specs.declared.store.FileStore.{FileStore}
use Rattle.sqlite.specs.{Files.over_files, Held.Held}
use Rattle.desk_wire.specs.Streams.{Course, course}
use Rattle.db_file.specs.Orders.{order_text}
use Rattle.table_load.specs.{Moving.AreStatsOf, Files.IsSettledAt, declared.looking.DbStats.DbStats}
use Rattle.desk_tables.specs.{Copying.IsMadeIn, Copying.LooksIn, Store.Shown}
use Rattle.desk_cli.specs.{declared.failure.ErrorCode.ErrorCode, declared.line.CopyArgs.CopyArgs as CopyWords, declared.line.Database.Database, Exits.Ending, Exits.FailsWith, Exits.IsLineBreakdown, Lines.file_of}
use Rattle.desk_cli.specs.declared.failure.ErrorCode.TheVariants as failure
use Rattle.desk_program.specs.{Enrolling.IsTextPrinted, Enrolling.checked_line, declared.looking.CheckedFile.CheckedFile}
use Rattle.host_files.specs.{declared.files.Found.Found, Naming.Follows, Naming.LeavesOthers, Naming.Step, Naming.Steps, Naming.IsWrittenIfRoom, Naming.line_of, Naming.Reports, Naming.Failed, Naming.Ordered}
use Rattle.desk_host.specs.{declared.ways.ReadMode.ReadMode, FoundLogs.AreRemoved, FoundLogs.IsNotCopied, FoundLogs.make_steps, FoundLogs.scratch_of, FoundLogs.is_mended, FoundLogs.untested_pages}
use Rattle.desk_host.specs.declared.ways.ReadMode.TheVariants as way
use Rattle.desk_admin.specs.{declared.unopened.OpenError.OpenError, declared.scratch_copies.Rows.Rows, FilesReported.CopyOutcome, FilesReported.FailsReporting, FilesReported.FailsToRead, FilesReported.IsCopied, FilesReported.IsNamedIf, FilesReported.IsReadAs, FilesReported.AdminOutside, FilesReported.IsInMemory}
use Rattle.desk_admin.specs.declared.scratch_copies.Rows.TheVariants as rows

-- the size in bytes of what was found at a path; 0 if nothing can be reached
abbrev pub found_size : Result Found ErrorKind → ℕ
found_size (Ok found) = found.len
found_size (Err kind) = 0

-- a connection read files that held the image, and left their content; a store of that content was made in
-- new files, which held the other before; and the statistics are those of the content
pub record IsStoredAs {D E : Type 0} {g : disk.Ghosts D} {k : disk.Ghosts E} (image other : Image)
    (copied : Held (FileStore D g) × (Shown (FileStore E k) × DbStats)) : Type 0 where
  pub counted : AreStatsOf copied.1.1 copied.1.0.world
  pub looks : LooksIn image copied.0 copied.1.1.is_old copied.1.0.world
  pub made : IsMadeIn other copied.1.0.held
  pub settled : IsSettledAt over_files copied.1.0.held copied.1.0.world

-- ==== Scratch copies: files that are read by a copy beside them, which is removed afterwards
-- ---- what is reported
-- the words for what is known of the rows of a file with wrong checksums
abbrev pub rows_text : Rows → List ℕ
rows_text rows.OfADesk = codes "are a desk's"
rows_text rows.OfNoDesk = codes "are no desk's"
rows_text rows.TestedAlone = codes "alone were tested"

-- the line that reports how many pages of a file have wrong checksums, and what is known of its rows
unfoldable pub bad_checksums_line : List ℕ → ℕ → List ℕ → List ℕ
bad_checksums_line path pages about_rows =
    codes "uss_desk: " ++ (path ++ (codes ": " ++ (decimal pages
    ++ (codes " pages without their sums, as sqlite3 leaves them; the rows " ++ (about_rows ++ codes "\n")))))

-- that line, by what is known of the rows
abbrev pub rows_line : List ℕ → ℕ → Rows → List ℕ
rows_line path pages it = bad_checksums_line path pages (rows_text it)

-- the line that reports that the tables of a file are in another order
abbrev pub order_line : List ℕ → List ℕ
order_line path = line_of path order_text

-- the line that reports what is wrong with a file whose scratch copy is a valid database, by the way in which
-- it was read: none if nothing is wrong but its WAL
abbrev pub defect_line : List ℕ → ReadMode → Option (List ℕ)
defect_line path way.Itself = None
defect_line path way.Damaged = None
defect_line path (way.BadChecksums pages) = Some (rows_line path pages rows.OfADesk)
defect_line path way.OtherOrder = Some (order_line path)

-- the line is written, if there is one: whole, or cut off by a failed write, or not at all without memory
abbrev pub IsWrittenIfAny : Option (List ℕ) → Course (Option (List ℕ)) → Type 0
IsWrittenIfAny None writes = writes.after ≡ writes.before
IsWrittenIfAny (Some line) writes = IsWrittenIfRoom line writes

-- no scratch copy can be made: the cause and the error code are reported, and nothing is printed
pub record FailsWithoutScratch (scratch : List ℕ) (o : AdminOutside) : Type 0 where
  pub failure : ErrorCode
  pub is : IsLineBreakdown failure
  pub untwinned : IsNotCopied scratch o.steps failure
  pub reported : FailsReporting failure o.end
  pub unprinted : o.writes.after ≡ o.writes.before

-- it is reported that the rows of a file with wrong checksums are invalid, and the error code is `Store`
pub record FailsForRows (path : List ℕ) (pages : ℕ) (end : Ending) : Type 0 where
  pub between : Option (List ℕ)
  pub noted : IsWrittenIfRoom (rows_line path pages rows.OfNoDesk) (course end.before between)
  pub fails : FailsWith failure.Store (record end { before = between })

-- what is reported if the scratch copy of a file with wrong checksums is refused with the error code f: only
-- `Memory` if memory ran out, which says nothing about the rows; else that the rows are invalid
abbrev pub AreRowsRefused : List ℕ → ℕ → ErrorCode → Ending → Type 0
AreRowsRefused path pages f end = ((f ≡ failure.Memory) × FailsWith failure.Memory end)
    ⊎ ((f ≢ failure.Memory) × FailsForRows path pages end)

-- what is reported if a scratch copy is refused with the error code f: the above for a file with wrong
-- checksums; for any other file the cause, and then f
abbrev pub IsScratchRefused : List ℕ → ReadMode → ErrorCode → Ending → Type 0
IsScratchRefused path way.Itself f end = FailsReporting f end
IsScratchRefused path way.Damaged f end = FailsReporting f end
IsScratchRefused path (way.BadChecksums pages) f end = AreRowsRefused path pages f end
IsScratchRefused path way.OtherOrder f end = FailsReporting f end

-- ---- check
module _ {D : Type 0} {g : disk.Ghosts D} (image : Image) (path : List ℕ) (way : ReadMode) where
  -- the scratch copy was read as a valid database: what is wrong with the file is reported, and then the
  -- statistics are printed
  pub record IsTakenByRows (left : Held (FileStore D g)) (end : Ending) (writes : Course (Option (List ℕ)))
      : Type 0 where
    pub between : Option (List ℕ)
    pub file : CheckedFile
    pub noted : IsWrittenIfAny (defect_line path way) (course end.before between)
    pub read : IsReadAs image left file
    pub printed : IsTextPrinted (checked_line file) (record end { before = between })
        writes.before writes.after

  -- the scratch copy can't be read as a valid database: this is reported, and nothing is printed
  pub record IsRefusedByRows (it : OpenError D g) (end : Ending) (writes : Course (Option (List ℕ)))
      : Type 0 where
    pub look : FailsToRead image it
    pub reported : IsScratchRefused path way it.failure end
    pub unprinted : writes.after ≡ writes.before

  -- one or the other, by the result of reading the scratch copy
  abbrev pub IsJudged :
      Result (Held (FileStore D g)) (OpenError D g) → Ending → Course (Option (List ℕ)) → Type 0
  IsJudged (Ok left) end writes = IsTakenByRows left end writes
  IsJudged (Err it) end writes = IsRefusedByRows it end writes

  -- the same, or no scratch copy can be made
  abbrev pub IsJudgedIf : Option (Result (Held (FileStore D g)) (OpenError D g)) → AdminOutside → Type 0
  IsJudgedIf None o = FailsWithoutScratch (scratch_of path) o
  IsJudgedIf (Some judged) o = IsJudged judged o.end o.writes

-- the scratch copy is made of the source file, repaired if `mended`, and removed once it was read
pub record WasScratch (source scratch : List ℕ) (mended : Bool) (steps : Steps) : Type 0 where
  pub from : Option (List Step)
  pub made : Follows (course steps.before from) (make_steps source scratch mended)
  pub removed : AreRemoved scratch (course from steps.after)

-- ---- copy
-- if a file with wrong checksums was copied (the status is 0), it is reported that only its rows were tested;
-- else nothing is reported
abbrev pub IsTestReported : List ℕ → ReadMode → ℕ → Course (Option (List ℕ)) → Type 0
IsTestReported path way status writes = MatchOption (untested_pages way status) (writes.after ≡ writes.before)
    (λ pages. IsWrittenIfRoom (rows_line path pages rows.TestedAlone) writes)

-- a database in memory has no file to copy: the error code is `Store`, and nothing is done or printed
pub record HasNoFile (database : Database) (o : AdminOutside) : Type 0 where
  pub is : IsInMemory database
  pub fails : FailsWith failure.Store o.end
  pub undone : o.steps.after ≡ o.steps.before
  pub unprinted : o.writes.after ≡ o.writes.before

module _ {D E : Type 0} {g : disk.Ghosts D} {k : disk.Ghosts E} (image other : Image) (words : CopyWords)
    (way : ReadMode)
  where
    -- a scratch copy is made of the database file, beside the new file; it is copied as `copy` copies a file;
    -- it is removed; and if the copy succeeded, what was not tested is reported
    pub record IsCopiedByScratch (copied : CopyOutcome g k) (o : AdminOutside) : Type 0 where
      pub source : List ℕ
      pub from : Option (List Step)
      pub until : Option (List Step)
      pub reported : Option (List ℕ)
      pub file : file_of words.database ≡ Some source
      pub made : Follows (course o.steps.before from)
          (make_steps source (scratch_of (string_bytes words.to)) (is_mended way))
      pub copies : IsCopied image other words.database
          (record o { steps = course from until; end = record o.end { now = reported } }) copied
      pub named : IsNamedIf copied (string_bytes words.to) (course from until)
      pub own : LeavesOthers (string_bytes words.to) (course from until)
      pub removed : AreRemoved (scratch_of (string_bytes words.to)) (course until o.steps.after)
      pub noted : IsTestReported source way o.end.status (course reported o.end.now)

    -- all of this; or no scratch copy can be made, or the database has no file: that is reported, and nothing
    -- is printed or copied
    abbrev pub IsCopiedByScratchIf : Option (CopyOutcome g k) → AdminOutside → Type 0
    IsCopiedByScratchIf None o =
        FailsWithoutScratch (scratch_of (string_bytes words.to)) o ⊎ HasNoFile words.database o
    IsCopiedByScratchIf (Some copied) o = IsCopiedByScratch copied o

-- ==== A command's file is put in canonical order, once its scratch copy was read as a valid database
-- what is reported once a file was reordered
abbrev pub reordered_text : List ℕ
reordered_text = codes "its tables are put in a desk's own order"

-- a file is reordered; or that step failed, and the error code is `Store`
abbrev pub IsOrderedOr : List ℕ → Result ⊤ ErrorCode → Steps → Type 0
IsOrderedOr path (Ok done) steps = Follows steps (Ordered path ∷ [])
IsOrderedOr path (Err f) steps = (f ≡ failure.Store) × Follows steps (Failed ∷ [])

-- the same if its scratch copy was admitted; else nothing is done in the folder, and the error code is that
-- of the refused scratch copy
abbrev pub IsOrderedIf : List ℕ → Result ⊤ ErrorCode → Result ⊤ ErrorCode → Steps → Type 0
IsOrderedIf path (Ok it) done steps = IsOrderedOr path done steps
IsOrderedIf path (Err f) done steps = (done ≡ Err f) × (steps.after ≡ steps.before)

module _ {D : Type 0} {g : disk.Ghosts D} (image : Image) (takes : Bool) where
  -- a scratch copy was read as a valid database that the command accepts
  pub record IsTaken (left : Held (FileStore D g)) : Type 0 where
    pub file : CheckedFile
    pub read : IsReadAs image left file
    pub taken : takes ≡ false → file.is_old ≡ false

  -- a scratch copy was read as a valid database of schema 1, and the command doesn't accept that
  pub record IsTooOld (left : Held (FileStore D g)) (f : ErrorCode) : Type 0 where
    pub file : CheckedFile
    pub read : IsReadAs image left file
    pub untaken : takes ≡ false
    pub old : file.is_old ≡ true
    pub failure : f ≡ failure.OldSchema

  -- a scratch copy is admitted or refused, by what was read in it: a database that the command accepts; one
  -- of schema 1 that it doesn't accept; or no valid database, with the error code of that
  abbrev pub IsAdmitted : Result ⊤ ErrorCode → Result (Held (FileStore D g)) (OpenError D g) → Type 0
  IsAdmitted (Ok it) (Ok left) = IsTaken left
  IsAdmitted (Err f) (Ok left) = IsTooOld left f
  IsAdmitted admitted (Err unread) = FailsToRead image unread × (admitted ≡ Err unread.failure)

module _ {D : Type 0} {g : disk.Ghosts D} (image : Image) (path : List ℕ) (takes : Bool) where
  -- the scratch copy of the file at the path is admitted or refused, then removed; then the file is
  -- reordered, if the scratch copy was admitted
  pub record IsOrderedByScratch (done : Result ⊤ ErrorCode)
      (judged : Result (Held (FileStore D g)) (OpenError D g)) (steps : Steps) : Type 0 where
    pub admitted : Result ⊤ ErrorCode
    pub between : Option (List Step)
    pub is : IsAdmitted image takes admitted judged
    pub removed : AreRemoved (scratch_of path) (course steps.before between)
    pub ordered : IsOrderedIf path admitted done (course between steps.after)

  -- the scratch copy is made of the file, and then all of this follows
  pub record WasJudged (done : Result ⊤ ErrorCode)
      (judged : Result (Held (FileStore D g)) (OpenError D g)) (steps : Steps) : Type 0 where
    pub from : Option (List Step)
    pub made : Follows (course steps.before from) (make_steps path (scratch_of path) true)
    pub ordered : IsOrderedByScratch done judged (course from steps.after)

  -- a file in non-canonical order: all of this; or no scratch copy can be made, and the error code says why
  abbrev pub IsReordered :
      Result ⊤ ErrorCode → Option (Result (Held (FileStore D g)) (OpenError D g)) → Steps → Type 0
  IsReordered done (Some judged) steps = WasJudged done judged steps
  IsReordered done None steps = IsErrAnd done (λ f. IsLineBreakdown f × IsNotCopied (scratch_of path) steps f)

  -- nothing is done with a file whose tables are in canonical order
  abbrev pub IsLeftAlone :
      Result ⊤ ErrorCode → Option (Result (Held (FileStore D g)) (OpenError D g)) → Steps → Type 0
  IsLeftAlone done judged steps = (done ≡ Ok tt) × (judged ≡ None) × (steps.after ≡ steps.before)

  -- what is done with a file, by how it has to be read: all of this, or nothing
  abbrev pub IsReorderedIf :
      ReadMode → Result ⊤ ErrorCode → Option (Result (Held (FileStore D g)) (OpenError D g)) → Steps → Type 0
  IsReorderedIf way.OtherOrder done judged steps = IsReordered done judged steps
  IsReorderedIf _ done judged steps = IsLeftAlone done judged steps

-- the line that reports that a file was reordered
abbrev pub reordered_line : List ℕ → List ℕ
reordered_line path = line_of path reordered_text

-- what is reported: that the file was reordered; nothing, if it was left alone; or why it failed
abbrev pub IsReorderReported :
    {X : Type 0} → List ℕ → Result ⊤ ErrorCode → Option X → Course (Option (List ℕ)) → Type 0
IsReorderReported path (Ok done) None writes = writes.after ≡ writes.before
IsReorderReported path (Ok done) (Some judged) writes = IsWrittenIfRoom (reordered_line path) writes
IsReorderReported path (Err f) judged writes = Reports writes
