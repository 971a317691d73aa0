-- What a look and a copy come to.
use Rattle.std.proofs.Common.{◌≡◌, ℕ, List, [], ◌++◌, Option, None, Some, Result, Ok, Err, IfErr, IfOk, inl, inr, refl, sym, subst}
use Rattle.std.specs.Option.{IsSomeAnd}
use Rattle.sqlite_disk.specs.declared.Disk as disk
use Rattle.sqlite_disk.specs.declared.Files.{Files}
use Rattle.sqlite_wal.specs.Reads.{AreClean}
use Rattle.sqlite_wal.specs.Recovery.{Image}
use Rattle.sqlite_store.specs.declared.store.FileStore.{FileStore}
use Rattle.sqlite.specs.Closing.{IsCopied as IsClosedInto}
use Rattle.sqlite.specs.Files.{over_files}
use Rattle.sqlite.specs.Held.{Held}
use Rattle.desk_store.specs.World.{World}
use Rattle.desk_wire.specs.Streams.{course}
use Rattle.desk_cli.specs.Exits.{Ending, FailsWith}
use Rattle.desk_program.specs.declared.looking.CheckedFile.{CheckedFile}
use Rattle.table_load.specs.Moving.{AreStatsOf}
use Rattle.desk_tables.specs.Copying.{IsMadeIn, LooksIn, AreNotCopied, AreNotRead}
use Rattle.table_load.specs.Files.{IsSettledAt}
use Rattle.desk_tables.specs.Store.{Shown, IsLeftUnclosed}
use Rattle.table_load.specs.declared.looking.DbStats.{DbStats}
use Rattle.desk_cli.specs.declared.failure.ErrorCode.TheVariants as failure
use Rattle.desk_cli.specs.declared.line.Database.{Database}
use Rattle.desk_tables.specs.declared.closing.CheckpointError.{CheckpointError}
use Rattle.desk_tables.specs.declared.opening.files.CopyFault.{CopyFault}
use Rattle.desk_tables.specs.declared.opening.files.FilesFault.{FilesFault}
use Rattle.desk_admin.specs.declared.unopened.OpenError.{OpenError}
use Rattle.desk_admin.specs.FilesReported.{CopyEnd, FailsAtFiles, FailsBy, FailsToCopy, FailsToLook, FailsToRead, IsAsCopied, IsCopyMade, IsNamedIf, IsNamedNow, IsReadAs, IsUncopied, IsUnreported, ReportsHoldings, open_failure}
use Rattle.host_files.specs.Naming.{Reports, Follows, Step, Steps, Synced, free_steps, named_steps}
use Rattle.desk_admin.specs.ScratchCopies.{IsStoredAs}
use Rattle.host_files.proofs.lemmas.Naming.{failed_after, follows_both, unnamed_after}
use Rattle.desk_admin.proofs.UnopenedLemmas.{fails_over}

-- what refused the files refuses them in the program
pub refused_fails : {D : Type 0} {g : disk.Ghosts D} (image : Image) (it : OpenError D g)
    (refused : FilesFault D g) → it.failure ≡ open_failure refused.fault
    → IsSomeAnd it.refused (λ s. s.value ≡ refused)
    → AreNotRead image refused.fault refused.connection → FailsToRead image it
refused_fails image it refused failure same says =
    inr (fails_over (λ files. AreNotRead image files.fault files.connection) it refused failure same says)

-- what is not read in a file is not reported of a database
pub look_fails : {D V : Type 0} {g : disk.Ghosts D} (image : Image) (database : Database)
    (r : Result V (OpenError D g)) → IfErr r (FailsToRead image)
    → IfErr r (FailsToLook image database)
look_fails image database (Ok v) fails = tt
look_fails image database (Err it) fails = inr fails

module _ {D : Type 0} {g : disk.Ghosts D} (image : Image) (database : Database)
    (it : OpenError D g)
  where
    -- a failure is reported after its cause, and nothing is printed
    pub unreported : (end : Ending) (between out : Option (List ℕ)) → FailsToLook image database it
        → Reports (course end.before between) → FailsWith it.failure (record end { before = between })
        → IsUnreported image database end it (course out out)
    unreported end between out look cause fails = record {
      look = look;
      reported = record { between = between; cause = cause; fails = fails };
      unprinted = refl;
    }

module _ {D E : Type 0} {g : disk.Ghosts D} {k : disk.Ghosts E} (image other : Image) where
  -- files that are refused are not copied
  pub refused_copy : (it : CopyEnd g k) (fault : CopyFault D E g k)
      → FailsBy fault it → AreNotCopied image other fault → FailsAtFiles {g = g} {k = k} image other it
  refused_copy it fault by are = inl (record { fault = fault; by = by; are = are })

  -- nor is what can't be closed
  pub fails_closing : (store : Shown (FileStore E k)) (unclosed : CheckpointError E k) → IsMadeIn other store.held
      → IsLeftUnclosed store.held unclosed
      → FailsAtFiles {g = g} {k = k} image other
      (record { failure = failure.Store; unread = None; unmade = None; unclosed = Some unclosed })
  fails_closing store unclosed made left =
      inr (record { held = store.held; failure = refl; made = made; left = left })

  pub uncopied : (database : Database) (steps : Steps) (end : Ending) (it : CopyEnd g k)
      (between out : Option (List ℕ)) → FailsToCopy {g = g} {k = k} image other database steps it
      → Reports (course end.before between) → FailsWith it.failure (record end { before = between })
      → IsUncopied {g = g} {k = k} image other database
      (record { steps = steps; writes = course out out; end = end }) it
  uncopied database steps end it between out why cause fails = record {
    why = why;
    reported = record { between = between; cause = cause; fails = fails };
    unprinted = refl;
  }

-- what was made is made, if it gets its name
pub made_on : {A B : Type 0} (P : A → Type 0) (copied r : Result A B) → IfOk copied P
    → IfOk r (λ it. copied ≡ Ok it) → IfOk r P
made_on P copied (Ok it) made is = subst (λ c. IfOk c P) is made
made_on P copied (Err e) made is = tt

-- what fails after steps that found nothing at its names
module _ (old mid new : Option (List Step)) (to : List ℕ) (free : Follows (course old mid) (free_steps to))
  where
    pub copy_fails : {D E W : Type 0} {g : disk.Ghosts D} {k : disk.Ghosts E} (image other : Image)
        (database : Database) (copied : Result W (CopyEnd g k)) (r : Result W (CopyEnd g k))
        → IfErr copied (FailsAtFiles image other) → IfErr r (IsAsCopied copied (course mid new))
        → IfErr r (FailsToCopy image other database (course old new))
    copy_fails image other database copied (Ok v) fails why = tt
    copy_fails image other database copied (Err e) fails why = elim why [
      | inl is ↦ inr (inr (inr (subst (λ c. IfErr c (FailsAtFiles image other)) is fails)))
      | inr half ↦ inr (inr (inl (failed_after old mid new (free_steps to) free half.0, half.1)))
    ]

    pub named_if : {A B : Type 0} (r : Result A B) → IsNamedNow r to (course mid new)
        → IsNamedIf r to (course old new)
    named_if (Ok v) named = follows_both old mid new (free_steps to) (named_steps to (Synced to)) free named
    named_if (Err e) unnamed = unnamed_after old mid new to free unnamed

-- what was read is reported as it was counted
pub read_as : {D : Type 0} {g : disk.Ghosts D} (image : Image) (left : Held (FileStore D g))
    (file : CheckedFile) (holdings : DbStats) → file.is_old ≡ holdings.is_old
    → ((w : World) → AreStatsOf holdings w → ReportsHoldings file w)
    → ((w : World) × AreStatsOf holdings w × LooksIn image left holdings.is_old w)
    → IsReadAs image left file
read_as {g = g} image left file holdings same counted found = record {
  w = found.0;
  reported = counted found.0 found.1;
  looks = subst (λ b. LooksIn {g = g} image left b found.0) (sym same) found.2;
}

-- what is known of a copy, apart and together
pub stored_as : {D E : Type 0} {g : disk.Ghosts D} {k : disk.Ghosts E} (image other : Image)
    (r : Result (Held (FileStore D g) × (Shown (FileStore E k) × DbStats)) (CopyFault D E g k))
    → IfOk r (λ c. AreStatsOf c.1.1 c.1.0.world × LooksIn image c.0 c.1.1.is_old c.1.0.world)
    → IfOk r (λ c. IsMadeIn other c.1.0.held)
    → IfOk r (λ c. IsSettledAt over_files c.1.0.held c.1.0.world)
    → IfOk r (IsStoredAs image other)
stored_as image other (Ok c) looks made settled =
    record { counted = looks.0; looks = looks.1; made = made; settled = settled }
stored_as image other (Err e) looks made settled = tt

-- a store of a content was made in new files and closed
pub copy_made : {D E : Type 0} {g : disk.Ghosts D} (k : disk.Ghosts E) (image other : Image)
    (left : Held (FileStore D g)) (files : Files E) (counts : DbStats) (store : Shown (FileStore E k))
    → IsStoredAs image other (left, (store, counts))
    → (AreClean k files.log files.db → IsClosedInto store.held files)
    → IsCopyMade k image other (left, (files, counts))
copy_made k image other left files counts store stored closed = record {
  w = store.world;
  held = store.held;
  counted = stored.counted;
  looks = stored.looks;
  made = stored.made;
  settled = stored.settled;
  closed = closed;
}
