-- What a copy by a scratch copy comes to.
use Rattle.std.proofs.Common.{◌≡◌, ℕ, List, Option, subst}
use Rattle.sqlite_disk.specs.declared.Disk as disk
use Rattle.sqlite_wal.specs.Recovery.{Image}
use Rattle.desk_wire.specs.Streams.{course}
use Rattle.desk_cli.specs.declared.line.Database.{Database}
use Rattle.desk_cli.specs.Exits.{ending}
use Rattle.desk_cli.specs.declared.failure.ExitReport.{ExitReport}
use Rattle.desk_admin.specs.FilesReported.{CopyOutcome, IsCopied}
use Rattle.host_files.specs.Naming.{Steps}

-- what was reported before a copy is as it was before its scratch copy was made
pub copied_from : {D E X : Type 0} {g : disk.Ghosts D} {k : disk.Ghosts E} (image other : Image)
    (database : Database) (steps : Steps) (exit : ExitReport X) (before after reported out now : Option (List ℕ))
    (copied : CopyOutcome g k) → after ≡ before
    → IsCopied image other database
    (record { steps = steps; writes = course out now; end = ending exit after reported }) copied
    → IsCopied image other database
    (record { steps = steps; writes = course out now; end = ending exit before reported }) copied
copied_from image other database steps exit before after reported out now copied is it =
    subst (λ b. IsCopied image other database
    (record { steps = steps; writes = course out now; end = ending exit b reported }) copied) is it
