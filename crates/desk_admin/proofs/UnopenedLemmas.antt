-- What refused files says of a database that isn't opened.
use Rattle.std.proofs.Common.{◌≡◌}
use Rattle.std.specs.Option.{IsSomeAnd}
use Rattle.sqlite_disk.specs.declared.Disk as disk
use Rattle.desk_tables.specs.declared.opening.files.FilesFault.{FilesFault}
use Rattle.desk_admin.specs.declared.unopened.OpenError.{OpenError}
use Rattle.desk_admin.specs.FilesReported.{FailsOver, open_failure}

-- what refused files refuses them in the program
pub fails_over : {D : Type 0} {g : disk.Ghosts D} (Refused : FilesFault D g → Type 0) (it : OpenError D g)
    (refused : FilesFault D g)
    → it.failure ≡ open_failure refused.fault → IsSomeAnd it.refused (λ s. s.value ≡ refused)
    → Refused refused → FailsOver Refused it
fails_over Refused it refused failure same says = record {
  files = refused;
  are = same;
  failure = failure;
  refused = says;
}
