-- With which failures a file is not put in order.
use Rattle.std.specs.Bool.{⊤}
use Rattle.std.proofs.Common.{◌≡◌, ℕ, Bool, List, Option, None, Some, Result, Ok, Err, IfErr, inl, inr, sym, subst}
use Rattle.sqlite_disk.specs.declared.Disk as disk
use Rattle.sqlite_wal.specs.Recovery.{Image}
use Rattle.sqlite_store.specs.declared.store.FileStore.{FileStore}
use Rattle.sqlite.specs.Held.{Held}
use Rattle.desk_wire.specs.Streams.{course}
use Rattle.desk_cli.specs.Exits.{IsLineBreakdown}
use Rattle.desk_cli.specs.declared.failure.ErrorCode.{ErrorCode}
use Rattle.table_load.specs.declared.fault.OpenFault.TheVariants as opening
use Rattle.host_files.specs.Naming.{Steps}
use Rattle.desk_host.specs.declared.ways.ReadMode.{ReadMode}
use Rattle.desk_host.specs.declared.ways.ReadMode.TheVariants as way
use Rattle.desk_admin.specs.FilesReported.{FailsToRead, IsOpenFailure}
use Rattle.desk_admin.specs.ScratchCopies.{IsAdmitted, IsLeftAlone, IsOrderedIf, IsReordered, IsReorderedIf}
use Rattle.desk_admin.specs.declared.unopened.OpenError.{OpenError}

-- memory ran out, or the store failed
broken_down : (f : ErrorCode) → IsLineBreakdown f → IsOpenFailure f
broken_down f (inl memory) = (opening.OutOfMemory, memory)
broken_down f (inr store) = (opening.Store, store)

-- a file is put in order, or not, once its scratch copy was admitted, or not
ordered : (path : List ℕ) (admitted done : Result ⊤ ErrorCode) (steps : Steps)
    → IfErr admitted IsOpenFailure → IsOrderedIf path admitted done steps → IfErr done IsOpenFailure
ordered path (Ok it) (Ok done) steps fails is = tt
ordered path (Ok it) (Err f) steps fails is = (opening.Store, is.0)
ordered path (Err f) done steps fails is = subst (λ r. IfErr r IsOpenFailure) (sym is.0) fails

module _ {D : Type 0} {g : disk.Ghosts D} (image : Image) where
  unread : (it : OpenError D g) → FailsToRead {g = g} image it → IsOpenFailure it.failure
  unread it (inl unasked) = (opening.OutOfMemory, unasked.failure)
  unread it (inr refused) = (refused.files.fault, refused.failure)

  admitted : (takes : Bool) (done : Result ⊤ ErrorCode)
      (judged : Result (Held (FileStore D g)) (OpenError D g)) → IsAdmitted {g = g} image takes done judged
      → IfErr done IsOpenFailure
  admitted takes (Ok it) judged is = tt
  admitted takes (Err f) (Ok left) is = (opening.OldSchema, is.failure)
  admitted takes (Err f) (Err it) is = subst (λ r. IfErr r IsOpenFailure) (sym is.1) (unread it is.0)

  reordered : (path : List ℕ) (takes : Bool) (done : Result ⊤ ErrorCode)
      (judged : Option (Result (Held (FileStore D g)) (OpenError D g))) (steps : Steps)
      → IsReordered {g = g} image path takes done judged steps → IfErr done IsOpenFailure
  reordered path takes done (Some judged) steps is =
      let it = is.ordered in
      ordered path it.admitted done (course it.between steps.after)
      (admitted takes it.admitted judged it.is) it.ordered
  reordered path takes (Ok done) None steps is = tt
  reordered path takes (Err f) None steps is = broken_down f is.0

  left_alone : (path : List ℕ) (takes : Bool) (done : Result ⊤ ErrorCode)
      (judged : Option (Result (Held (FileStore D g)) (OpenError D g))) (steps : Steps)
      → IsLeftAlone {g = g} image path takes done judged steps → IfErr done IsOpenFailure
  left_alone path takes done judged steps is = subst (λ r. IfErr r IsOpenFailure) (sym is.0) tt

  -- a file that is not put in order is refused as by an opening
  pub reorder_fails : (path : List ℕ) (takes : Bool) (mode : ReadMode) (done : Result ⊤ ErrorCode)
      (judged : Option (Result (Held (FileStore D g)) (OpenError D g))) (steps : Steps)
      → IsReorderedIf {g = g} image path takes mode done judged steps → IfErr done IsOpenFailure
  reorder_fails path takes way.OtherOrder done judged steps is = reordered path takes done judged steps is
  reorder_fails path takes way.Itself done judged steps is = left_alone path takes done judged steps is
  reorder_fails path takes way.Damaged done judged steps is = left_alone path takes done judged steps is
  reorder_fails path takes (way.BadChecksums pages) done judged steps is =
      left_alone path takes done judged steps is
