-- What is read of a database in either schema is what it showed before.
use Rattle.std.proofs.Common.{◌≡◌, Bool, Result, Ok, Err, IfOk, IfErr, subst, sym, arith}
use Rattle.sqlite_disk.specs.declared.Disk as disk
use Rattle.sqlite_wal.specs.Recovery.{Image}
use Rattle.sqlite_trees.specs.declared.store.Store.{Ghosts}
use Rattle.sqlite_store.specs.declared.store.FileStore.{FileStore}
use Rattle.sqlite_trees.specs.View.{doubt}
use Rattle.sqlite.specs.State.{HasCleanDisk}
use Rattle.sqlite.specs.Held.{Held}
use Rattle.sqlite.specs.Files.{file_state, over_files}
use Rattle.desk_sql.specs.Schema.{blank_schema}
use Rattle.table_load.specs.Files.{Finds}
use Rattle.desk_tables.specs.Store.{Shown}
use Rattle.table_load.specs.OpeningSteps.{IsAdopted}
use Rattle.table_load.specs.Moving.{AreStatsOf}
use Rattle.desk_tables.specs.Copying.{AreNotCopied, IsMadeIn, IsUnmadeOf, LooksIn}
use Rattle.desk_tables.specs.declared.opening.files.CopyFault.{CopyFault}
use Rattle.desk_tables.specs.declared.opening.files.CopyFault.TheVariants as copy
use Rattle.table_load.specs.declared.looking.DbStats.{DbStats}
use Rattle.desk_store.specs.World.{World}

-- ---- over files

module _ {D : Type 0} {g : disk.Ghosts D} (image : Image) where
  -- a store that was made over a connection to files was made in these files
  pub made_files : (a : Held (FileStore D g)) (store : Shown (FileStore D g)) → Finds image a
      → (HasCleanDisk (file_state store.held) → (file_state a).now.schema ≡ blank_schema)
      → IsAdopted (over_files {D = D} {g = g}) a store.held store.world → IsMadeIn image store.held
  made_files a store finds blank adopted = record {
    found = a;
    doubt = adopted.doubt;
    opened = λ clean. finds.first (omega (arith, adopted.doubt, clean));
    blank = blank;
    guarded = λ clean. adopted.shield (finds.guarded clean);
    summed = finds.summed;
    live = adopted.live;
  }

-- what was read is looked at as it is copied
pub copied_looks : {D E F : Type 0} {g : disk.Ghosts D} {k : disk.Ghosts E} (image : Image)
    (r : Result (Held (FileStore D g) × (Shown (FileStore E k) × DbStats)) F) (left : Held (FileStore D g))
    (w : World) (old : Bool) → IfOk r (λ x. x.0 ≡ left) → IfOk r (λ x. x.1.0.world ≡ w)
    → IfOk r (λ x. AreStatsOf x.1.1 w) → IfOk r (λ x. x.1.1.is_old ≡ old) → LooksIn image left old w
    → IfOk r (λ x. AreStatsOf x.1.1 x.1.0.world × LooksIn image x.0 x.1.1.is_old x.1.0.world)
copied_looks image (Err e) left w old same world counted schema looks = tt
copied_looks {g = g} image (Ok x) left w old same world counted schema looks = (
  subst (AreStatsOf x.1.1) (sym world) counted,
  subst (λ h. LooksIn {g = g} image h x.1.1.is_old x.1.0.world) (sym same)
      (subst (λ b. LooksIn {g = g} image left b x.1.0.world) (sym schema)
      (subst (LooksIn {g = g} image left old) (sym world) looks)),
)

-- what was read is left as it was read if no copy is made
pub unmade_left : {D E R : Type 0} {g : disk.Ghosts D} {k : disk.Ghosts E} (image other : Image)
    (r : Result R (CopyFault D E g k)) (left : Held (FileStore D g)) (w : World) (old : Bool)
    → IfErr r (IsUnmadeOf other left) → LooksIn image left old w → IfErr r (AreNotCopied image other)
unmade_left image other (Ok x) left w old unmade looks = tt
unmade_left image other (Err (copy.Unread it)) left w old unmade looks = absurd unmade
unmade_left {g = g} image other (Err (copy.Unmade it source)) left w old unmade looks = (
  unmade.0,
  record {
    schema = old;
    content = w;
    looks = subst (λ h. LooksIn {g = g} image h old w) (sym unmade.1) looks;
  },
)
