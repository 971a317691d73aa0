-- What was opened over a database says of that, and what comes of a desk over files whose reads are tested.
use Rattle.std.proofs.Common.{◌≡◌, ◌≤◌, ℕ, Option, None, Some, Result, Ok, Err, IfOk, IfErr, Bool, IsTrue, inl, inr, refl, sym, ◌∙◌, subst, arith}
use Rattle.sqlite_trees.specs.View.{doubt}
use Rattle.sqlite_trees.specs.declared.store.Store.{Ghosts}
use Rattle.sqlite_disk.specs.declared.Disk as disk
use Rattle.sqlite_disk.specs.Events.{replay}
use Rattle.sqlite_wal.specs.Reads.{AreClean}
use Rattle.sqlite_store.specs.declared.store.FileStore.{FileStore}
use Rattle.sqlite.specs.Files.{file_state, over_files}
use Rattle.sqlite.specs.Closing.{IsCopied}
use Rattle.sqlite.proofs.Shield.{shield_means}
use Rattle.desk_rules.specs.Outcome.{no_terms}
use Rattle.desk_run.specs.Verdicts.{Parts}
use Rattle.desk_tables.specs.Store.{Shown, IsLeftUnclosed}
use Rattle.desk_cli.specs.declared.failure.ErrorCode.{ErrorCode}
use Rattle.desk_cli.specs.Exits.{Ending}
use Rattle.desk_cli.specs.declared.line.Database.{Database}
use Rattle.table_load.specs.Files.{IsGuarded}
use Rattle.uss_desk.specs.FilesLeft.{IsClosed, IsEnded, IsPastOf, IsTrueOrCollided, Past}
use Rattle.std.specs.Option.{IsSomeAnd}
use Rattle.desk_admin.specs.declared.unopened.OpenError.{OpenError}
use Rattle.uss_desk.specs.declared.watching.CloseReport.{CloseReport}
use Rattle.uss_desk.specs.OpenedFor.{AreReadsTested, RemembersDesk, StaysGuarded}

-- a flag that is up leaves no doubt
no_doubt : (clean : Bool) → IsTrue clean → doubt clean ≡ 0
unfolding doubt
no_doubt clean up = subst (λ b. doubt b ≡ 0) (sym up) refl

-- what a shield means of a desk over files whose calls are recorded
true_or_collided : {D : Type 0} {g : disk.Ghosts D} (past : Past D)
    → ((d : D) → g.is_fair d ≡ (replay (past.start d) (past.calls d)).is_fair)
    → ((d : D) → g.is_clean d ≡ (replay (past.start d) (past.calls d)).is_honest)
    → (desk : Parts (Shown (FileStore D g))) → (file_state desk.store.held).IsShielded
    → IsTrueOrCollided past desk
true_or_collided past fair clean desk shielded =
    elim (shield_means past.start past.calls fair clean desk.store.held.store shielded) [
      | inl up ↦ inl (no_doubt (file_state desk.store.held).is_clean up)
      | inr collided ↦ inr collided
    ]

-- a desk that was opened by honest reads stays guarded, if each later read of it was tested, and is
pub stays_guarded : {D : Type 0} {g : disk.Ghosts D} (past : Past D) → IsPastOf g past
    → (opened : Result (Parts (Shown (FileStore D g))) ErrorCode)
    → (left : Option (Parts (Shown (FileStore D g)))) → AreReadsTested opened
    → IfOk opened (λ desk. IsSomeAnd left (λ left. (file_state desk.store.held).IsShielded
    → (file_state left.store.held).IsShielded))
    → StaysGuarded past opened left
stays_guarded past is (Ok desk) (Some left) tested shield =
    λ honest. true_or_collided past is.fair is.clean left (shield (tested honest))
stays_guarded past is (Ok desk) None tested shield = shield
stays_guarded past is (Err failure) left tested shield = tt

none_left : {a b : ℕ} → a ≤ b → b ≡ 0 → a ≡ 0
none_left below none = omega (arith, below, none)

-- a desk each later read of which is tested is one still, after calls that keep what is known of its disk
stays_tested : {D : Type 0} {g : disk.Ghosts D} (old new : Parts (Shown (FileStore D g)))
    → RemembersDesk over_files old new → IsGuarded old.store.held → IsGuarded new.store.held
stays_tested old new kept tested clean = kept.shield (tested (none_left kept.doubt clean))

-- and so is one that was made anew of its store
pub tested_anew : {D : Type 0} {g : disk.Ghosts D} (old new made : Parts (Shown (FileStore D g)))
    → RemembersDesk over_files old new → made ≡ record { store = new.store; terms = no_terms }
    → IsGuarded old.store.held → IsGuarded made.store.held
tested_anew old new made kept same tested =
    subst (λ desk. IsGuarded desk.store.held) (sym same) (stays_tested old new kept tested)

-- what follows of what holds of a value, if there is one
pub ok_then : {A B : Type 0} {P Q : A → Type 0} (r : Result A B) → IfOk r P → ((a : A) → P a → Q a)
    → IfOk r Q
ok_then (Ok a) h then = then a h
ok_then (Err e) h then = tt

pub some_then : {A : Type 0} {P Q : A → Type 0} (o : Option A) → IsSomeAnd o P → ((a : A) → P a → Q a)
    → IsSomeAnd o Q
some_then (Some a) h then = then a h
some_then None h then = h

-- a desk whose store was closed, by what the store is
pub is_closed : {D : Type 0} {g : disk.Ghosts D} (desk : Parts (Shown (FileStore D g)))
    → (store : Shown (FileStore D g)) (closed : CloseReport D g) (status : ℕ) (end : Ending)
    → store ≡ desk.store → IsEnded closed.files closed.are_at_paths status end
    → IfOk closed.files (λ files. AreClean g files.log files.db → IsCopied store.held files)
    → IfErr closed.files (IsLeftUnclosed store.held) → IsClosed (Some desk) status end (Some closed)
is_closed {D} {g} desk store closed status end same ended copied left = (
  ended,
  (
    subst (λ s. IfOk closed.files (λ files. AreClean g files.log files.db → IsCopied s.held files)) same
        copied,
    subst (λ s. IfErr closed.files (IsLeftUnclosed s.held)) same left,
  ),
)
