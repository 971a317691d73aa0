-- What a call leaves of a watched store, by what it leaves of the store within.
use Rattle.std.proofs.Common.{◌≡◌, ℕ, ◌+◌, subst, arith}
use Rattle.sqlite_trees.specs.View.{doubt}
use Rattle.sqlite_trees.specs.declared.store.Store.{Ghosts}
use Rattle.sqlite.specs.Held.{state}
use Rattle.desk_store.specs.Changes.{OnlyReads}
use Rattle.table_load.specs.Files.{MayLeave}
use Rattle.desk_tables.specs.Store.{Shown}

-- a store, with the changes that were refused among its faults
abbrev pub with_refused : {S : Type 0} → Shown S → ℕ → Shown S
with_refused s refused = record { held = s.held; world = s.world; faults = s.faults + refused }

-- a store over tables was only read
abbrev pub IsRead : {S : Type 0} → Ghosts S → Shown S → Shown S → Type 0
IsRead g = OnlyReads (λ s. s.world) (λ s. doubt (state g s.held).is_clean) (λ s. s.faults)
    (λ s found. MayLeave g s.held found) (λ s. (state g s.held).IsShielded)

-- so is a watched one, if the store within was
pub reads_within : {S : Type 0} (g : Ghosts S) (old new now : Shown S) (refused : ℕ)
    → with_refused old refused ≡ now → IsRead g old new → IsRead g now (with_refused new refused)
reads_within g old new now refused same reads =
    subst (λ s. IsRead g s (with_refused new refused)) same (record {
      same = reads.same;
      crash = reads.crash;
      doubt = reads.doubt;
      counted = omega (arith, reads.counted);
      shield = reads.shield;
    })
