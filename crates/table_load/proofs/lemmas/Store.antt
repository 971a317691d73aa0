-- What stands after a query, and what its answer is of the world.
use Rattle.std.proofs.Common.{◌≡◌, ◌≤◌, ◌∙◌, None, false, List, [], ◌∷◌, Result, Ok, Err, IfOk, IsOk, OnOk, refl, sym, subst, arith, IsTrue, IsPermutation}
use Rattle.std.specs.List.Sorted.{IsStrictlySortedBy}
use Rattle.std.proofs.lemmas.List.Sorted.{IsPermutation-refl, length_permutation}
use Rattle.sqlite_trees.specs.declared.store.Store.{Ghosts}
use Rattle.sqlite_trees.specs.View.{doubt}
use Rattle.sqlite_value.specs.Order.{Row}
use Rattle.sqlite.specs.State.{HasCleanDisk}
use Rattle.sqlite.specs.Held.{Held, state}
use Rattle.desk_sql.specs.Rows.{IsDesk, tables_of, no_rows}
use Rattle.desk_sql.specs.Effects.{StaysShown, OnlyReads}
use Rattle.desk_sql.specs.Changing.{Completes}
use Rattle.desk_sql.specs.declared.opening.finding.TablesPresent.TheVariants.{Nothing}
use Rattle.desk_store.specs.World.{World, IsContent}
use Rattle.row_codec.specs.Tables.{AreTables}
use Rattle.table_load.specs.Opening.{IsDatabaseOf, Stands, IsContentOf}

module _ {S : Type 0} (g : Ghosts S) (old new : Held S) (w : World) (stood : Stands g old w) where
  -- a query leaves what stands
  pub still_stands : OnlyReads g old new → Stands g new w
  still_stands reads = record {
    settled = reads.mode;
    unlimited = reads.limit ∙ stood.unlimited;
    standing = λ clean live. standing clean live;
  }
    where
      standing : HasCleanDisk (state g new) → IsTrue (state g new).is_open → IsDatabaseOf g new w
      standing clean live =
          let shows = reads.kept clean live in
          let before = stood.standing (omega (arith, reads.doubt, clean)) shows.was_open in
          record {
            content = before.content;
            desk = subst IsDesk (sym shows.now) before.desk;
            tables = subst (λ db. AreTables (tables_of db.trees) w) (sym shows.now) before.tables;
          }

  -- so does a refusal that keeps what was there
  pub kept_stands : new.in_transaction ≡ false → new.step_limit ≡ old.step_limit
      → doubt (state g old).is_clean ≤ doubt (state g new).is_clean → StaysShown g old new → Stands g new w
  kept_stands settled limit rises kept = record {
    settled = settled;
    unlimited = limit ∙ stood.unlimited;
    standing = λ clean live.
        let shows = kept clean live in
        let before = stood.standing (omega (arith, rises, clean)) shows.was_open in
        record {
          content = before.content;
          desk = subst IsDesk (sym shows.now) before.desk;
          tables = subst (λ db. AreTables (tables_of db.trees) w) (sym shows.now) before.tables;
        };
  }

pub no_row : (rows : List Row) → IsPermutation [] rows → rows ≡ []
no_row [] same = refl
no_row (r ∷ rows) same = absurd (omega (arith, length_permutation [] (r ∷ rows) same))

-- ---- tables with no row

abbrev pub nothing : World
nothing = record { operators = []; plans = [] }

nothing_is_content : IsContent nothing
unfolding IsStrictlySortedBy
nothing_is_content = record {
  world = record {
    operators = tt;
    plans = tt;
    listed = tt;
    rows = λ o. omega arith;
    ceilings = tt;
    priorities = tt;
  };
  names = tt;
  rows = tt;
}

nothing_has_no_rows : AreTables no_rows nothing
nothing_has_no_rows = record {
  old = record { volumes = refl; spans = refl };
  operators = IsPermutation-refl [];
  plans = IsPermutation-refl [];
  volumes = IsPermutation-refl [];
  covers = IsPermutation-refl [];
  spans = ([], refl, IsPermutation-refl []);
}

pub nothing_holds : IsContentOf no_rows nothing
nothing_holds = record { content = nothing_is_content; tables = nothing_has_no_rows }

-- tables that were made stand for no operators and no plans
pub made_stands : {S : Type 0} (g : Ghosts S) (old new : Held S) → new.in_transaction ≡ false
    → new.step_limit ≡ None → (HasCleanDisk (state g new) → Completes g Nothing old new)
    → Stands g new nothing
made_stands g old new mode unlimited done = record {
  settled = mode;
  unlimited = unlimited;
  standing = λ clean live. record {
    content = nothing_is_content;
    desk = (done clean).desk;
    tables = subst (λ t. AreTables t nothing) (sym (done clean).same) nothing_has_no_rows;
  };
}

-- what holds by itself
pub on_any : {V E A : Type 0} (result : Result V E) → A → OnOk result A
on_any (Ok v) holds = holds
on_any (Err e) holds = tt

-- what holds where something was taken to its end, of what is answered then alone
pub on_whole : {V E F A : Type 0} (P : V → Type 0) (taken : Result (Unit {0}) E) (result : Result V F)
    → OnOk result (IsOk taken) → OnOk taken A → (A → IfOk result P) → IfOk result P
on_whole P (Ok u) result whole holds gives = gives holds
on_whole P (Err e) (Ok v) whole holds gives = cc
on_whole P (Err e) (Err f) whole holds gives = tt
