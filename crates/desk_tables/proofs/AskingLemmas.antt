-- Questions of the spans of others, one after the other over a connection.
use Rattle.std.proofs.Common.{◌≡◌, ◌<◌, ℕ, ◌+◌, Bool, List, [], ◌++◌, length, take, get_or, Result, Ok, Err, IfOk, OnOk, IsTrue, refl, sym, ap, subst, ◌∙◌, arith}
use Rattle.std.proofs.lemmas.List.{take_more}
use Rattle.std.proofs.lemmas.List.Sorted.{IsPermutation-refl}
use Rattle.sqlite_trees.specs.declared.store.Store.{Ghosts}
use Rattle.sqlite_value.specs.Order.{Row}
use Rattle.sqlite.specs.State.{HasCleanDisk}
use Rattle.sqlite.specs.Held.{state}
use Rattle.volume4d.specs.declared.slab.Held.{Held as One}
use Rattle.desk_sql.specs.Effects.{OnlyReads}
use Rattle.desk_sql.specs.Rows.{tables_of}
use Rattle.row_codec.specs.RowsRead.{HasTakenHelds, HaveTaken, HaveTakenAll}
use Rattle.desk_tables.specs.Store.{spans_shown, HeldWorld}
use Rattle.table_load.specs.Opening.{Stands}
use Rattle.desk_tables.proofs.HeldLemmas.{all_taken}
use Rattle.table_load.proofs.lemmas.Frame.{reads_itself, reads_then}

module _ {S : Type 0} (g : Ghosts S) where
  -- some queries are answered, and nothing was changed
  pub record IsAsking {Q : Type 0} (old new : HeldWorld S) (asked : Q → Row → Bool) (queries : List Q)
      (helds : List One) : Type 0
    where
      pub same : new.world ≡ old.world
      pub reads : OnlyReads g old.held new.held
      pub opened : HasCleanDisk (state g new.held) → 0 < length queries → IsTrue (state g old.held).is_open
      pub taken : HasCleanDisk (state g new.held) → HaveTakenAll asked queries (spans_shown g old) helds

  module _ {Q : Type 0} (asked : Q → Row → Bool) where
    pub asking_begins : (t : HeldWorld S) (helds : List One) → Stands g t.held t.world → helds ≡ []
        → IsAsking t t asked [] helds
    asking_begins t helds stands none = record {
      same = refl;
      reads = reads_itself g t.held stands.settled;
      opened = λ clean some. absurd (omega (arith, some));
      taken = λ clean. (
        [],
        IsPermutation-refl [],
        subst (λ hs. HasTakenHelds hs []) (sym none) tt,
      );
    }

    module _ (old mid new : HeldWorld S) (all : List Q) (i : ℕ) (d : Q) (helds more : List One)
        (before : IsAsking old mid asked (take i all) helds) (same : new.world ≡ mid.world)
        (reads : OnlyReads g mid.held new.held) where
      was_clean : HasCleanDisk (state g new.held) → HasCleanDisk (state g mid.held)
      was_clean clean = omega (arith, reads.doubt, clean)

      pub asking_on : i < length all → (HasCleanDisk (state g new.held) → IsTrue (state g mid.held).is_open)
          → (HasCleanDisk (state g new.held) → HaveTaken (asked (get_or all i d)) (spans_shown g mid) more)
          → IsAsking old new asked (take (i + 1) all) (helds ++ more)
      asking_on within live taken = record {
        same = same ∙ before.same;
        reads = reads_then g old.held mid.held new.held before.reads reads;
        opened = λ clean some. (before.reads.kept (was_clean clean) (live clean)).was_open;
        taken = λ clean.
            let shown = ap (λ db. (tables_of db.trees).spans)
            (before.reads.kept (was_clean clean) (live clean)).now in
            subst (λ queries. HaveTakenAll asked queries (spans_shown g old) (helds ++ more))
            (sym (take_more all i d within))
            (all_taken asked (spans_shown g old) (take i all) (get_or all i d)
            helds more (before.taken (was_clean clean))
            (subst (λ spans. HaveTaken (asked (get_or all i d)) spans more) shown (taken clean)));
      }

pub both_ok : {V E A : Type 0} {P Q : V → Type 0} (r : Result V E) → OnOk r A → IfOk r P
    → ((v : V) → A → P v → Q v) → IfOk r Q
both_ok (Ok v) a p gives = gives v a p
both_ok (Err e) a p gives = tt
