-- What queries leave of a connection, one after the other.
use Rattle.std.proofs.Common.{◌≡◌, ◌≤◌, false, refl, ◌∙◌, arith}
use Rattle.sqlite_trees.specs.declared.store.Store.{Ghosts}
use Rattle.sqlite_trees.specs.View.{doubt}
use Rattle.sqlite.specs.Held.{Held, state}
use Rattle.desk_sql.specs.Effects.{StaysShown, OnlyReads}

module _ {S : Type 0} (g : Ghosts S) where
  -- what is kept twice is kept
  pub kept_on : (a b c : Held S) → StaysShown g a b → StaysShown g b c
      → doubt (state g b).is_clean ≤ doubt (state g c).is_clean → StaysShown g a c
  kept_on a b c one two rises = λ clean live.
      let after = two clean live in
      let before = one (omega (arith, rises, clean)) after.was_open in record {
        was_open = before.was_open;
        now = after.now ∙ before.now;
        committed = after.committed ∙ before.committed;
      }

  pub reads_itself : (h : Held S) → h.in_transaction ≡ false → OnlyReads g h h
  reads_itself h settled = record {
    kept = λ clean live. record { was_open = live; now = refl; committed = refl };
    mode = settled;
    limit = refl;
    doubt = omega arith;
    faults = omega arith;
    shield = λ s. s;
    spared = λ clean db left. left;
  }

  pub reads_then : (a b c : Held S) → OnlyReads g a b → OnlyReads g b c → OnlyReads g a c
  reads_then a b c one two = record {
    kept = kept_on a b c one.kept two.kept two.doubt;
    mode = two.mode;
    limit = two.limit ∙ one.limit;
    doubt = omega (arith, one.doubt, two.doubt);
    faults = omega (arith, one.faults, two.faults);
    shield = λ s. two.shield (one.shield s);
    spared = λ clean db left. one.spared (omega (arith, two.doubt, clean)) db (two.spared clean db left);
  }
