-- What a database shows of the part that is named.
use Rattle.std.proofs.Common.{◌≡◌, ◌≢◌, Bool, true, false, List, [], ◌∷◌, Option, Some, None, IfSome, IsTrue, inl, inr, refl, sym, subst, arith}
use Rattle.sqlite_trees.specs.declared.store.Store.{Ghosts}
use Rattle.sqlite_value.specs.Order.{Row}
use Rattle.sqlite.specs.State.{HasCleanDisk}
use Rattle.sqlite.specs.Effect.{Database}
use Rattle.sqlite.specs.Held.{Held, state}
use Rattle.desk_sql.specs.declared.opening.finding.TablesPresent.{TablesPresent}
use Rattle.desk_sql.specs.declared.opening.finding.TablesPresent.TheVariants.{Nothing}
use Rattle.desk_sql.specs.Effects.{Holds, OnlyReads}
use Rattle.desk_sql.specs.Rows.{IsMadeTo, Lists, Tables, has_old_rows, tables_at}
use Rattle.desk_store.specs.World.{Filed}
use Rattle.table_load.specs.declared.naming.InvalidPart.{InvalidPart}
use Rattle.table_load.specs.Moving.{AreSortedOld, HasNoNewRows}
use Rattle.table_load.specs.OpeningSteps.{AreGoodHeads, FailsAfter, FailsMade, FailsMoving, FailsNew, FailsOld, FailsOldSpans, FailsPart, FailsSpans, ShowsPartOf}
use Rattle.table_load.specs.Opening.{AreSortedHeads, HasRowsOld}

module _ {S : Type 0} (g : Ghosts S) where
  -- what is shown after a reading was shown before it
  shown_since : (P : Database → Type 0) (a m b : Held S) → OnlyReads g a m → OnlyReads g m b
      → HasCleanDisk (state g b) → IsTrue (state g b).is_open → P (state g m).now → P (state g a).now
  shown_since P a m b one two clean live =
      subst P (one.kept (omega (arith, two.doubt, clean)) (two.kept clean live).was_open).now

  module _ (a m b : Held S) (named : Option InvalidPart) (made : TablesPresent) (one : OnlyReads g a m)
      (two : OnlyReads g m b) where
    -- rows of spans were held against the plans of rows that are good but for them
    spans_fail : (spans_in : Tables → List Row) (rows : Tables) (ps : List Filed)
        (Checked : List Row → Type 0) (Fails : List Filed → List Row → InvalidPart → Type 0)
        (part : InvalidPart) → AreGoodHeads rows ps
        → HasCleanDisk (state g b) → IsTrue (state g b).is_open
        → ((spans : List Row)
        × Lists (0 ∷ 1 ∷ 2 ∷ 3 ∷ []) (spans_in (tables_at made (state g m).now.trees)) spans × Checked spans)
        → ((spans : List Row) → Checked spans → Fails ps spans part)
        → FailsAfter rows (spans_in (tables_at made (state g a).now.trees)) (λ qs spans. Fails qs spans part)
    spans_fail spans_in rows ps Checked Fails part good clean live (spans, lists, checked) fails = record {
      plans = ps;
      good = good;
      sorted = spans;
      listed = shown_since (λ db. Lists (0 ∷ 1 ∷ 2 ∷ 3 ∷ []) (spans_in (tables_at made db.trees)) spans)
          a m b one two clean live lists;
      fails = fails spans checked;
    }

    pub spans_named : (rows : Tables) (covered : Bool) (ps : List Filed) (Checked : List Row → Type 0)
        → (HasCleanDisk (state g m) → AreSortedHeads (tables_at made (state g a).now.trees) rows covered)
        → AreGoodHeads rows ps
        → (HasCleanDisk (state g b) → (spans : List Row)
        × Lists (0 ∷ 1 ∷ 2 ∷ 3 ∷ []) (tables_at made (state g m).now.trees).spans spans × Checked spans)
        → ((spans : List Row) → Checked spans → IfSome named (FailsSpans ps spans covered))
        → ShowsPartOf g a b named (λ db. FailsNew (tables_at made db.trees))
    spans_named rows covered ps Checked read good listed fails =
        on named fails where
          on : (it : Option InvalidPart)
              → ((spans : List Row) → Checked spans → IfSome it (FailsSpans ps spans covered))
              → ShowsPartOf g a b it (λ db. FailsNew (tables_at made db.trees))
          on None fail = λ clean live. tt
          on (Some part) fail = λ clean live. record {
            rows = rows;
            covered = covered;
            read = read (omega (arith, two.doubt, clean));
            fails = inr (spans_fail (λ t. t.spans) rows ps Checked (λ qs spans. FailsSpans qs spans covered)
                part good clean live (listed clean) fail);
          }

    pub old_spans_named : (rows : Tables) (ps : List Filed) (Checked : List Row → Type 0)
        → (HasCleanDisk (state g m) → AreSortedOld (tables_at made (state g a).now.trees) rows)
        → AreGoodHeads rows ps
        → (HasCleanDisk (state g b) → (spans : List Row)
        × Lists (0 ∷ 1 ∷ 2 ∷ 3 ∷ []) (tables_at made (state g m).now.trees).old_spans spans × Checked spans)
        → ((spans : List Row) → Checked spans → IfSome named (FailsOldSpans ps spans))
        → ShowsPartOf g a b named (λ db. FailsOld (tables_at made db.trees))
    old_spans_named rows ps Checked read good listed fails =
        on named fails where
          on : (it : Option InvalidPart)
              → ((spans : List Row) → Checked spans → IfSome it (FailsOldSpans ps spans))
              → ShowsPartOf g a b it (λ db. FailsOld (tables_at made db.trees))
          on None fail = λ clean live. tt
          on (Some part) fail = λ clean live. record {
            rows = rows;
            read = read (omega (arith, two.doubt, clean));
            fails = inr (spans_fail (λ t. t.old_spans) rows ps Checked FailsOldSpans part good clean live
                (listed clean) fail);
          }

    -- the new tables are empty, and what is named then is named of those of schema 1
    pub moving_named : (HasCleanDisk (state g m) → HasNoNewRows (tables_at made (state g a).now.trees))
        → ShowsPartOf g m b named (λ db. FailsOld (tables_at made db.trees))
        → ShowsPartOf g a b named (λ db. FailsMoving (tables_at made db.trees))
    moving_named none = on named where
      on : (it : Option InvalidPart) → ShowsPartOf g m b it (λ db. FailsOld (tables_at made db.trees))
          → ShowsPartOf g a b it (λ db. FailsMoving (tables_at made db.trees))
      on None shows = λ clean live. tt
      on (Some part) shows = λ clean live. inr (
        none (omega (arith, two.doubt, clean)),
        shown_since (λ db. FailsOld (tables_at made db.trees) part) a m b one two clean live
            (shows clean live),
      )

    -- tables that were found, with or without rows of schema 1, and what is named of them
    made_named : made ≢ Nothing → Holds g m (IsMadeTo made) → (old : Bool) → Holds g m (HasRowsOld made old)
        → (Fails : Tables → InvalidPart → Type 0)
        → ((db : Database) (part : InvalidPart) → IsMadeTo made db
        → has_old_rows (tables_at made db.trees) ≡ old
        → Fails (tables_at made db.trees) part → FailsMade db part)
        → ShowsPartOf g m b named (λ db. Fails (tables_at made db.trees))
        → ShowsPartOf g a b named FailsPart
    made_named some part old has Fails made_so = on named where
      on : (it : Option InvalidPart) → ShowsPartOf g m b it (λ db. Fails (tables_at made db.trees))
          → ShowsPartOf g a b it FailsPart
      on None shows = λ clean live. tt
      on (Some it) shows = λ clean live.
          let mid : HasCleanDisk (state g m) = omega (arith, two.doubt, clean) in
          let was = (two.kept clean live).was_open in
          inr (inr (shown_since (λ db. FailsMade db it) a m b one two clean live
          (made_so (state g m).now it (part mid was) (has mid was) (shows clean live))))

    pub new_named : made ≢ Nothing → Holds g m (IsMadeTo made) → Holds g m (HasRowsOld made false)
        → ShowsPartOf g m b named (λ db. FailsNew (tables_at made db.trees))
        → ShowsPartOf g a b named FailsPart
    new_named some part has = made_named some part false has FailsNew (λ db it desk new fails.
        record { made = made; some = some; desk = desk; fails = inl (new, fails) })

    pub old_named : made ≢ Nothing → Holds g m (IsMadeTo made) → Holds g m (HasRowsOld made true)
        → ShowsPartOf g m b named (λ db. FailsMoving (tables_at made db.trees))
        → ShowsPartOf g a b named FailsPart
    old_named some part has = made_named some part true has FailsMoving (λ db it desk old fails.
        record { made = made; some = some; desk = desk; fails = inr (old, fails) })
