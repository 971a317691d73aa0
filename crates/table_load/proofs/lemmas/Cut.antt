-- What an opening that was cut short leaves, step by step.
use Rattle.std.proofs.Common.{◌≡◌, ◌≤◌, None, inl, inr, List, [], ◌++◌, true, refl, sym, ap, subst, ◌∙◌, arith, IsTrue, IsPermutation}
use Rattle.std.proofs.lemmas.List.{append-nil}
use Rattle.sqlite_trees.specs.declared.store.Store.{Ghosts}
use Rattle.sqlite_trees.specs.View.{doubt}
use Rattle.sqlite.specs.Tree.{Trees}
use Rattle.sqlite.specs.Effect.{Database, IsDatabase}
use Rattle.sqlite.specs.State.{HasCleanDisk, Survives}
use Rattle.sqlite.specs.Held.{Held, state}
use Rattle.sqlite_value.specs.Order.{Row}
use Rattle.desk_sql.specs.declared.opening.finding.TablesPresent.{TablesPresent}
use Rattle.desk_sql.specs.declared.opening.finding.TablesPresent.TheVariants.{Nothing, Packed}
use Rattle.desk_sql.specs.Schema.{desk_in, desk_with}
use Rattle.desk_sql.specs.Rows.{IsDesk, IsMadeTo, Tables, tables_at, tables_of, has_old_rows}
use Rattle.desk_sql.specs.Effects.{Makes, MayMake, Spares, OnlyReads, Remembers, Holds}
use Rattle.desk_sql.specs.Changing.{MayComplete, RemakesTables}
use Rattle.desk_store.specs.World.{Filed, World}
use Rattle.row_codec.specs.Tables.{AreTables, AreSpanRows, cover_rows, operator_rows, plan_rows, volume_rows}
use Rattle.table_load.specs.Opening.{HasNewRows, HasRowsOld, IsContentOf}
use Rattle.table_load.specs.Moving.{AddsPlansRows, HasAllTables, HasNoNewRows, IsOldContentOf, MovesRows, OrdersRows, RemovesOldRows}
use Rattle.table_load.specs.OpeningSteps.{IsCompletedAs, IsMovedAs, LeavesShownOr, MayBecome}
use Rattle.table_load.proofs.lemmas.Moving.{makes_then, remembers_then}
use Rattle.table_load.proofs.lemmas.Store.{nothing, nothing_holds}

-- ---- a transaction

-- a crash leaves what it could leave before, or what was made and committed
pub transaction_leaves : {S : Type 0} (g : Ghosts S) (old begun mid new : Held S)
    (Changes : Tables → Tables → Type 0) → begun ≡ record old { in_transaction = true }
    → (HasCleanDisk (state g mid) → Makes g begun mid Changes) → Spares g begun mid
    → Survives (state g mid) (state g new) (λ db. db ≡ (state g mid).now.trees)
    → MayMake g old new Changes
transaction_leaves {S = S} g old begun mid new Changes is made spared last clean db left =
    let early : HasCleanDisk (state g mid) = omega (arith, last.clean, clean) in
    elim (last.crash clean db left) [
      | inl before ↦ inl (subst (λ (h : Held S). (state g h).may_leave db) is (spared early db before))
      | inr now ↦
          let done : Makes g (record old { in_transaction = true }) mid Changes =
          subst (λ h. Makes g h mid Changes) is (made early) in
          inr (record {
            was_open = done.was_open;
            desk = subst (λ trees. IsDesk (record {
              schema = desk_in (state g old).now.schema;
              trees = trees;
            })) (sym now)
                (subst (λ schema. IsDesk (record { schema = schema; trees = (state g mid).now.trees }))
                (done.desk.schema.is ∙ ap desk_with done.beside) done.desk);
            sound = subst (λ trees. IsDatabase (record {
              schema = desk_in (state g old).now.schema;
              trees = trees;
            })) (sym now)
                (subst (λ schema. IsDatabase (record { schema = schema; trees = (state g mid).now.trees }))
                (done.desk.schema.is ∙ ap desk_with done.beside) done.sound);
            changed = subst (λ trees. Changes (tables_of (state g old).now.trees) (tables_of trees))
                (sym now) done.changed;
          })
    ]

-- one of two steps
pub both_leave : {S : Type 0} (g : Ghosts S) (old begun mid last new : Held S)
    (First Second Both : Tables → Tables → Type 0)
    → ((x y z : Tables) → First x y → Second y z → Both x z)
    → begun ≡ record old { in_transaction = true }
    → (HasCleanDisk (state g mid) → Makes g begun mid First) → Remembers g begun mid
    → (HasCleanDisk (state g last) → Makes g mid last Second) → Remembers g mid last
    → Survives (state g last) (state g new) (λ db. db ≡ (state g last).now.trees)
    → MayMake g old new Both
both_leave g old begun mid last new First Second Both joins is one keeps two still survives =
    transaction_leaves g old begun last new Both is
    (λ clean. makes_then g begun mid last First Second Both joins
    (one (omega (arith, still.doubt, clean))) (two clean))
    (remembers_then g begun mid last keeps still).spared survives

-- the rows of plans come in the place of those that went
pub orders_rows : (ps : List Filed) (x y z : Tables) → RemakesTables x y → AddsPlansRows ps y z
    → OrdersRows ps x z
orders_rows ps x y z went came = record {
  operators = came.operators ∙ ap (λ (t : Tables). t.operators) went;
  plans = came.plans ∙ ap (λ (t : Tables). t.plans) went;
  old_volumes = came.old_volumes ∙ ap (λ (t : Tables). t.old_volumes) went;
  old_spans = came.old_spans ∙ ap (λ (t : Tables). t.old_spans) went;
  with_volumes = subst (λ rows. IsPermutation (volume_rows ps ++ rows) z.volumes)
      (ap (λ (t : Tables). t.volumes) went) came.with_volumes;
  with_covers = subst (λ rows. IsPermutation (cover_rows ps ++ rows) z.covers)
      (ap (λ (t : Tables). t.covers) went) came.with_covers;
  with_spans = (
    came.with_spans.0,
    came.with_spans.1,
    subst (λ rows. IsPermutation (came.with_spans.0 ++ rows) z.spans)
        (ap (λ (t : Tables). t.spans) went) came.with_spans.2,
  );
}

pub moves_rows : (ps : List Filed) (x y z : Tables) → RemovesOldRows x y → AddsPlansRows ps y z
    → MovesRows ps x z
moves_rows ps x y z went came = record {
  operators = came.operators ∙ ap (λ (t : Tables). t.operators) went;
  plans = came.plans ∙ ap (λ (t : Tables). t.plans) went;
  old_volumes = came.old_volumes ∙ ap (λ (t : Tables). t.old_volumes) went;
  old_spans = came.old_spans ∙ ap (λ (t : Tables). t.old_spans) went;
  with_volumes = subst (λ rows. IsPermutation (volume_rows ps ++ rows) z.volumes)
      (ap (λ (t : Tables). t.volumes) went) came.with_volumes;
  with_covers = subst (λ rows. IsPermutation (cover_rows ps ++ rows) z.covers)
      (ap (λ (t : Tables). t.covers) went) came.with_covers;
  with_spans = (
    came.with_spans.0,
    came.with_spans.1,
    subst (λ rows. IsPermutation (came.with_spans.0 ++ rows) z.spans)
        (ap (λ (t : Tables). t.spans) went) came.with_spans.2,
  );
}

-- a packed file whose tables are made anew is completed, if it had no row in those that stand elsewhere
pub remade_completes : {S : Type 0} (g : Ghosts S) (old new : Held S)
    → Holds g old (λ db. HasNoNewRows (tables_at Packed db.trees))
    → doubt (state g old).is_clean ≤ doubt (state g new).is_clean → MayMake g old new RemakesTables
    → MayComplete g Packed old new
remade_completes g old new empty rises may clean db left = elim (may clean db left) [
  | inl before ↦ inl before
  | inr done ↦
      let none = empty (omega (arith, rises, clean)) done.was_open in
      inr (record {
        was_open = done.was_open;
        desk = done.desk;
        sound = done.sound;
        same = done.changed ∙ emptied (state g old).now.trees none;
      })
]
  where
    emptied : (trees : Trees) → HasNoNewRows (tables_at Packed trees)
        → record (tables_of trees) { volumes = []; covers = []; spans = [] } ≡ tables_at Packed trees
    emptied trees none = λ i. record (tables_of trees) {
      volumes = sym none.volumes i;
      covers = sym none.covers i;
      spans = sym none.spans i;
    }

-- ---- a reading, and what comes after it

module _ {S : Type 0} (g : Ghosts S) (Becomes : Database → Trees → Type 0) where
  pub spared_becomes : (a b : Held S) → Spares g a b → MayBecome g a b Becomes
  spared_becomes a b spared clean db left = inl (spared clean db left)

  pub becomes_since : (a b c : Held S) → OnlyReads g a b
      → doubt (state g b).is_clean ≤ doubt (state g c).is_clean → MayBecome g b c Becomes
      → MayBecome g a c Becomes
  becomes_since a b c reads rises may clean db left =
      let mid : HasCleanDisk (state g b) = omega (arith, rises, clean) in
      elim (may clean db left) [
        | inl before ↦ inl (reads.spared mid db before)
        | inr (live, is) ↦
            let shows = reads.kept mid live in
            inr (shows.was_open, subst (λ was. Becomes was db) shows.now is)
      ]

  pub becomes_weaker : (Other : Database → Trees → Type 0)
      → ((was : Database) (db : Trees) → Other was db → Becomes was db) → (a b : Held S)
      → MayBecome g a b Other → MayBecome g a b Becomes
  becomes_weaker Other weaker a b may clean db left = elim (may clean db left) [
    | inl before ↦ inl before
    | inr (live, is) ↦ inr (live, weaker (state g a).now db is)
  ]

-- ---- tables that are completed

module _ {S : Type 0} (g : Ghosts S) where
  pub completed_leaves : (made : TablesPresent) (w : World) (a b c : Held S) → Holds g a (IsMadeTo made)
      → Holds g a (HasNewRows made) → OnlyReads g a b
      → (HasCleanDisk (state g b) → IsContentOf (tables_at made (state g a).now.trees) w)
      → doubt (state g b).is_clean ≤ doubt (state g c).is_clean → MayComplete g made b c
      → MayBecome g a c IsCompletedAs
  completed_leaves made w a b c part new reads content rises may clean db left =
      let mid : HasCleanDisk (state g b) = omega (arith, rises, clean) in
      let early : HasCleanDisk (state g a) = omega (arith, reads.doubt, mid) in
      elim (may clean db left) [
        | inl before ↦ inl (reads.spared mid db before)
        | inr done ↦
            let shows = reads.kept mid done.was_open in
            let is = content mid in
            inr (
              shows.was_open,
              record {
                world = w;
                before = record {
                  made = made;
                  desk = part early shows.was_open;
                  schema = new early shows.was_open;
                  rows = is;
                };
                after = record {
                  content = is.content;
                  listed = _;
                  desk = done.desk;
                  sound = done.sound;
                  tables = subst (λ t. AreTables t w)
                      (sym (done.same ∙ ap (λ (d : Database). tables_at made d.trees) shows.now)) is.tables;
                };
              },
            )
      ]

  -- where there was no table
  pub created_leaves : (a b : Held S) → Holds g a (IsMadeTo Nothing)
      → doubt (state g a).is_clean ≤ doubt (state g b).is_clean → MayComplete g Nothing a b
      → MayBecome g a b IsCompletedAs
  created_leaves a b blank rises may clean db left =
      let early : HasCleanDisk (state g a) = omega (arith, rises, clean) in
      elim (may clean db left) [
        | inl before ↦ inl before
        | inr done ↦ inr (
          done.was_open,
          record {
            world = nothing;
            before = record {
              made = Nothing;
              desk = blank early done.was_open;
              schema = refl;
              rows = nothing_holds;
            };
            after = record {
              content = nothing_holds.content;
              listed = _;
              desk = done.desk;
              sound = done.sound;
              tables = subst (λ t. AreTables t nothing) (sym done.same) nothing_holds.tables;
            };
          },
        )
      ]

-- ---- tables that are put in order

-- the rows of plans where there were none
alone : (rows_for : List Filed → List Row) (ps qs : List Filed) → ps ≡ qs → (before rows : List Row)
    → before ≡ [] → IsPermutation (rows_for ps ++ before) rows → IsPermutation (rows_for qs) rows
alone rows_for ps qs is before rows none added =
    subst (λ plans. IsPermutation (rows_for plans) rows) is
    (subst (λ all. IsPermutation all rows) (append-nil (rows_for ps))
    (subst (λ old. IsPermutation (rows_for ps ++ old) rows) none added))

spans_alone : (ps qs : List Filed) → ps ≡ qs → (before rows : List Row) → before ≡ []
    → (all : List Row) × AreSpanRows ps all × IsPermutation (all ++ before) rows
    → (all : List Row) × AreSpanRows qs all × IsPermutation all rows
spans_alone ps qs is before rows none (all, are, added) = (
  all,
  subst (λ plans. AreSpanRows plans all) is are,
  subst (λ found. IsPermutation found rows) (append-nil all)
      (subst (λ old. IsPermutation (all ++ old) rows) none added),
)

ordered_is : (db left : Trees) (w : World) (ps : List Filed) → ps ≡ w.plans
    → AreTables (tables_at Packed db) w → OrdersRows ps (tables_of db) (tables_of left)
    → AreTables (tables_of left) w
ordered_is db left w ps is was now = record {
  old = record {
    volumes = now.old_volumes ∙ was.old.volumes;
    spans = now.old_spans ∙ was.old.spans;
  };
  operators = subst (IsPermutation (operator_rows w)) (sym now.operators) was.operators;
  plans = subst (IsPermutation (plan_rows w.plans)) (sym now.plans) was.plans;
  volumes = alone volume_rows ps w.plans is [] (tables_of left).volumes refl now.with_volumes;
  covers = alone cover_rows ps w.plans is [] (tables_of left).covers refl now.with_covers;
  spans = spans_alone ps w.plans is [] (tables_of left).spans refl now.with_spans;
}

pub ordered_leaves : {S : Type 0} (g : Ghosts S) (w : World) (ps : List Filed) (a b c : Held S)
    → ps ≡ w.plans → Holds g a (IsMadeTo Packed) → Holds g a (HasNewRows Packed) → OnlyReads g a b
    → (HasCleanDisk (state g b) → IsContentOf (tables_at Packed (state g a).now.trees) w)
    → doubt (state g b).is_clean ≤ doubt (state g c).is_clean → MayMake g b c (OrdersRows ps)
    → MayBecome g a c IsCompletedAs
ordered_leaves g w ps a b c same part new reads content rises may clean db left =
    let mid : HasCleanDisk (state g b) = omega (arith, rises, clean) in
    let early : HasCleanDisk (state g a) = omega (arith, reads.doubt, mid) in
    elim (may clean db left) [
      | inl before ↦ inl (reads.spared mid db before)
      | inr done ↦
          let shows = reads.kept mid done.was_open in
          let is = content mid in
          inr (
            shows.was_open,
            record {
              world = w;
              before = record {
                made = Packed;
                desk = part early shows.was_open;
                schema = new early shows.was_open;
                rows = is;
              };
              after = record {
                content = is.content;
                listed = _;
                desk = done.desk;
                sound = done.sound;
                tables = ordered_is (state g a).now.trees db w ps same is.tables
                    (subst (λ (d : Database). OrdersRows ps (tables_of d.trees) (tables_of db)) shows.now
                    done.changed);
              };
            },
          )
    ]

-- ---- tables whose rows of schema 1 are moved

moved_is : (t u : Tables) (w : World) (ps : List Filed) → ps ≡ w.plans → IsOldContentOf t w
    → MovesRows ps t u → AreTables u w
moved_is t u w ps is was now = record {
  old = record { volumes = now.old_volumes; spans = now.old_spans };
  operators = subst (IsPermutation (operator_rows w)) (sym now.operators) was.tables.operators;
  plans = subst (IsPermutation (plan_rows w.plans)) (sym now.plans) was.tables.plans;
  volumes =
      alone volume_rows ps w.plans is t.volumes u.volumes was.tables.new.volumes now.with_volumes;
  covers = alone cover_rows ps w.plans is t.covers u.covers was.tables.new.covers now.with_covers;
  spans = spans_alone ps w.plans is t.spans u.spans was.tables.new.spans now.with_spans;
}

module _ {S : Type 0} (g : Ghosts S) (made : TablesPresent) (w : World) (a b : Held S)
    (part : Holds g a (IsMadeTo made)) (old : Holds g a (HasRowsOld made true)) (reads : OnlyReads g a b)
    (content : HasCleanDisk (state g b) → IsOldContentOf (tables_at made (state g a).now.trees) w) where
  pub whole_leaves : (c : Held S) → doubt (state g b).is_clean ≤ doubt (state g c).is_clean
      → MayComplete g made b c → MayBecome g a c IsMovedAs
  whole_leaves c rises may clean db left =
      let mid : HasCleanDisk (state g b) = omega (arith, rises, clean) in
      let early : HasCleanDisk (state g a) = omega (arith, reads.doubt, mid) in
      elim (may clean db left) [
        | inl before ↦ inl (reads.spared mid db before)
        | inr done ↦
            let shows = reads.kept mid done.was_open in
            let same = done.same ∙ ap (λ (d : Database). tables_at made d.trees) shows.now in
            inr (
              shows.was_open,
              record {
                world = w;
                before = record {
                  made = made;
                  desk = part early shows.was_open;
                  schema = old early shows.was_open;
                  rows = content mid;
                };
                after = inl (record {
                  listed = _;
                  desk = done.desk;
                  sound = done.sound;
                  schema = ap has_old_rows same ∙ old early shows.was_open;
                  rows = subst (λ t. IsOldContentOf t w) (sym same) (content mid);
                });
              },
            )
      ]

  pub moved_leaves : (ps : List Filed) (c d : Held S) → ps ≡ w.plans
      → doubt (state g b).is_clean ≤ doubt (state g c).is_clean
      → doubt (state g c).is_clean ≤ doubt (state g d).is_clean
      → MayComplete g made b c
      → (HasCleanDisk (state g c) → IsTrue (state g c).is_open → HasAllTables g made b c)
      → MayMake g c d (MovesRows ps) → MayBecome g a d IsMovedAs
  moved_leaves ps c d same first second may whole moves clean db left =
      let late : HasCleanDisk (state g c) = omega (arith, second, clean) in
      let mid : HasCleanDisk (state g b) = omega (arith, first, late) in
      let early : HasCleanDisk (state g a) = omega (arith, reads.doubt, mid) in
      elim (moves clean db left) [
        | inl before ↦ whole_leaves c first may late db before
        | inr done ↦
            let made_so = whole late done.was_open in
            let shows = reads.kept mid made_so.was_open in
            let rows = subst (λ t. IsOldContentOf t w)
            (sym (made_so.same ∙ ap (λ (x : Database). tables_at made x.trees) shows.now))
            (content mid) in
            inr (
              shows.was_open,
              record {
                world = w;
                before = record {
                  made = made;
                  desk = part early shows.was_open;
                  schema = old early shows.was_open;
                  rows = content mid;
                };
                after = inr (record {
                  content = (content mid).content.content;
                  listed = _;
                  desk = done.desk;
                  sound = done.sound;
                  tables = moved_is (tables_of (state g c).now.trees) (tables_of db) w ps same rows
                      done.changed;
                });
              },
            )
      ]

-- ---- a whole opening

-- what the limit on steps hides of a connection
module _ {S : Type 0} (g : Ghosts S) (Becomes : Database → Trees → Type 0) where
  pub shown_leaves : (old mid new : Held S) → mid ≡ record old { step_limit = None }
      → (IsTrue (state g old).is_open → (state g old).now ≡ (state g old).committed)
      → (IsTrue (state g old).is_open → (db : Trees) → (state g old).may_leave db
      → db ≡ (state g old).committed.trees)
      → MayBecome g mid new Becomes → LeavesShownOr g old new Becomes
  shown_leaves old mid new is settled alone may clean live db left =
      elim (subst (λ h. MayBecome g h new Becomes) is may clean db left) [
        | inl before ↦ inl (alone live db before ∙ sym (ap (λ (d : Database). d.trees) (settled live)))
        | inr (live_then, it) ↦ inr it
      ]
