-- Why the rows of a content are not written, in a move and in a packed file.
use Rattle.std.proofs.Common.{◌≡◌, ◌≤◌, List, true, refl, sym, ap, subst, ◌∙◌, arith, IsTrue, IsPermutation}
use Rattle.sqlite_trees.specs.declared.store.Store.{Ghosts}
use Rattle.sqlite_trees.specs.View.{doubt}
use Rattle.sqlite.specs.Effect.{Database}
use Rattle.sqlite.specs.State.{HasCleanDisk}
use Rattle.sqlite.specs.Held.{Held, state}
use Rattle.desk_sql.specs.declared.opening.finding.TablesPresent.{TablesPresent}
use Rattle.desk_sql.specs.declared.opening.finding.TablesPresent.TheVariants.{Packed}
use Rattle.desk_sql.specs.Rows.{Tables, tables_at, tables_of}
use Rattle.desk_sql.specs.Effects.{Makes, OnlyReads, Remembers, Holds}
use Rattle.desk_sql.specs.Changing.{RemakesTables}
use Rattle.desk_store.specs.World.{Filed, World}
use Rattle.row_codec.specs.Tables.{plan_rows}
use Rattle.table_load.specs.Opening.{IsContentOf, AreAwaited, AreWritable, HasSpansToIndex, HaveFewRows, IsToOrder}
use Rattle.table_load.specs.Moving.{HasAllTables, IsOldContentOf, RemovesOldRows}
use Rattle.table_load.proofs.lemmas.Assembly.{filed_within}
use Rattle.table_load.proofs.lemmas.Small.{small_old_spans, small_spans}
use Rattle.table_load.proofs.lemmas.Writing.{FewCovers, writable}

-- ---- plans of a content of schema 1

old_awaited : (t : Tables) (w : World) → IsOldContentOf t w → HaveFewRows w.plans → AreAwaited w.plans t
old_awaited t w is few = record {
  within = filed_within w is.content.content;
  keys = is.content.content.world.plans;
  few = few;
  plans = is.tables.plans;
  volumes = is.tables.new.volumes;
  spans = is.tables.new.spans;
}

-- the tables of the content that was read
module _ {S : Type 0} (g : Ghosts S) (made : TablesPresent) (w : World) (a b : Held S)
    (reads : OnlyReads g a b)
    (content : HasCleanDisk (state g b) → IsOldContentOf (tables_at made (state g a).now.trees) w) where
  pub old_to_index : Holds g b (HasSpansToIndex made)
  old_to_index clean live = subst (HasSpansToIndex made) (sym (reads.kept clean live).now)
      (small_old_spans (tables_at made (state g a).now.trees) w (content clean))

  pub whole_awaited : (ps : List Filed) (c : Held S) → ps ≡ w.plans
      → doubt (state g b).is_clean ≤ doubt (state g c).is_clean
      → (HasCleanDisk (state g c) → IsTrue (state g c).is_open → HasAllTables g made b c)
      → HaveFewRows w.plans
      → Holds g c (λ db. AreAwaited ps (tables_of db.trees))
  whole_awaited ps c is rises done few clean live =
      let mid : HasCleanDisk (state g b) = omega (arith, rises, clean) in
      let whole = done clean live in
      let shows = reads.kept mid whole.was_open in
      subst (λ qs. AreAwaited qs (tables_of (state g c).now.trees)) (sym is) (subst (AreAwaited w.plans)
      (sym (whole.same ∙ ap (λ (db : Database). tables_at made db.trees) shows.now))
      (old_awaited (tables_at made (state g a).now.trees) w (content mid) few))

-- once the rows of schema 1 went
awaited_on : (ps : List Filed) (a b : Tables) → RemovesOldRows a b → AreAwaited ps a → AreAwaited ps b
awaited_on ps a b went h = record {
  within = h.within;
  keys = h.keys;
  few = h.few;
  plans = subst (IsPermutation (plan_rows ps)) (sym (ap (λ (t : Tables). t.plans) went)) h.plans;
  volumes = ap (λ (t : Tables). t.volumes) went ∙ h.volumes;
  spans = ap (λ (t : Tables). t.spans) went ∙ h.spans;
}

-- those of schema 2 can be added
pub writable_moved : {S : Type 0} (g : Ghosts S) (ps : List Filed) (old begun new : Held S) → FewCovers
    → begun ≡ record old { in_transaction = true }
    → Holds g old (λ db. AreAwaited ps (tables_of db.trees))
    → (HasCleanDisk (state g new) → Makes g begun new RemovesOldRows) → Remembers g begun new
    → HasCleanDisk (state g new) → AreWritable ps (state g new).now
writable_moved g ps old begun new few is awaited one first clean =
    let early : HasCleanDisk (state g begun) = omega (arith, first.doubt, clean) in
    let emptied = one clean in
    let there = subst (λ h. Holds g h (λ db. AreAwaited ps (tables_of db.trees))) (sym is) awaited early
    emptied.was_open in
    writable few ps (state g new).now (awaited_on ps (tables_of (state g begun).now.trees)
    (tables_of (state g new).now.trees) emptied.changed there)

-- ---- plans of a packed file

to_order : (db : Database) (w : World) → IsContentOf (tables_at Packed db.trees) w → HaveFewRows w.plans
    → IsToOrder w.plans db
to_order db w is few = record {
  indexed = small_spans (tables_at Packed db.trees) w is;
  awaited = record {
    within = filed_within w is.content;
    keys = is.content.world.plans;
    few = few;
    plans = is.tables.plans;
    volumes = refl;
    spans = refl;
  };
}

pub still_to_order : {S : Type 0} (g : Ghosts S) (w : World) (ps : List Filed) (a b : Held S) → ps ≡ w.plans
    → OnlyReads g a b → (HasCleanDisk (state g b) → IsContentOf (tables_at Packed (state g a).now.trees) w)
    → HaveFewRows w.plans → Holds g b (IsToOrder ps)
still_to_order g w ps a b is reads content few clean live =
    subst (λ qs. IsToOrder qs (state g b).now) (sym is) (subst (IsToOrder w.plans)
    (sym (reads.kept clean live).now) (to_order (state g a).now w (content clean) few))

-- once its tables were made anew
pub writable_anew : {S : Type 0} (g : Ghosts S) (ps : List Filed) (old begun new : Held S) → FewCovers
    → begun ≡ record old { in_transaction = true } → Holds g old (IsToOrder ps)
    → (HasCleanDisk (state g new) → Makes g begun new RemakesTables) → Remembers g begun new
    → HasCleanDisk (state g new) → AreWritable ps (state g new).now
writable_anew g ps old begun new few is held one first clean =
    let early : HasCleanDisk (state g begun) = omega (arith, first.doubt, clean) in
    let remade = one clean in
    let there = subst (λ h. Holds g h (IsToOrder ps)) (sym is) held early remade.was_open in
    writable few ps (state g new).now (subst (AreAwaited ps) (sym remade.changed) there.awaited)
