-- A content from operators and plans that were read, and from rows of spans that were held against the plans.
use Rattle.std.proofs.Common.{◌≡◌, ◌≢◌, Bool, List, [], ◌∷◌, ◌∙◌, map, sym, subst, arith, IsTrue, Result, Ok, Err, IfOk, IfErr, OnOk}
use Rattle.std.specs.List.{AllByRecursion}
use Rattle.sqlite_trees.specs.declared.store.Store.{Ghosts}
use Rattle.std.specs.Result.{IsErrAnd}
use Rattle.sqlite.specs.State.{HasCleanDisk}
use Rattle.sqlite.specs.Effect.{Database}
use Rattle.sqlite.specs.Held.{Held, state}
use Rattle.sqlite_value.specs.Order.{Row}
use Rattle.volume4d.specs.Footprint.{footprint_bytes, HasValidParts}
use Rattle.volume4d.specs.Volume.{Shape}
use Rattle.desk_sql.specs.declared.opening.finding.TablesPresent.{TablesPresent}
use Rattle.desk_sql.specs.Effects.{IsOpenIfClean, Holds, OnlyReads}
use Rattle.desk_sql.specs.Rows.{Lists, Tables, tables_at, cover_part}
use Rattle.desk_store.specs.World.{IsContent, Filed, Listed, World}
use Rattle.table_load.specs.declared.fault.OpenFault.{OpenFault}
use Rattle.table_load.specs.declared.fault.OpenFault.TheVariants.{NotADesk, OldSchema, Store}
use Rattle.table_load.specs.Moving.{AreNoOldContent, AreOldParts, AreSortedOld, HasNoNewRows, IsOldArea, IsOldContent, IsOldContentOf}
use Rattle.table_load.specs.Opening.{AreNoContent, AreParts, AreRows, AreSortedHeads, BlamesReading, HasNewRows, IsContentOf}
use Rattle.table_load.specs.OpeningSteps.{IsRead}
use Rattle.row_codec.specs.Tables.{AreSpanRows}
use Rattle.table_load.proofs.lemmas.Assembly.{agreed, assembled, world_of}
use Rattle.table_load.proofs.CoverLemmas.{covers_are}
use Rattle.table_load.proofs.lemmas.KeyOrder.{are_old_rows, are_old_tables, are_rows, are_tables, heads_are, old_heads_are}
use Rattle.table_load.proofs.lemmas.Opening.{no_old_rows}
use Rattle.table_load.proofs.lemmas.KeyOrder.{AreAllRows}
use Rattle.table_load.proofs.lemmas.KeyOrder.{AreSortedByKey}

abbrev pub with_spans : Tables → List Row → Tables
with_spans t rows = record t { spans = rows }

-- what is so of plans is so of those that were handed on
pub of_plans : (P : List Filed → Type 0) (ps qs rs : List Filed) → P ps → qs ≡ ps → rs ≡ qs → P rs
of_plans P ps qs rs are one two = subst P (sym (two ∙ one)) are

-- tables whose rows but for spans are no content's, with whatever spans, have none
pub none_of_heads : (t heads : Tables) (covered : Bool) → AreSortedHeads t heads covered
    → ((w : World) (rows : List Row) → IsContent w → AreRows (with_spans heads rows) w → IsTrue covered → ⊥)
    → AreNoContent t
none_of_heads t heads covered lists none w h are =
    let found = heads_are t heads covered w h are lists are.spans.0 are.spans.1 in
    none w are.spans.0 h found.0 found.1

-- the same of schema 1
pub none_of_old_heads : (t heads : Tables) → AreSortedOld t heads
    → ((w : World) (rows : List Row) → IsOldContent w → AreRows (with_spans heads rows) w → ⊥)
    → AreNoOldContent t
none_of_old_heads t heads lists none w old are = none w are.spans.0 old
    (old_heads_are t heads w old.content are lists are.spans.0 are.spans.1)

-- and with the covers of rows of `volume2`
abbrev with_covers : Tables → List Row → List Row → Tables
with_covers t rows whole = record t { spans = rows; covers = map cover_part whole }

sorted_with : (t heads : Tables) (covered : Bool) (rows : List Row) (lists : AreSortedHeads t heads covered)
    → Lists (0 ∷ 1 ∷ 2 ∷ 3 ∷ []) t.spans rows → AreSortedByKey t (with_covers heads rows lists.whole)
sorted_with t heads covered rows lists spans = record {
  operator_part = lists.operator_part;
  plan_part = lists.plan_part;
  volume_part = subst (Lists (0 ∷ 1 ∷ 2 ∷ []) t.volumes) (sym lists.compared.volumes_are)
      lists.listed.volumes_listed;
  cover_part = lists.listed.covers_listed;
  span_part = spans;
}

but_covers : (heads : Tables) (rows whole : List Row) (w : World) → AreRows (with_covers heads rows whole) w
    → AreRows (with_spans heads rows) w
but_covers heads rows whole w are = record {
  operator_part = are.operator_part;
  plan_part = are.plan_part;
  volume_part = are.volume_part;
  span_part = are.span_part;
}

-- the world of these operators and plans
same_world : (w : World) (ls : List Listed) (ps : List Filed) → (w.operators ≡ ls) × (w.plans ≡ ps)
    → world_of ls ps ≡ w
same_world w ls ps are = λ i. world_of (sym are.0 i) (sym are.1 i)

-- what is listed after a reading was there before it
pub listed_since : {S : Type 0} (g : Ghosts S) (made : TablesPresent) (spans_in : Tables → List Row)
    (a m b : Held S) (Checked : List Row → Type 0) → OnlyReads g a m → OnlyReads g m b → IsOpenIfClean g m
    → (HasCleanDisk (state g b) → (rows : List Row)
    × Lists (0 ∷ 1 ∷ 2 ∷ 3 ∷ []) (spans_in (tables_at made (state g m).now.trees)) rows × Checked rows)
    → HasCleanDisk (state g b) → (rows : List Row)
    × Lists (0 ∷ 1 ∷ 2 ∷ 3 ∷ []) (spans_in (tables_at made (state g a).now.trees)) rows × Checked rows
listed_since g made spans_in a m b Checked one two live listed clean =
    let mid : HasCleanDisk (state g m) = omega (arith, two.doubt, clean) in
    let (rows, lists, checked) = listed clean in (
      rows,
      subst (λ (db : Database). Lists (0 ∷ 1 ∷ 2 ∷ 3 ∷ []) (spans_in (tables_at made db.trees)) rows)
          (one.kept mid (live mid)).now lists,
      checked,
    )

-- a refusal of what was read is reported on
pub refused_on : {S V : Type 0} (g : Ghosts S) (made : TablesPresent) (a b : Held S)
    {Gives : Tables → V → Type 0} {Refuses : Tables → Type 0} (r : Result V OpenFault) (e : OpenFault)
    → IsErrAnd r (λ fault. fault ≡ e) → OnlyReads g a b
    → (e ≡ NotADesk → HasCleanDisk (state g b) → Refuses (tables_at made (state g a).now.trees))
    → e ≢ OldSchema → BlamesReading g a b e → IsRead g a b r made Gives Refuses
refused_on g made a b (Ok v) e is reads none newer cause = absurd is
refused_on g made a b (Err f) e is reads none newer cause = record {
  value = λ clean. tt;
  was_open = λ clean. tt;
  none = λ reported. none (sym is ∙ reported);
  newer = λ reported. newer (sym is ∙ reported);
  cause = subst (BlamesReading g a b) (sym is) cause;
  reads = reads;
}

-- a refusal of what is in hand is reported on
pub refused_in_hand : {S V : Type 0} (g : Ghosts S) (made : TablesPresent) (a b : Held S)
    {Gives : Tables → V → Type 0} {Refuses : Tables → Type 0} (r : Result V OpenFault) (e : OpenFault)
    → IsErrAnd r (λ fault. fault ≡ e) → OnlyReads g a b
    → (e ≡ NotADesk → HasCleanDisk (state g b) → Refuses (tables_at made (state g a).now.trees))
    → (e ≢ Store) × (e ≢ OldSchema) → IsRead g a b r made Gives Refuses
refused_in_hand g made a b r e is reads none other =
    refused_on g made a b r e is reads none other.1 (λ clean live reported. absurd (other.0 reported))

-- tables are read as what spans that were held against the plans make of them, if they agree
module _ {S V : Type 0} (g : Ghosts S) (made : TablesPresent) (a b : Held S) (world : V → World)
    (ls : List Listed) (ps : List Filed) (listed : List Row) (Gives : Tables → World → Type 0)
    (Refuses : Tables → Type 0)
    (gives : HasCleanDisk (state g b) → (rows : List Row) → Lists (0 ∷ 1 ∷ 2 ∷ 3 ∷ []) listed rows
    → AreSpanRows ps rows → (w : World) → (w.operators ≡ ls) × (w.plans ≡ ps)
    → Gives (tables_at made (state g a).now.trees) w)
    (refuses : HasCleanDisk (state g b) → (rows : List Row) → Lists (0 ∷ 1 ∷ 2 ∷ 3 ∷ []) listed rows
    → (AreSpanRows ps rows → ⊥) → Refuses (tables_at made (state g a).now.trees))
    (Checked : List Row → Type 0) where
  spans_held : (r : Result V OpenFault)
      → (HasCleanDisk (state g b) → IsTrue (state g a).is_open) → OnlyReads g a b
      → (HasCleanDisk (state g b) → (rows : List Row) × Lists (0 ∷ 1 ∷ 2 ∷ 3 ∷ []) listed rows × Checked rows)
      → IfOk r (λ v. ((world v).operators ≡ ls) × ((world v).plans ≡ ps))
      → ((rows : List Row) → Checked rows → OnOk r (AreSpanRows ps rows))
      → IfErr r (λ e. e ≡ NotADesk → (rows : List Row) → Checked rows → ¬ AreSpanRows ps rows)
      → IfErr r (λ e. (e ≢ Store) × (e ≢ OldSchema))
      → IsRead g a b r made (λ t v. Gives t (world v)) Refuses
  spans_held (Ok v) opened reads taken is agree none other = record {
    value = λ clean.
        let (rows, lists, checked) = taken clean in
        gives clean rows lists (agree rows checked) (world v) is;
    was_open = opened;
    none = tt;
    newer = tt;
    cause = tt;
    reads = reads;
  }
  spans_held (Err e) opened reads taken is agree none other = record {
    value = λ clean. tt;
    was_open = λ clean. tt;
    none = λ reported clean.
        let (rows, lists, checked) = taken clean in refuses clean rows lists (none reported rows checked);
    newer = other.1;
    cause = λ clean live reported. absurd (other.0 reported);
    reads = reads;
  }

module _ (one_shape : (one other : Shape) → HasValidParts one → HasValidParts other
    → footprint_bytes one ≡ footprint_bytes other → one ≡ other)
    (heads : Tables) (ls : List Listed) (ps : List Filed) where
  module _ (are : AreParts heads ls ps) where
    -- spans that are the plans' make a content of them
    parts_with : (rows : List Row) → AreSpanRows ps rows → (w : World)
        → (w.operators ≡ ls) × (w.plans ≡ ps) → IsContent w × AreRows (with_spans heads rows) w
    parts_with rows spans w is =
        subst (λ x. IsContent x × AreRows (with_spans heads rows) x) (same_world w ls ps is)
        (assembled one_shape (with_spans heads rows) ls ps are.operators are.plans (record {
          names = are.order.names;
          keys = are.order.keys;
          shared = are.order.shared;
          spans = spans;
        }))

    pub content_if : {V : Type 0} (world : V → World) (r : Result V OpenFault) (rows : List Row)
        → IfOk r (λ v. ((world v).operators ≡ ls) × ((world v).plans ≡ ps)) → OnOk r (AreSpanRows ps rows)
        → IfOk r (λ v. IsContent (world v))
    content_if world (Ok v) rows is spans = (parts_with rows spans (world v) is).0
    content_if world (Err e) rows is spans = tt

    -- those of a content with these rows are the plans'
    plans_spans : (rows : List Row) (w : World) → IsContent w → AreRows (with_spans heads rows) w
        → AreSpanRows ps rows
    plans_spans rows w h rows_are =
        (agreed one_shape (with_spans heads rows) ls ps are.operators are.plans w h rows_are).spans

  -- covers that are those of their volumes are those of the plans
  covered_with : (t : Tables) (rows : List Row) (w : World) → IsContent w → AreRows (with_spans heads rows) w
      → (covered : Bool) → IsTrue covered → (lists : AreSortedHeads t heads covered)
      → AreAllRows (with_covers heads rows lists.whole) w
  covered_with t rows w h are covered agree lists = record {
    rows = record {
      operator_part = are.operator_part;
      plan_part = are.plan_part;
      volume_part = are.volume_part;
      span_part = are.span_part;
    };
    covers = covers_are one_shape w.plans h.rows lists.whole
        (sym lists.compared.volumes_are ∙ are.volume_part) (lists.compared.agreed.0 agree);
  }

  -- tables of schema 2 are read so
  pub content_held : AreParts heads ls ps → (covered : Bool) → IsTrue covered
      → {S V : Type 0} (g : Ghosts S) (made : TablesPresent)
      (a b : Held S) (world : V → World) (Checked : List Row → Type 0) (r : Result V OpenFault)
      → Holds g a (HasNewRows made)
      → (HasCleanDisk (state g b) → AreSortedHeads (tables_at made (state g a).now.trees) heads covered)
      → (HasCleanDisk (state g b) → IsTrue (state g a).is_open) → OnlyReads g a b
      → (HasCleanDisk (state g b) → (rows : List Row)
      × Lists (0 ∷ 1 ∷ 2 ∷ 3 ∷ []) (tables_at made (state g a).now.trees).spans rows × Checked rows)
      → IfOk r (λ v. ((world v).operators ≡ ls) × ((world v).plans ≡ ps))
      → ((rows : List Row) → Checked rows → OnOk r (AreSpanRows ps rows))
      → IfErr r (λ e. e ≡ NotADesk → (rows : List Row) → Checked rows → ¬ AreSpanRows ps rows)
      → IfErr r (λ e. (e ≢ Store) × (e ≢ OldSchema))
      → IsRead g a b r made (λ t v. IsContentOf t (world v)) AreNoContent
  content_held are covered agree g made a b world Checked r new sorted opened reads =
      let t = tables_at made (state g a).now.trees in
      spans_held g made a b world ls ps t.spans IsContentOf AreNoContent
      (λ clean rows lists spans w is.
      let content = parts_with are rows spans w is in
      let heads_listed = sorted clean in
      record {
        content = content.0;
        tables = are_tables t (with_covers heads rows heads_listed.whole) w
            (no_old_rows t (new (omega (arith, reads.doubt, clean)) (opened clean)))
            (sorted_with t heads covered rows heads_listed lists)
            (covered_with t rows w content.0 content.1 covered agree heads_listed);
      })
      (λ clean rows lists off w h there. let heads_listed = sorted clean in
      off (plans_spans are rows w h (but_covers heads rows heads_listed.whole w
      (are_rows t (with_covers heads rows heads_listed.whole) w h there
      (sorted_with t heads covered rows heads_listed lists)).rows)))
      Checked r opened reads

  -- and so are those of schema 1
  pub old_content_held : AreOldParts heads ls ps → {S V : Type 0} (g : Ghosts S) (made : TablesPresent)
      (a b : Held S) (world : V → World) (Checked : List Row → Type 0) (r : Result V OpenFault)
      → (HasCleanDisk (state g b) → HasNoNewRows (tables_at made (state g a).now.trees)
      × AreSortedOld (tables_at made (state g a).now.trees) heads)
      → (HasCleanDisk (state g b) → IsTrue (state g a).is_open) → OnlyReads g a b
      → (HasCleanDisk (state g b) → (rows : List Row)
      × Lists (0 ∷ 1 ∷ 2 ∷ 3 ∷ []) (tables_at made (state g a).now.trees).old_spans rows × Checked rows)
      → IfOk r (λ v. ((world v).operators ≡ ls) × ((world v).plans ≡ ps))
      → ((rows : List Row) → Checked rows → OnOk r (AreSpanRows ps rows))
      → IfErr r (λ e. e ≡ NotADesk → (rows : List Row) → Checked rows → ¬ AreSpanRows ps rows)
      → IfErr r (λ e. (e ≢ Store) × (e ≢ OldSchema))
      → IsRead g a b r made (λ t v. IsOldContentOf t (world v)) AreNoOldContent
  old_content_held are g made a b world Checked r sorted =
      let t = tables_at made (state g a).now.trees in
      spans_held g made a b world ls ps t.old_spans IsOldContentOf AreNoOldContent
      (λ clean rows lists spans w is. let content = parts_with are.parts rows spans w is in record {
        content = record {
          content = content.0;
          areas = subst (AllByRecursion (λ (p : Filed). IsOldArea p.row.area)) (sym is.1) are.areas;
        };
        tables = are_old_tables t heads rows w (sorted clean).0 (sorted clean).1 lists content.1;
      })
      (λ clean rows lists off w old there. off (plans_spans are.parts rows w old.content
      (are_old_rows t heads rows w old.content there (sorted clean).1 lists))) Checked r
