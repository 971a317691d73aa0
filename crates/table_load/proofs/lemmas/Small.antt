-- The spans of a content have entries that SQLite can store in the index over leaves.
use Rattle.std.proofs.Common.{◌≡◌, ◌≤◌, ℕ, ◌+◌, Bool, true, false, IsTrue, MatchBool, List, [], ◌∷◌, length, map, sym, subst, arith}
use Rattle.std.proofs.lemmas.List.Elements.{All-from_recursion, recursion_from_All}
use Rattle.std.proofs.lemmas.List.Sorted.{All-permutation}
use Rattle.std.specs.List.{AllByRecursion}
use Rattle.sqlite_trees.specs.declared.store.Store.{Ghosts}
use Rattle.sqlite_trees.specs.View.{doubt}
use Rattle.sqlite_value.specs.Order.{Row}
use Rattle.sqlite.specs.declared.error.Error.{Error}
use Rattle.sqlite.specs.Effect.{Database}
use Rattle.sqlite.specs.State.{HasCleanDisk}
use Rattle.sqlite.specs.Held.{Held, state}
use Rattle.uuid.proofs.TextLemmas.{by_index_length}
use Rattle.s2_cover.specs.declared.spans.Span.{Span}
use Rattle.volume4d.specs.Volume.{Block}
use Rattle.desk_rules.specs.Outcome.{is_live}
use Rattle.desk_sql.specs.declared.opening.finding.TablesPresent.{TablesPresent}
use Rattle.desk_sql.specs.Rows.{Tables, no_rows, tables_at}
use Rattle.desk_sql.specs.Effects.{StaysShown, OnlyReads}
use Rattle.desk_sql.specs.Statements.{IsRefusal}
use Rattle.desk_sql.specs.Changing.{IsShort, AreSmall, HasSmallSpans, IsSmall}
use Rattle.desk_store.specs.World.{Filed, World}
use Rattle.desk_store.proofs.lemmas.Order.{all_append}
use Rattle.row_codec.specs.Tables.{id_text, row_of_span, AreSpanRowsFrom, ArePlanSpanRows, AreSpanRows, IsFiled}
use Rattle.table_load.specs.Opening.{BlamesReading, IsContentOf, open_fault_of}
use Rattle.table_load.specs.Moving.{IsOldContentOf}
use Rattle.table_load.proofs.lemmas.Assembly.{filed_within}
use Rattle.table_load.proofs.lemmas.NewRow.{name_short}
use Rattle.table_load.proofs.lemmas.Opening.{blames_reading}

pub id_short : (id : List ℕ) → IsShort (id_text id)
id_short id = let long : length (id_text id) ≡ 36 = by_index_length 36 _ in omega (arith, long)

module _ (p : Filed) (name : IsShort p.operator) where
  volume_spans : (n : ℕ) (v : Block) (spans : List Span) → AreSmall (map (row_of_span p n v) spans)
  volume_spans n v [] = tt
  volume_spans n v (s ∷ spans) = (
    (name, (id_short p.row.id, (tt, (tt, (tt, (tt, (tt, (tt, (tt, (tt, tt)))))))))),
    volume_spans n v spans,
  )

  area_spans : (n : ℕ) (vs : List Block) (rows : List Row) → AreSpanRowsFrom p n vs rows → AreSmall rows
  area_spans n [] rows e = subst AreSmall (sym e) tt
  area_spans n (v ∷ vs) rows (spans, rest, ranges, are, then) =
      subst AreSmall (sym are) (all_append _ (map (row_of_span p n v) spans) rest (volume_spans n v spans)
      (area_spans (n + 1) vs rest then))

  plan_spans : (rows : List Row) → ArePlanSpanRows p rows → AreSmall rows
  plan_spans rows are = by_live (is_live p.row.usage) are where
    by_live : (b : Bool) → MatchBool b (AreSpanRowsFrom p 0 p.row.area rows) (rows ≡ []) → AreSmall rows
    by_live true k = area_spans 0 p.row.area rows k
    by_live false k = subst AreSmall (sym k) tt

all_spans : (ps : List Filed) (rows : List Row) → AllByRecursion IsFiled ps → AreSpanRows ps rows
    → AreSmall rows
all_spans [] rows within are = subst AreSmall (sym are) tt
all_spans (p ∷ ps) rows within (front, rest, is, of_plan, then) =
    subst AreSmall (sym is) (all_append _ front rest
    (plan_spans p (name_short p.operator within.0.operator) front of_plan) (all_spans ps rest within.1 then))

-- the tables of a content have small spans
pub small_spans : (t : Tables) (w : World) → IsContentOf t w → HasSmallSpans t
small_spans t w is = (
  subst AreSmall (sym is.tables.old.spans) tt,
  recursion_from_All (λ r. AllByRecursion IsSmall r) t.spans
      (All-permutation (λ r. AllByRecursion IsSmall r) is.tables.spans.0 t.spans is.tables.spans.2
      (All-from_recursion (λ r. AllByRecursion IsSmall r) is.tables.spans.0
      (all_spans w.plans is.tables.spans.0 (filed_within w is.content) is.tables.spans.1))),
)

-- and so have those of a content of schema 1
pub small_old_spans : (t : Tables) (w : World) → IsOldContentOf t w → HasSmallSpans t
small_old_spans t w is = (
  recursion_from_All (λ r. AllByRecursion IsSmall r) t.old_spans
      (All-permutation (λ r. AllByRecursion IsSmall r) is.tables.spans.0 t.old_spans is.tables.spans.2
      (All-from_recursion (λ r. AllByRecursion IsSmall r) is.tables.spans.0
      (all_spans w.plans is.tables.spans.0 (filed_within w is.content.content) is.tables.spans.1))),
  subst AreSmall (sym is.tables.new.spans) tt,
)

-- and so have tables that aren't made
pub blank_spans : HasSmallSpans no_rows
blank_spans = (tt, tt)

-- tables with the rows of a content are completed but for a refusal that is blamed as a reading is
pub blames_completing : {S : Type 0} (g : Ghosts S) (made : TablesPresent) (w : World) (old mid new : Held S)
    (error : Error) → OnlyReads g old mid
    → (HasCleanDisk (state g mid) → IsContentOf (tables_at made (state g old).now.trees) w)
    → doubt (state g mid).is_clean ≤ doubt (state g new).is_clean → StaysShown g mid new
    → (HasSmallSpans (tables_at made (state g mid).now.trees) → HasCleanDisk (state g new)
    → IsTrue (state g new).is_open → IsRefusal g mid new error)
    → BlamesReading g old new (open_fault_of error)
blames_completing g made w old mid new error reads content rises kept why =
    blames_reading g old mid new error reads.faults reads.limit
    (λ clean live.
    let early : HasCleanDisk (state g mid) = omega (arith, rises, clean) in
    let shows = reads.kept early (kept clean live).was_open in
    why (subst (λ (db : Database). HasSmallSpans (tables_at made db.trees)) (sym shows.now)
    (small_spans (tables_at made (state g old).now.trees) w (content early))) clean live)
