-- Each DROP over a packed file is refused only by memory and the disk.
use Rattle.std.proofs.Common.{◌≡◌, ◌≤◌, ◌∙◌, inl, inr, Some, None, Ok, Err, Result, IfErr, Option, slice_get, ℕ, false, List, [], refl, sym, ap, subst, IsTrue, true≢false, arith}
use Rattle.sqlite.specs.Schema.{Schema}
use Rattle.sqlite.specs.Table.{Table}
use Rattle.sqlite_schema.specs.declared.schema.Among.TheVariants.{All}
use Rattle.sqlite_schema.specs.declared.schema.Index.{Index}
use Rattle.sqlite_schema.specs.declared.schema.Keys.TheVariants.{Enforced}
use Rattle.sqlite_schema.specs.Rules.{Refers}
use Rattle.sqlite_catalog.specs.Calls.{RefusesToDropIndex}
use Rattle.sqlite_catalog.specs.Change.{without_table, without_index}
use Rattle.sqlite.specs.Command.TheVariants.{DropTable, DropIndex}
use Rattle.sqlite.specs.declared.error.Error.{Error}
use Rattle.sqlite.specs.Effect.{Database, IsDatabase, RefusesToAlter}
use Rattle.sqlite.specs.Does.{Does, Drops as Dropped, Empties, Leaves, Uncounts, is_acted_on}
use Rattle.sqlite.specs.Rows.{Task}
use Rattle.sqlite.specs.Tree.{Trees}
use Rattle.sqlite.specs.State.{ExecutesInside}
use Rattle.sqlite.specs.Store.{Ghosts}
use Rattle.sqlite.specs.Held.{Held, state}
use Rattle.sqlite.specs.Listing.{understood}
use Rattle.sqlite_tied.specs.Compute.{everything}
use Rattle.desk_sql.specs.declared.opening.finding.TablesPresent.TheVariants.{OldSpans, Packed}
use Rattle.desk_sql.specs.Schema.{packed_schema, old_table_schema, packed_volume_made, packed_span_made}
use Rattle.desk_sql.specs.Rows.{tables_at}
use Rattle.desk_sql.specs.Changing.{HasSmallSpans, IsWholeIn, MayStop, Drops, Unpacks, loose_schema, spanless_schema}
use Rattle.desk_sql.specs.Statements.{enforced, IsRefusal}
use Rattle.desk_sql.proofs.lemmas.Write.{is_writing}
use Rattle.desk_sql.proofs.lemmas.Stop.{caused_inside, whole_in}
use Rattle.desk_sql.proofs.lemmas.Rowid.{refusal_on}
use Rattle.desk_sql.proofs.lemmas.Key.{obeyed_refers}
use Rattle.desk_sql.proofs.StepStops.{stop_at}
use Rattle.desk_sql.proofs.DropLemmas.{DropsIndex, DropsTable, drop_old_leaf_index_text, drop_spans_text, drop_volumes_text, drops_old_first, drops_spans, drops_volumes, index_dropped, kept_counts, kept_rows, table_dropped}
use Rattle.desk_sql.proofs.DropLemmas.{packed_old_first_index}

-- ---- the index

module _ (schema : Schema) (text : List ℕ) (at : ℕ) (index : Index) (known : DropsIndex schema text at index)
  where
    still_there : (after : Schema) (trees : Trees) (stop : Option Error)
        → ¬ Leaves after trees (RefusesToAlter (RefusesToDropIndex index)) (Err stop)
    still_there after trees None h = h
    still_there after trees (Some e) (reason, (bad, own), is) = true≢false (sym own ∙ known.unreserved)

    index_never : (limit : Option ℕ) (db : Database) (stop : Option Error) → db.schema ≡ schema
        → IsDatabase db → ¬ MayStop text (understood schema text) [] limit db stop
    index_never limit db stop has sound h =
        let did = subst (λ t. Does limit enforced [] db t None (DropIndex at) (Err stop)) known.whole
        (stop_at text (understood schema text) limit db stop (DropIndex at) known.is h) in
        let there : slice_get db.schema.indexes at ≡ Some index =
        ap (λ (s : Schema). slice_get s.indexes at) has ∙ known.there in
        elim (rw there at did) [
          | inl stopped ↦ still_there (without_index db.schema index.tree) db.trees stopped.0 stopped.1
          | inr done ↦ absurd (let end = done.2 in cc)
        ]

-- ---- the tables

module _ (schema : Schema) (text : List ℕ) (at : ℕ) (table : Table) (known : DropsTable schema text at table)
  where
    not_emptied : (task : Task) (db : Trees) (stop : Option Error)
        → is_acted_on task.schema task.keys task.table ≡ false → ¬ Empties task db (Err stop)
    not_emptied task db stop calm h = absurd (let end = rw calm at h in cc)

    not_uncounted : (task : Task) (db : Trees) (stop : Option Error) → task.table.is_counted ≡ false
        → ¬ Uncounts task db (Err stop)
    not_uncounted task db stop uncounted h = absurd (let end = rw uncounted at h in cc)

    not_left : (after : Schema) (trees : Trees) (stop : Option Error)
        → ¬ Leaves after trees (λ _. ⊥) (Err stop)
    not_left after trees None h = h
    not_left after trees (Some e) h = h

    -- the foreign keys hold with the table and without it
    hold_without : (db : Database) (trees : Trees) → db.schema ≡ schema → IsDatabase db → trees ≡ db.trees
        → Refers All db.schema trees × Refers All (without_table db.schema table.tree) trees
    hold_without db trees has sound same =
        let refers : Refers All db.schema db.trees = obeyed_refers db.schema db.trees sound.obeys in
        let within : Refers All schema db.trees = subst (λ s. Refers All s db.trees) has refers in
        subst (λ ts. Refers All db.schema ts × Refers All (without_table db.schema table.tree) ts)
        (sym same) (
          refers,
          subst (λ s. Refers All (without_table s table.tree) db.trees) (sym has)
              (known.refers db.trees within),
        )

    table_never : (limit : Option ℕ) (db : Database) (stop : Option Error) → db.schema ≡ schema
        → IsDatabase db → ¬ MayStop text (understood schema text) [] limit db stop
    table_never limit db stop has sound h =
        let did = subst (λ t. Does limit enforced [] db t None (DropTable at) (Err stop)) known.whole
        (stop_at text (understood schema text) limit db stop (DropTable at) known.is h) in
        let there : slice_get db.schema.tables at ≡ Some table =
        ap (λ (s : Schema). slice_get s.tables at) has ∙ known.there in
        let task : Task = record {
          limit = limit;
          keys = Enforced;
          schema = db.schema;
          table = table;
          params = [];
        } in
        let calm : is_acted_on db.schema Enforced table ≡ false =
        ap (λ s. is_acted_on s Enforced table) has ∙ known.calm in
        let dropped : Dropped task enforced db.trees (Err stop) = rw there at did in
        elim dropped [
          | inl stopped ↦ not_emptied task db.trees stopped.0 calm stopped.1
          | inr emptied ↦ (elim emptied.2 [
            | inl stopped ↦ not_uncounted task emptied.0 stopped.0 known.uncounted stopped.1
            | inr counted ↦ (elim counted.2 [
              | inl stopped ↦ stopped.1.0 (hold_without db counted.0 has sound
                  (kept_counts task emptied.0 counted.0 known.uncounted counted.1
                  ∙ kept_rows task db.trees emptied.0 calm emptied.1))
              | inr tested ↦ (elim tested.2 [
                | inl stopped ↦ not_left (without_table db.schema table.tree) counted.0 stopped.0 stopped.1
                | inr done ↦ absurd (let end = done.2 in cc)
              ])
            ])
          ])
        ]

-- ---- the three texts

pub old_first_drops : Drops drop_old_leaf_index_text packed_schema loose_schema
unfolding understood everything packed_old_first_index
old_first_drops = record {
  plain = drops_old_first.plain;
  writes = is_writing (understood packed_schema drop_old_leaf_index_text) (DropIndex 6) drops_old_first.is tt
      drops_old_first.plain;
  rows = index_dropped packed_schema drop_old_leaf_index_text 6 packed_old_first_index drops_old_first;
  means = whole_in drop_old_leaf_index_text 0 (understood packed_schema drop_old_leaf_index_text) (DropIndex 6)
      drops_old_first.is drops_old_first.plain tt refl (omega arith);
  never = index_never packed_schema drop_old_leaf_index_text 6 packed_old_first_index drops_old_first;
}

pub spans_drop : Drops drop_spans_text loose_schema spanless_schema
unfolding understood everything
spans_drop = record {
  plain = drops_spans.plain;
  writes = is_writing (understood loose_schema drop_spans_text) (DropTable 5) drops_spans.is tt
      drops_spans.plain;
  rows = table_dropped loose_schema drop_spans_text 5 packed_span_made drops_spans;
  means = whole_in drop_spans_text 0 (understood loose_schema drop_spans_text) (DropTable 5) drops_spans.is
      drops_spans.plain tt refl (omega arith);
  never = table_never loose_schema drop_spans_text 5 packed_span_made drops_spans;
}

pub volumes_drop : Drops drop_volumes_text spanless_schema old_table_schema
unfolding understood everything
volumes_drop = record {
  plain = drops_volumes.plain;
  writes = is_writing (understood spanless_schema drop_volumes_text) (DropTable 4) drops_volumes.is tt
      drops_volumes.plain;
  rows = table_dropped spanless_schema drop_volumes_text 4 packed_volume_made drops_volumes;
  means = whole_in drop_volumes_text 0 (understood spanless_schema drop_volumes_text) (DropTable 4)
      drops_volumes.is drops_volumes.plain tt refl (omega arith);
  never = table_never spanless_schema drop_volumes_text 4 packed_volume_made drops_volumes;
}

-- ---- one after the other

-- a DROP that is refused after others is refused for a cause since the start
pub drop_refused : {S : Type 0} (g : Ghosts S) (before next : Schema) (old mid new : Held S) (text : List ℕ)
    → Drops text before next → (state g old).faults ≤ (state g mid).faults → mid.step_limit ≡ old.step_limit
    → IsTrue (state g mid).is_open → (state g mid).now.schema ≡ before → IsDatabase (state g mid).now
    → IsTrue mid.in_transaction → (e : Error)
    → (IsTrue mid.in_transaction → ExecutesInside 0 text [] (state g mid) (state g new) (Err e))
    → IsRefusal g old new e
drop_refused g before next old mid new text known faults limit live has sound begun e h =
    refusal_on g old mid new faults limit e
    (caused_inside text [] (state g mid) (state g new) e live
    (λ stop stops. absurd (known.never (state g mid).step_limit (state g mid).now stop has sound
    (subst (λ s. MayStop text (understood s text) [] (state g mid).step_limit (state g mid).now stop)
    has stops)))
    (subst (λ s. IsWholeIn text 0 (understood s text)) (sym has) known.means) (h begun))

module _ {S V : Type 0} (g : Ghosts S) (old mid new : Held S) (r : Result V Error) where
  -- once all were dropped, what is made anew is refused for a cause since the start
  pub remaking_refused : (state g old).faults ≤ (state g mid).faults → mid.step_limit ≡ old.step_limit
      → Unpacks g old mid → HasSmallSpans (tables_at Packed (state g old).now.trees)
      → (HasSmallSpans (tables_at OldSpans (state g mid).now.trees) → IsTrue (state g mid).is_open
      → IfErr r (IsRefusal g mid new)) → IfErr r (IsRefusal g old new)
  remaking_refused faults limit less small why =
      since r (why (subst HasSmallSpans (sym less.same) (small.0, tt)) less.is_open) where
        since : (r : Result V Error) → IfErr r (IsRefusal g mid new) → IfErr r (IsRefusal g old new)
        since (Ok v) h = tt
        since (Err e) h = refusal_on g old mid new faults limit e h
