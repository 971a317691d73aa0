-- What each DROP leaves.
use Rattle.std.proofs.Common.{◌≡◌, Some, None, Ok, Option, slice_get, ℕ, false, true, List, [], refl, sym, ap, subst, ◌∙◌, IsTrue, true≢false}
use Rattle.std.specs.Prelude.{codes}
use Rattle.sqlite.specs.Schema.{Schema}
use Rattle.sqlite.specs.Table.{Table}
use Rattle.sqlite_schema.specs.declared.schema.Index.{Index}
use Rattle.sqlite_schema.specs.declared.schema.Keys.TheVariants.{Enforced}
use Rattle.sqlite_catalog.specs.Change.{without_table, without_index, is_reserved, KeepsRows}
use Rattle.sqlite_schema.specs.Rules.{Refers}
use Rattle.sqlite_schema.specs.declared.schema.Among.TheVariants.{All}
use Rattle.sqlite.specs.Command.TheVariants.{DropTable, DropIndex}
use Rattle.sqlite.specs.Effect.{Database, IsDatabase}
use Rattle.sqlite.specs.Does.{Tally, Does, Drops as Dropped, Empties, Uncounts, is_acted_on}
use Rattle.sqlite.specs.Rows.{Task}
use Rattle.sqlite.specs.Tree.{Trees}
use Rattle.sqlite.specs.State.{HasCleanDisk, Executes, Shows}
use Rattle.sqlite.specs.Store.{Ghosts}
use Rattle.sqlite.specs.Held.{Held, state}
use Rattle.sqlite.specs.Listing.{understood}
use Rattle.sqlite.proofs.Callers.{IsPlain, command_of, statement_of}
use Rattle.sqlite_tied.specs.Compute.{everything}
use Rattle.desk_sql.specs.declared.opening.finding.TablesPresent.TheVariants.{OldSpans, Packed}
use Rattle.desk_sql.specs.declared.opening.numbers.DeskTable.TheVariants as desk
use Rattle.desk_sql.specs.Schema.{beside_of, packed_schema, old_table_schema, packed_volume_made, packed_span_made, has_table, tree_of}
use Rattle.desk_sql.specs.Rows.{IsMadeTo, AreNumbered}
use Rattle.desk_sql.specs.Effects.{Holds, Makes}
use Rattle.desk_sql.specs.Statements.{MayWrite, enforced}
use Rattle.desk_sql.specs.Changing.{Finishes, Drops, Unpacks, RemakesTables, loose_schema, spanless_schema}
use Rattle.desk_sql.proofs.lemmas.Write.{went, same_value, does_command, ran, ran_sound}
use Rattle.desk_sql.specs.Schema.{old_span_first}

-- `span_first` as it stands in a packed file
unfoldable pub packed_old_first_index : Index
packed_old_first_index = record old_span_first { tree = 12 }

abbrev pub drop_old_leaf_index_text : List ℕ
drop_old_leaf_index_text = codes "DROP INDEX span_first"

abbrev pub drop_spans_text : List ℕ
drop_spans_text = codes "DROP TABLE span2"

abbrev pub drop_volumes_text : List ℕ
drop_volumes_text = codes "DROP TABLE volume2"

-- ---- the index

-- a text that drops the index at a place, over this schema
pub record DropsIndex (schema : Schema) (text : List ℕ) (at : ℕ) (index : Index) : Type 0 where
  pub is : command_of (understood schema text) ≡ DropIndex at
  pub plain : IsPlain (understood schema text)
  pub whole : statement_of text (understood schema text) ≡ text
  pub there : slice_get schema.indexes at ≡ Some index
  pub unreserved : is_reserved index.name ≡ false

pub index_dropped : (schema : Schema) (text : List ℕ) (at : ℕ) (index : Index)
    → DropsIndex schema text at index → (limit : Option ℕ) (old new : Database) → old.schema ≡ schema
    → MayWrite text (understood schema text) [] limit old new
    → (new.schema ≡ without_index schema index.tree)
    × KeepsRows (without_index schema index.tree).tables old.trees new.trees
index_dropped schema text at index known limit old new has h =
    let did = does_command text (understood schema text) [] limit old new (DropIndex at) known.is h in
    let done = subst (λ t. Does limit enforced [] old t None (DropIndex at) (Ok (did.0, new))) known.whole
    did.1 in
    let there : slice_get old.schema.indexes at ≡ Some index =
    ap (λ (s : Schema). slice_get s.indexes at) has ∙ known.there in
    let made = went (rw there at done) in
    let now : new ≡ made.0 = ap (λ (p : Tally × Database). p.1) (same_value made.2) in
    let schema_is : made.0.schema ≡ without_index schema index.tree =
    made.1.0 ∙ ap (λ s. without_index s index.tree) has in
    let rows : KeepsRows (without_index schema index.tree).tables old.trees made.0.trees =
    subst (λ s. KeepsRows (without_index s index.tree).tables old.trees made.0.trees) has made.1.1 in (
      ap (λ d. d.schema) now ∙ schema_is,
      subst (λ (d : Database). KeepsRows (without_index schema index.tree).tables old.trees d.trees) (sym now)
          rows,
    )

-- ---- the tables

-- a text that drops the table at a place, to which nothing refers, over this schema
pub record DropsTable (schema : Schema) (text : List ℕ) (at : ℕ) (table : Table) : Type 0 where
  pub is : command_of (understood schema text) ≡ DropTable at
  pub plain : IsPlain (understood schema text)
  pub whole : statement_of text (understood schema text) ≡ text
  pub there : slice_get schema.tables at ≡ Some table
  pub calm : is_acted_on schema Enforced table ≡ false
  pub uncounted : table.is_counted ≡ false
  pub refers : (db : Trees) → Refers All schema db → Refers All (without_table schema table.tree) db

-- nothing is deleted first
pub kept_rows : (task : Task) (db out : Trees) → is_acted_on task.schema task.keys task.table ≡ false
    → Empties task db (Ok out) → out ≡ db
kept_rows task db out calm h = same_value (rw calm at h)

pub kept_counts : (task : Task) (db out : Trees) → task.table.is_counted ≡ false → Uncounts task db (Ok out)
    → out ≡ db
kept_counts task db out uncounted h = same_value (rw uncounted at h)

pub table_dropped : (schema : Schema) (text : List ℕ) (at : ℕ) (table : Table)
    → DropsTable schema text at table → (limit : Option ℕ) (old new : Database) → old.schema ≡ schema
    → MayWrite text (understood schema text) [] limit old new
    → (new.schema ≡ without_table schema table.tree)
    × KeepsRows (without_table schema table.tree).tables old.trees new.trees
table_dropped schema text at table known limit old new has h =
    let did = does_command text (understood schema text) [] limit old new (DropTable at) known.is h in
    let done = subst (λ t. Does limit enforced [] old t None (DropTable at) (Ok (did.0, new))) known.whole
    did.1 in
    let there : slice_get old.schema.tables at ≡ Some table =
    ap (λ (s : Schema). slice_get s.tables at) has ∙ known.there in
    let task : Task = record {
      limit = limit;
      keys = Enforced;
      schema = old.schema;
      table = table;
      params = [];
    } in
    let dropped : Dropped task enforced old.trees (Ok (did.0, new)) = rw there at done in
    let emptied = went dropped in
    let calm : is_acted_on old.schema Enforced table ≡ false =
    ap (λ s. is_acted_on s Enforced table) has ∙ known.calm in
    let as_before : emptied.0 ≡ old.trees = kept_rows task old.trees emptied.0 calm emptied.1 in
    let uncounted = went emptied.2 in
    let still : uncounted.0 ≡ emptied.0 =
    kept_counts task emptied.0 uncounted.0 known.uncounted uncounted.1 in
    let tested = went uncounted.2 in
    let left = went tested.2 in
    let now : new ≡ left.0 = ap (λ (p : Tally × Database). p.1) (same_value left.2) in
    let schema_is : left.0.schema ≡ without_table schema table.tree =
    left.1.0 ∙ ap (λ s. without_table s table.tree) has in
    let first : KeepsRows (without_table old.schema table.tree).tables old.trees left.0.trees =
    subst (λ trees. KeepsRows (without_table old.schema table.tree).tables trees left.0.trees)
    (still ∙ as_before) left.1.1 in
    let rows : KeepsRows (without_table schema table.tree).tables old.trees left.0.trees =
    subst (λ s. KeepsRows (without_table s table.tree).tables old.trees left.0.trees) has first in (
      ap (λ d. d.schema) now ∙ schema_is,
      subst (λ (d : Database). KeepsRows (without_table schema table.tree).tables old.trees d.trees) (sym now)
          rows,
    )

-- ---- the three texts

pub drops_old_first : DropsIndex packed_schema drop_old_leaf_index_text 6 packed_old_first_index
unfolding understood everything packed_old_first_index
drops_old_first = record {
  is = refl;
  plain = (refl, refl);
  whole = refl;
  there = refl;
  unreserved = refl;
}

pub drops_spans : DropsTable loose_schema drop_spans_text 5 packed_span_made
unfolding understood everything
drops_spans = record {
  is = refl;
  plain = (refl, refl);
  whole = refl;
  there = refl;
  calm = refl;
  uncounted = refl;
  refers = λ db h. (h.0, (h.1.0, (h.1.1.0, (h.1.1.1.0, (h.1.1.1.1.0, tt)))));
}

pub drops_volumes : DropsTable spanless_schema drop_volumes_text 4 packed_volume_made
unfolding understood everything
drops_volumes = record {
  is = refl;
  plain = (refl, refl);
  whole = refl;
  there = refl;
  calm = refl;
  uncounted = refl;
  refers = λ db h. (h.0, (h.1.0, (h.1.1.0, (h.1.1.1.0, tt))));
}

-- ---- one after the other

-- within a transaction, which goes on, something was dropped
pub record Shrinks {S : Type 0} (g : Ghosts S) (next : Schema) (old new : Held S) : Type 0 where
  pub was_open : IsTrue (state g old).is_open
  pub is_open : IsTrue (state g new).is_open
  pub begun : IsTrue new.in_transaction
  pub committed : (state g new).committed ≡ (state g old).committed
  pub schema : (state g new).now.schema ≡ next
  pub sound : IsDatabase (state g new).now
  pub rows : KeepsRows next.tables (state g old).now.trees (state g new).now.trees

pub shrinks : {S : Type 0} (g : Ghosts S) (before next : Schema) (old new : Held S) (text : List ℕ)
    → Drops text before next → Holds g old (λ db. db.schema ≡ before) → HasCleanDisk (state g old)
    → Shows (state g old) (state g new) (state g new).now (state g old).committed true → (count : ℕ)
    → Executes text [] (state g old) (state g new) (Ok count) → Shrinks g next old new
shrinks g before next old new text known holds clean shows count h =
    let was = holds clean shows.was_open in
    let done = known.rows (state g old).step_limit (state g old).now (state g new).now was
    (ran text [] (state g old) (state g new) before was known.plain known.writes count h) in
    record {
      was_open = shows.was_open;
      is_open = shows.is_open;
      begun = shows.mode;
      committed = shows.committed_is;
      schema = done.0;
      sound = ran_sound text [] (state g old) (state g new) before was known.plain known.writes count h;
      rows = done.1;
    }

-- all three were dropped
pub unpacked : {S : Type 0} (g : Ghosts S) (a b c d : Held S) → Holds g a (IsMadeTo Packed)
    → HasCleanDisk (state g a) → Shrinks g loose_schema a b → Shrinks g spanless_schema b c
    → Shrinks g old_table_schema c d → Unpacks g a d
unpacked g a b c d packed clean one two three =
    let was = packed clean one.was_open in
    let first : (state g d).now.trees 0 ≡ (state g a).now.trees 0 =
    three.rows.0 ∙ two.rows.0 ∙ one.rows.0 in
    let second : (state g d).now.trees 2 ≡ (state g a).now.trees 2 =
    three.rows.1.0 ∙ two.rows.1.0 ∙ one.rows.1.0 in
    let third : (state g d).now.trees 4 ≡ (state g a).now.trees 4 =
    three.rows.1.1.0 ∙ two.rows.1.1.0 ∙ one.rows.1.1.0 in
    let fourth : (state g d).now.trees 6 ≡ (state g a).now.trees 6 =
    three.rows.1.1.1.0 ∙ two.rows.1.1.1.0 ∙ one.rows.1.1.1.0 in
    record {
      was_open = one.was_open;
      is_open = three.is_open;
      begun = three.begun;
      committed = three.committed ∙ two.committed ∙ one.committed;
      beside = ap beside_of three.schema ∙ sym (ap beside_of was.schema);
      has = record {
        schema = three.schema;
        rows = λ table there. elim table as (λ t. has_table OldSpans t ≡ true
            → AreNumbered ((state g d).now.trees (tree_of t))) [
              | desk.Operator ↦ λ there. subst AreNumbered (sym first) (was.rows desk.Operator refl)
              | desk.Plan ↦ λ there. subst AreNumbered (sym second) (was.rows desk.Plan refl)
              | desk.OldVolume ↦ λ there. subst AreNumbered (sym third) (was.rows desk.OldVolume refl)
              | desk.OldSpan ↦ λ there. subst AreNumbered (sym fourth) (was.rows desk.OldSpan refl)
              | desk.Volume ↦ λ there. absurd (true≢false (sym there))
              | desk.Span ↦ λ there. absurd (true≢false (sym there))
              | desk.PackedVolume ↦ λ there. absurd (true≢false (sym there))
              | desk.PackedSpan ↦ λ there. absurd (true≢false (sym there))
            ] there;
      };
      sound = three.sound;
      same = rw (first, second, third, fourth);
    }

-- and made anew
pub remade : {S : Type 0} (g : Ghosts S) (old mid new : Held S) → Unpacks g old mid
    → Finishes g OldSpans mid new → Makes g old new RemakesTables
remade g old mid new less more = record {
  was_open = less.was_open;
  is_open = more.is_open;
  begun = more.begun;
  committed = more.committed ∙ less.committed;
  desk = more.desk;
  beside = more.beside ∙ less.beside;
  sound = more.sound;
  changed = more.same ∙ less.same;
}
