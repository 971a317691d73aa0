-- What each CREATE makes.
use Rattle.std.proofs.Common.{◌≡◌, ◌≢◌, ◌⊎◌, inl, inr, Some, slice_get, ap₂, ℕ, false, List, [], None, Ok, refl, sym, ap, subst, ◌∙◌, true, Option, IsTrue, true≢false, arith}
use Rattle.std.specs.List.{AllByRecursion}
use Rattle.sqlite.specs.Schema.{Schema}
use Rattle.sqlite.specs.Table.{Table}
use Rattle.sqlite_schema.specs.declared.schema.Index.{Index}
use Rattle.sqlite_catalog.specs.Change.{created, indexed, next_tree, KeepsRows}
use Rattle.sqlite_resolve.specs.Compile.{table_defined_by, index_defined_by}
use Rattle.sqlite.specs.Command.TheVariants.{CreateTable, CreateIndex}
use Rattle.sqlite.specs.Effect.{Database, IsDatabase}
use Rattle.sqlite.specs.Does.{Tally, Does, lacks_sequence}
use Rattle.sqlite.specs.State.{HasCleanDisk, Executes, Shows, Survives}
use Rattle.sqlite.specs.Store.{Ghosts}
use Rattle.sqlite.specs.Held.{Held, state}
use Rattle.sqlite.specs.Listing.{understood}
use Rattle.sqlite.proofs.Callers.{IsPlain, command_of, statement_of}
use Rattle.sqlite_tied.specs.Compute.{everything}
use Rattle.desk_sql.specs.declared.opening.finding.TablesPresent.{TablesPresent}
use Rattle.desk_sql.specs.declared.opening.finding.TablesPresent.TheVariants.{Nothing, Operators, Plans, OldVolumes, OldSpans, OldIndex, Volumes, Spans, All, Packed}
use Rattle.desk_sql.specs.declared.opening.numbers.DeskTable.TheVariants as desk
use Rattle.desk_sql.specs.Schema.{blank_schema, operator_schema, plan_schema, old_volume_schema, old_table_schema, old_schema, volume_schema, table_schema, desk_schema, desk_with, desk_in, beside_of, IsDeskSchema, IsSchemaOf, schema_of, has_table, tree_of, operator_table, plan_table, old_volume_table, old_span_table, old_span_made, old_span_first, volume_table, span_table, span_made, span_first}
use Rattle.desk_sql.specs.Changing.{left_to_make, Finishes, Completes, MayComplete}
use Rattle.desk_sql.specs.Rows.{IsDesk, IsMadeTo, AreNumbered, tables_at, tables_of}
use Rattle.desk_sql.specs.Effects.{Holds, Spares, Remembers}
use Rattle.desk_sql.proofs.lemmas.Leaving.{remembers_then}
use Rattle.desk_sql.specs.Statements.{MayWrite, Extends, enforced}
use Rattle.desk_sql.proofs.lemmas.Texts.{operator_text, plan_text, old_volume_text, old_span_text, old_leaf_index_text, volume_text, span_text, leaf_index_text}
use Rattle.desk_sql.proofs.TextLemmas.{operator_is, plan_is, old_volume_is, old_span_is, old_first_is, volume_is, span_is, first_is}
use Rattle.desk_sql.proofs.lemmas.Write.{went, same_value, does_command, is_writing, ran, ran_sound}

-- within a transaction, which goes on, `made` became `next`, and the rows that there were stayed
pub record GrowsTables {S : Type 0} (g : Ghosts S) (made next : TablesPresent) (old new : Held S) : Type
    0 where
  pub was_open : IsTrue (state g old).is_open
  pub is_open : IsTrue (state g new).is_open
  pub begun : IsTrue new.in_transaction
  pub committed : (state g new).committed ≡ (state g old).committed
  pub has : IsMadeTo next (state g new).now
  pub beside : beside_of (state g new).now.schema ≡ beside_of (state g old).now.schema
  pub sound : IsDatabase (state g new).now
  pub same : tables_at next (state g new).now.trees ≡ tables_at made (state g old).now.trees

-- a text that makes this table, over this schema
pub record MakesTable (schema : Schema) (text : List ℕ) (table : Table) : Type 0 where
  pub is : command_of (understood schema text) ≡ CreateTable
  pub plain : IsPlain (understood schema text)
  pub whole : statement_of text (understood schema text) ≡ text
  pub defined : table_defined_by text ≡ Ok table
  pub uncounted : lacks_sequence (created schema table) ≡ false

-- what is made of old trees: a table without rows, and the rows of the others
pub record IsAdded (schema : Schema) (table : Table) (old new : Database) : Type 0 where
  pub schema_is : new.schema ≡ created schema table
  pub empty : new.trees (next_tree schema) ≡ []
  pub kept : AllByRecursion (λ (t : Table). new.trees t.tree ≡ old.trees t.tree) schema.tables

creates : (schema : Schema) (text : List ℕ) (table : Table) → MakesTable schema text table
    → (limit : Option ℕ) (old new : Database) → old.schema ≡ schema
    → MayWrite text (understood schema text) [] limit old new → IsAdded schema table old new
creates schema text table known limit old new has h =
    let did = does_command text (understood schema text) [] limit old new CreateTable known.is h in
    let all = went (subst (λ t. Does limit enforced [] old t None CreateTable (Ok (did.0, new))) known.whole
    did.1) in
    let first = went all.1 in
    let made = first.1 in
    let both : Ok made.table ≡ Ok table = sym made.defined ∙ known.defined in
    let same : made.table ≡ table = same_value both in
    let schema_is : first.0.schema ≡ created schema table = made.is
    ∙ ap (λ s. created s made.table) has ∙ ap (created schema) same in
    let plain : lacks_sequence first.0.schema ≡ false = ap lacks_sequence schema_is ∙ known.uncounted in
    let now : new ≡ first.0 = ap (λ (p : Tally × Database). p.1) (same_value all.2)
    ∙ same_value (rw plain at first.2) in
    let last : first.0.trees (next_tree schema) ≡ [] =
    subst (λ s. first.0.trees (next_tree s) ≡ []) has made.empty in
    let kept = subst (λ s. AllByRecursion (λ (t : Table). first.0.trees t.tree ≡ old.trees t.tree)
    s.tables) has made.others in
    subst (IsAdded schema table old) (sym now)
    (record { schema_is = schema_is; empty = last; kept = kept })

none : AreNumbered []
none = record { whole = tt; distinct = tt }

-- beside tables of which some are missing there are no others
pub alone : (made : TablesPresent) (schema : Schema) → left_to_make made ≢ 0 → IsSchemaOf made schema
    → schema ≡ schema_of made
alone Nothing schema lacks is = is
alone Operators schema lacks is = is
alone Plans schema lacks is = is
alone OldVolumes schema lacks is = is
alone OldSpans schema lacks is = is
alone OldIndex schema lacks is = is
alone Volumes schema lacks is = is
alone Spans schema lacks is = is
alone All schema lacks is = absurd (lacks refl)
alone Packed schema lacks is = is

-- what a table more makes of what is made so far
abbrev Grown : TablesPresent → TablesPresent → Table → Type 0
Grown made next table = (old new : Database) → IsMadeTo made old → IsAdded (schema_of made) table old new
    → IsMadeTo next new × (tables_at next new.trees ≡ tables_at made old.trees)
    × (beside_of new.schema ≡ beside_of old.schema)

extends_by : (made next : TablesPresent) (text : List ℕ) (table : Table)
    → left_to_make made ≢ 0 → MakesTable (schema_of made) text table
    → Grown made next table → Extends text made next
extends_by made next text table lacks known grown = record {
  plain = known.plain;
  writes = is_writing (understood (schema_of made) text) CreateTable known.is tt known.plain;
  tables = λ limit old new was h. grown old new was
      (creates (schema_of made) text table known limit old new (alone made old.schema lacks was.schema) h);
}

operators_grown : Grown Nothing Operators operator_table
operators_grown old new was added = (
  record {
    schema = added.schema_is;
    rows = λ table there. elim table as (λ t. has_table Operators t ≡ true
        → AreNumbered (new.trees (tree_of t))) [
          | desk.Operator ↦ λ there. subst AreNumbered (sym added.empty) none
          | desk.Plan ↦ λ there. absurd (true≢false (sym there))
          | desk.OldVolume ↦ λ there. absurd (true≢false (sym there))
          | desk.OldSpan ↦ λ there. absurd (true≢false (sym there))
          | desk.Volume ↦ λ there. absurd (true≢false (sym there))
          | desk.Span ↦ λ there. absurd (true≢false (sym there))
          | desk.PackedVolume ↦ λ there. absurd (true≢false (sym there))
          | desk.PackedSpan ↦ λ there. absurd (true≢false (sym there))
        ] there;
  },
  rw added.empty,
  ap beside_of added.schema_is ∙ sym (ap beside_of was.schema),
)

plans_grown : Grown Operators Plans plan_table
plans_grown old new was added = (
  record {
    schema = added.schema_is;
    rows = λ table there. elim table as (λ t. has_table Plans t ≡ true
        → AreNumbered (new.trees (tree_of t))) [
          | desk.Operator ↦ λ there. subst AreNumbered (sym added.kept.0) (was.rows desk.Operator refl)
          | desk.Plan ↦ λ there. subst AreNumbered (sym added.empty) none
          | desk.OldVolume ↦ λ there. absurd (true≢false (sym there))
          | desk.OldSpan ↦ λ there. absurd (true≢false (sym there))
          | desk.Volume ↦ λ there. absurd (true≢false (sym there))
          | desk.Span ↦ λ there. absurd (true≢false (sym there))
          | desk.PackedVolume ↦ λ there. absurd (true≢false (sym there))
          | desk.PackedSpan ↦ λ there. absurd (true≢false (sym there))
        ] there;
  },
  rw (added.kept.0, added.empty),
  ap beside_of added.schema_is ∙ sym (ap beside_of was.schema),
)

old_volumes_grown : Grown Plans OldVolumes old_volume_table
old_volumes_grown old new was added = (
  record {
    schema = added.schema_is;
    rows = λ table there. elim table as (λ t. has_table OldVolumes t ≡ true
        → AreNumbered (new.trees (tree_of t))) [
          | desk.Operator ↦ λ there. subst AreNumbered (sym added.kept.0) (was.rows desk.Operator refl)
          | desk.Plan ↦ λ there. subst AreNumbered (sym added.kept.1.0) (was.rows desk.Plan refl)
          | desk.OldVolume ↦ λ there. subst AreNumbered (sym added.empty) none
          | desk.OldSpan ↦ λ there. absurd (true≢false (sym there))
          | desk.Volume ↦ λ there. absurd (true≢false (sym there))
          | desk.Span ↦ λ there. absurd (true≢false (sym there))
          | desk.PackedVolume ↦ λ there. absurd (true≢false (sym there))
          | desk.PackedSpan ↦ λ there. absurd (true≢false (sym there))
        ] there;
  },
  rw (added.kept.0, added.kept.1.0, added.empty),
  ap beside_of added.schema_is ∙ sym (ap beside_of was.schema),
)

old_spans_grown : Grown OldVolumes OldSpans old_span_table
old_spans_grown old new was added = (
  record {
    schema = added.schema_is;
    rows = λ table there. elim table as (λ t. has_table OldSpans t ≡ true
        → AreNumbered (new.trees (tree_of t))) [
          | desk.Operator ↦ λ there. subst AreNumbered (sym added.kept.0) (was.rows desk.Operator refl)
          | desk.Plan ↦ λ there. subst AreNumbered (sym added.kept.1.0) (was.rows desk.Plan refl)
          | desk.OldVolume ↦ λ there. subst AreNumbered (sym added.kept.1.1.0) (was.rows desk.OldVolume refl)
          | desk.OldSpan ↦ λ there. subst AreNumbered (sym added.empty) none
          | desk.Volume ↦ λ there. absurd (true≢false (sym there))
          | desk.Span ↦ λ there. absurd (true≢false (sym there))
          | desk.PackedVolume ↦ λ there. absurd (true≢false (sym there))
          | desk.PackedSpan ↦ λ there. absurd (true≢false (sym there))
        ] there;
  },
  rw (added.kept.0, added.kept.1.0, added.kept.1.1.0, added.empty),
  ap beside_of added.schema_is ∙ sym (ap beside_of was.schema),
)

volumes_grown : Grown OldIndex Volumes volume_table
volumes_grown old new was added = (
  record {
    schema = added.schema_is;
    rows = λ table there. elim table as (λ t. has_table Volumes t ≡ true
        → AreNumbered (new.trees (tree_of t))) [
          | desk.Operator ↦ λ there. subst AreNumbered (sym added.kept.0) (was.rows desk.Operator refl)
          | desk.Plan ↦ λ there. subst AreNumbered (sym added.kept.1.0) (was.rows desk.Plan refl)
          | desk.OldVolume ↦ λ there. subst AreNumbered (sym added.kept.1.1.0) (was.rows desk.OldVolume refl)
          | desk.OldSpan ↦ λ there. subst AreNumbered (sym added.kept.1.1.1.0) (was.rows desk.OldSpan refl)
          | desk.Volume ↦ λ there. subst AreNumbered (sym added.empty) none
          | desk.Span ↦ λ there. absurd (true≢false (sym there))
          | desk.PackedVolume ↦ λ there. absurd (true≢false (sym there))
          | desk.PackedSpan ↦ λ there. absurd (true≢false (sym there))
        ] there;
  },
  rw (added.kept.0, added.kept.1.0, added.kept.1.1.0, added.kept.1.1.1.0, added.empty),
  ap beside_of added.schema_is ∙ sym (ap beside_of was.schema),
)

spans_grown : Grown Volumes Spans span_table
spans_grown old new was added = (
  record {
    schema = added.schema_is;
    rows = λ table there. elim table as (λ t. has_table Spans t ≡ true
        → AreNumbered (new.trees (tree_of t))) [
          | desk.Operator ↦ λ there. subst AreNumbered (sym added.kept.0) (was.rows desk.Operator refl)
          | desk.Plan ↦ λ there. subst AreNumbered (sym added.kept.1.0) (was.rows desk.Plan refl)
          | desk.OldVolume ↦ λ there. subst AreNumbered (sym added.kept.1.1.0) (was.rows desk.OldVolume refl)
          | desk.OldSpan ↦ λ there. subst AreNumbered (sym added.kept.1.1.1.0) (was.rows desk.OldSpan refl)
          | desk.Volume ↦ λ there. subst AreNumbered (sym added.kept.1.1.1.1.0) (was.rows desk.Volume refl)
          | desk.Span ↦ λ there. subst AreNumbered (sym added.empty) none
          | desk.PackedVolume ↦ λ there. absurd (true≢false (sym there))
          | desk.PackedSpan ↦ λ there. absurd (true≢false (sym there))
        ] there;
  },
  rw (
    added.kept.0,
    added.kept.1.0,
    added.kept.1.1.0,
    added.kept.1.1.1.0,
    added.kept.1.1.1.1.0,
    added.empty,
  ),
  ap beside_of added.schema_is ∙ sym (ap beside_of was.schema),
)

pub operator_makes : MakesTable blank_schema operator_text operator_table
unfolding understood everything
operator_makes = record {
  is = refl;
  plain = (refl, refl);
  whole = refl;
  defined = operator_is;
  uncounted = refl;
}

pub operator_extends : Extends operator_text Nothing Operators
operator_extends = extends_by Nothing Operators operator_text operator_table (λ none. cc) operator_makes
    operators_grown

pub plan_makes : MakesTable operator_schema plan_text plan_table
unfolding understood everything
plan_makes = record {
  is = refl;
  plain = (refl, refl);
  whole = refl;
  defined = plan_is;
  uncounted = refl;
}

pub plan_extends : Extends plan_text Operators Plans
plan_extends = extends_by Operators Plans plan_text plan_table (λ none. cc) plan_makes plans_grown

pub old_volume_makes : MakesTable plan_schema old_volume_text old_volume_table
unfolding understood everything
old_volume_makes = record {
  is = refl;
  plain = (refl, refl);
  whole = refl;
  defined = old_volume_is;
  uncounted = refl;
}

pub old_volume_extends : Extends old_volume_text Plans OldVolumes
old_volume_extends =
    extends_by Plans OldVolumes old_volume_text old_volume_table (λ none. cc) old_volume_makes old_volumes_grown

pub old_span_makes : MakesTable old_volume_schema old_span_text old_span_table
unfolding understood everything
old_span_makes = record {
  is = refl;
  plain = (refl, refl);
  whole = refl;
  defined = old_span_is;
  uncounted = refl;
}

pub old_span_extends : Extends old_span_text OldVolumes OldSpans
old_span_extends = extends_by OldVolumes OldSpans old_span_text old_span_table (λ none. cc) old_span_makes
    old_spans_grown

pub volume_makes : MakesTable old_schema volume_text volume_table
unfolding understood everything
volume_makes = record {
  is = refl;
  plain = (refl, refl);
  whole = refl;
  defined = volume_is;
  uncounted = refl;
}

pub volume_extends : Extends volume_text OldIndex Volumes
volume_extends = extends_by OldIndex Volumes volume_text volume_table (λ none. cc) volume_makes volumes_grown

pub span_makes : MakesTable volume_schema span_text span_table
unfolding understood everything
span_makes = record {
  is = refl;
  plain = (refl, refl);
  whole = refl;
  defined = span_is;
  uncounted = refl;
}

pub span_extends : Extends span_text Volumes Spans
span_extends = extends_by Volumes Spans span_text span_table (λ none. cc) span_makes spans_grown

-- ---- the indexes

-- a text that makes this index on the table at a place, over this schema
pub record MakesIndex (schema : Schema) (text : List ℕ) (at : ℕ) (table : Table) (index : Index)
    : Type 0 where
  pub is : command_of (understood schema text) ≡ CreateIndex at
  pub plain : IsPlain (understood schema text)
  pub whole : statement_of text (understood schema text) ≡ text
  pub there : slice_get schema.tables at ≡ Some table
  pub defined : index_defined_by table text ≡ Ok index

indexes : (schema : Schema) (text : List ℕ) (at : ℕ) (table : Table) (index : Index)
    → MakesIndex schema text at table index → (limit : Option ℕ) (old new : Database)
    → old.schema ≡ schema → MayWrite text (understood schema text) [] limit old new
    → (new.schema ≡ indexed schema table index) × KeepsRows schema.tables old.trees new.trees
indexes schema text at table index known limit old new has h =
    let did = does_command text (understood schema text) [] limit old new (CreateIndex at) known.is h in
    let done = subst (λ t. Does limit enforced [] old t None (CreateIndex at) (Ok (did.0, new))) known.whole
    did.1 in
    let there : slice_get old.schema.tables at ≡ Some table =
    ap (λ s. slice_get s.tables at) has ∙ known.there in
    let made = went (rw there at done) in
    let first = made.1 in
    let both : Ok first.index ≡ Ok index = sym first.defined ∙ known.defined in
    let same : first.index ≡ index = same_value both in
    let now : new ≡ made.0 = ap (λ (p : Tally × Database). p.1) (same_value made.2) in
    let schema_is : made.0.schema ≡ indexed schema table index =
    first.is ∙ ap₂ (λ s i. indexed s table i) has same in
    let rows : KeepsRows schema.tables old.trees made.0.trees =
    subst (λ s. KeepsRows s.tables old.trees made.0.trees) has first.rows in (
      ap (λ d. d.schema) now ∙ schema_is,
      subst (λ (d : Database). KeepsRows schema.tables old.trees d.trees) (sym now) rows,
    )

pub old_first_makes : MakesIndex old_table_schema old_leaf_index_text 3 old_span_made old_span_first
unfolding understood everything
old_first_makes = record {
  is = refl;
  plain = (refl, refl);
  whole = refl;
  there = refl;
  defined = old_first_is;
}

-- the index leaves all rows
old_first_grown : (old new : Database) → IsMadeTo OldSpans old → new.schema ≡ old_schema
    → KeepsRows old_table_schema.tables old.trees new.trees
    → IsMadeTo OldIndex new × (tables_at OldIndex new.trees ≡ tables_at OldSpans old.trees)
    × (beside_of new.schema ≡ beside_of old.schema)
old_first_grown old new was schema kept = (
  record {
    schema = schema;
    rows = λ table there. elim table as (λ t. has_table OldIndex t ≡ true
        → AreNumbered (new.trees (tree_of t))) [
          | desk.Operator ↦ λ there. subst AreNumbered (sym kept.0) (was.rows desk.Operator refl)
          | desk.Plan ↦ λ there. subst AreNumbered (sym kept.1.0) (was.rows desk.Plan refl)
          | desk.OldVolume ↦ λ there. subst AreNumbered (sym kept.1.1.0) (was.rows desk.OldVolume refl)
          | desk.OldSpan ↦ λ there. subst AreNumbered (sym kept.1.1.1.0) (was.rows desk.OldSpan refl)
          | desk.Volume ↦ λ there. absurd (true≢false (sym there))
          | desk.Span ↦ λ there. absurd (true≢false (sym there))
          | desk.PackedVolume ↦ λ there. absurd (true≢false (sym there))
          | desk.PackedSpan ↦ λ there. absurd (true≢false (sym there))
        ] there;
  },
  rw (kept.0, kept.1.0, kept.1.1.0, kept.1.1.1.0),
  ap beside_of schema ∙ sym (ap beside_of was.schema),
)

pub old_first_extends : Extends old_leaf_index_text OldSpans OldIndex
old_first_extends = record {
  plain = old_first_makes.plain;
  writes = is_writing (understood old_table_schema old_leaf_index_text) (CreateIndex 3) old_first_makes.is tt
      old_first_makes.plain;
  tables = λ limit old new was h.
      let did = indexes old_table_schema old_leaf_index_text 3 old_span_made old_span_first old_first_makes
      limit
      old new was.schema h in
      old_first_grown old new was did.0 did.1;
}

pub first_makes : MakesIndex table_schema leaf_index_text 5 span_made span_first
unfolding understood everything
first_makes = record {
  is = refl;
  plain = (refl, refl);
  whole = refl;
  there = refl;
  defined = first_is;
}

-- the index leaves all rows
first_grown : (old new : Database) → IsMadeTo Spans old → new.schema ≡ desk_schema
    → KeepsRows table_schema.tables old.trees new.trees
    → IsMadeTo All new × (tables_at All new.trees ≡ tables_at Spans old.trees)
    × (beside_of new.schema ≡ beside_of old.schema)
first_grown old new was schema kept = (
  record {
    schema = subst IsDeskSchema (sym schema) (record {
      is = refl;
      apart = record
          { tables = refl; indexes = refl };
    });
    rows = λ table there. elim table as (λ t. has_table All t ≡ true
        → AreNumbered (new.trees (tree_of t))) [
          | desk.Operator ↦ λ there. subst AreNumbered (sym kept.0) (was.rows desk.Operator refl)
          | desk.Plan ↦ λ there. subst AreNumbered (sym kept.1.0) (was.rows desk.Plan refl)
          | desk.OldVolume ↦ λ there. subst AreNumbered (sym kept.1.1.0) (was.rows desk.OldVolume refl)
          | desk.OldSpan ↦ λ there. subst AreNumbered (sym kept.1.1.1.0) (was.rows desk.OldSpan refl)
          | desk.Volume ↦ λ there. subst AreNumbered (sym kept.1.1.1.1.0) (was.rows desk.Volume refl)
          | desk.Span ↦ λ there. subst AreNumbered (sym kept.1.1.1.1.1.0) (was.rows desk.Span refl)
          | desk.PackedVolume ↦ λ there. absurd (true≢false (sym there))
          | desk.PackedSpan ↦ λ there. absurd (true≢false (sym there))
        ] there;
  },
  rw (kept.0, kept.1.0, kept.1.1.0, kept.1.1.1.0, kept.1.1.1.1.0, kept.1.1.1.1.1.0),
  ap beside_of schema ∙ sym (ap beside_of was.schema),
)

pub first_extends : Extends leaf_index_text Spans All
first_extends = record {
  plain = first_makes.plain;
  writes = is_writing (understood table_schema leaf_index_text) (CreateIndex 5) first_makes.is tt
      first_makes.plain;
  tables = λ limit old new was h.
      let did = indexes table_schema leaf_index_text 5 span_made span_first first_makes limit old
      new was.schema h in
      first_grown old new was did.0 did.1;
}

-- ---- one step, and several

pub grows : {S : Type 0} (g : Ghosts S) (made next : TablesPresent) (old new : Held S) (text : List ℕ)
    → left_to_make made ≢ 0 → Extends text made next → Holds g old (IsMadeTo made) → HasCleanDisk (state g old)
    → Shows (state g old) (state g new) (state g new).now (state g old).committed true → (count : ℕ)
    → Executes text [] (state g old) (state g new) (Ok count) → GrowsTables g made next old new
grows g made next old new text lacks known holds clean shows count h =
    let was = holds clean shows.was_open in
    let schema = alone made (state g old).now.schema lacks was.schema in
    let done = known.tables (state g old).step_limit (state g old).now (state g new).now was
    (ran text [] (state g old) (state g new) (schema_of made) schema known.plain known.writes count h)
    in
    record {
      was_open = shows.was_open;
      is_open = shows.is_open;
      begun = shows.mode;
      committed = shows.committed_is;
      has = done.0;
      beside = done.2;
      sound = ran_sound text [] (state g old) (state g new) (schema_of made) schema known.plain
          known.writes count h;
      same = done.1;
    }

-- a loop that makes one after the other, so far as it is made
pub record HasGrown {S : Type 0} (g : Ghosts S) (made at : TablesPresent) (old now : Held S) : Type 0 where
  pub remembered : Remembers g old now
  pub grown : HasCleanDisk (state g now) → (at ≢ made) ⊎ IsTrue (state g now).is_open
      → GrowsTables g made at old now

pub grown_more : {S : Type 0} (g : Ghosts S) (made at next : TablesPresent) (old mid new : Held S)
    → HasGrown g made at old mid → Remembers g mid new
    → (HasCleanDisk (state g new) → GrowsTables g at next mid new) → HasGrown g made next old new
grown_more g made at next old mid new so_far turn step = record {
  remembered = remembers_then g old mid new so_far.remembered turn;
  grown = λ clean later.
      let last = step clean in
      let first = so_far.grown (omega (arith, turn.doubt, clean)) (inr last.was_open) in
      record {
        was_open = first.was_open;
        is_open = last.is_open;
        begun = last.begun;
        committed = last.committed ∙ first.committed;
        has = last.has;
        beside = last.beside ∙ first.beside;
        sound = last.sound;
        same = last.same ∙ first.same;
      };
}

-- what is made as a whole is a desk
is_desk : (db : Database) → IsMadeTo All db → IsDesk db
is_desk db made = record {
  schema = made.schema;
  operators = made.rows desk.Operator refl;
  plans = made.rows desk.Plan refl;
  old_volumes = made.rows desk.OldVolume refl;
  old_spans = made.rows desk.OldSpan refl;
  volumes = made.rows desk.Volume refl;
  spans = made.rows desk.Span refl;
}

pub finished : {S : Type 0} (g : Ghosts S) (made at : TablesPresent) (old now : Held S) → made ≢ All
    → at ≡ All
    → HasGrown g made at old now → HasCleanDisk (state g now) → Finishes g made old now
finished g made at old now missing end so_far clean =
    let all = subst (λ m. GrowsTables g made m old now) end
    (so_far.grown clean (inl (λ same. missing (sym same ∙ end)))) in
    record {
      was_open = all.was_open;
      is_open = all.is_open;
      begun = all.begun;
      committed = all.committed;
      desk = is_desk (state g now).now all.has;
      beside = all.beside;
      sound = all.sound;
      same = all.same;
    }

-- all is committed
pub completed : {S : Type 0} (g : Ghosts S) (made : TablesPresent) (old begun mid new : Held S)
    → begun ≡ record old { in_transaction = true } → Finishes g made begun mid
    → Shows (state g mid) (state g new) (state g mid).now (state g mid).now false
    → Completes g made old new
completed g made old begun mid new begins made_all shown =
    let done : Finishes g made (record old { in_transaction = true }) mid =
    subst (λ h. Finishes g made h mid) begins made_all in
    record {
      was_open = done.was_open;
      is_open = shown.is_open;
      settled = shown.now_is ∙ sym shown.committed_is;
      desk = subst IsDesk (sym shown.now_is) done.desk;
      beside = ap (λ (db : Database). beside_of db.schema) shown.now_is ∙ done.beside;
      same = ap (λ (db : Database). tables_of db.trees) shown.now_is ∙ done.same;
    }

pub may_complete : {S : Type 0} (g : Ghosts S) (made : TablesPresent) (old begun mid new : Held S)
    → begun ≡ record old { in_transaction = true }
    → (HasCleanDisk (state g mid) → Finishes g made begun mid) → Spares g begun mid
    → Survives (state g mid) (state g new) (λ db. db ≡ (state g mid).now.trees)
    → MayComplete g made old new
may_complete {S = S} g made old begun mid new is made_all spared last clean db left =
    let early : HasCleanDisk (state g mid) = omega (arith, last.clean, clean) in
    elim (last.crash clean db left) [
      | inl before ↦ inl (subst (λ (h : Held S). (state g h).may_leave db) is (spared early db before))
      | inr now ↦ (let done : Finishes g made (record old { in_transaction = true }) mid =
          subst (λ h. Finishes g made h mid) is (made_all early) in
          inr (record {
            was_open = done.was_open;
            desk = subst (λ trees. IsDesk (record {
              schema = desk_in (state g old).now.schema;
              trees = trees;
            })) (sym now)
                (subst (λ schema. IsDesk (record { schema = schema; trees = (state g mid).now.trees }))
                (done.desk.schema.is ∙ ap desk_with done.beside) done.desk);
            sound = subst (λ trees. IsDatabase (record {
              schema = desk_in (state g old).now.schema;
              trees =
                  trees;
            })) (sym now)
                (subst (λ schema. IsDatabase (record { schema = schema; trees = (state g mid).now.trees }))
                (done.desk.schema.is ∙ ap desk_with done.beside) done.sound);
            same = ap tables_of now ∙ done.same;
          }))
    ]
