-- What is made so far has each of its tables.
use Rattle.std.proofs.Common.{◌≡◌, List, [], ◌∷◌, ◌++◌, drop, refl, ap, ◌∙◌, sym, true, true≢false}
use Rattle.sqlite.specs.Schema.{Schema}
use Rattle.sqlite.specs.Table.{Table}
use Rattle.sqlite.specs.Effect.{Database}
use Rattle.sqlite_tied.specs.Compute.{everything}
use Rattle.desk_sql.specs.declared.opening.finding.TablesPresent.{TablesPresent}
use Rattle.desk_sql.specs.declared.opening.finding.TablesPresent.TheVariants.{Nothing, Operators, Plans, OldVolumes, OldSpans, OldIndex, Volumes, Spans, All, Packed}
use Rattle.desk_sql.specs.declared.opening.numbers.DeskTable.{DeskTable}
use Rattle.desk_sql.specs.declared.opening.numbers.DeskTable.TheVariants.{Operator, Plan, OldVolume, OldSpan, Volume, Span, PackedVolume, PackedSpan}
use Rattle.desk_sql.specs.Schema.{schema_of, schema_to, tables_to, desk_schema, IsSchemaOf, IsDeskSchema, has_table, HasTable, plan_made, old_volume_made, old_span_made, volume_made, span_made, packed_volume_made, packed_span_made}

as_made : (table : DeskTable) (others : List Table) (made : TablesPresent) (db : Database)
    → schema_of made ≡ schema_to table others (schema_of made).indexes (schema_of made).views
    → db.schema ≡ schema_of made
    → HasTable table db
as_made table others made db same is = record {
  others = others;
  schema = is ∙ same ∙ ap (λ (s : Schema). schema_to table others s.indexes s.views) (sym is);
}

-- others come behind those that there are
further : (table : DeskTable) (own others : List Table)
    → tables_to table own ++ others ≡ tables_to table (own ++ others)
further Operator own others = refl
further Plan own others = refl
further OldVolume own others = refl
further OldSpan own others = refl
further Volume own others = refl
further Span own others = refl
further PackedVolume own others = refl
further PackedSpan own others = refl

-- so has a desk's schema with others beside it
as_desk : (table : DeskTable) (own : List Table) (db : Database) → IsDeskSchema db.schema
    → desk_schema.tables ≡ tables_to table own → HasTable table db
as_desk table own db desk same = record {
  others = own ++ drop 6 db.schema.tables;
  schema = ap (λ ts. record { tables = ts; indexes = db.schema.indexes; views = db.schema.views })
      (ap (λ (s : Schema). s.tables) desk.is ∙ ap (λ ts. ts ++ drop 6 db.schema.tables) same
      ∙ further table own (drop 6 db.schema.tables));
}

pub has_made : (made : TablesPresent) (table : DeskTable) (db : Database) → has_table made table ≡ true
    → IsSchemaOf made db.schema → HasTable table db
unfolding everything
has_made Nothing table db there is = absurd (true≢false (sym there))
has_made Operators Operator db there is = as_made Operator [] Operators db refl is
has_made Operators Plan db there is = absurd (true≢false (sym there))
has_made Operators OldVolume db there is = absurd (true≢false (sym there))
has_made Operators OldSpan db there is = absurd (true≢false (sym there))
has_made Operators Volume db there is = absurd (true≢false (sym there))
has_made Operators Span db there is = absurd (true≢false (sym there))
has_made Operators PackedVolume db there is = absurd (true≢false (sym there))
has_made Operators PackedSpan db there is = absurd (true≢false (sym there))
has_made Plans Operator db there is = as_made Operator (plan_made ∷ []) Plans db refl is
has_made Plans Plan db there is = as_made Plan [] Plans db refl is
has_made Plans OldVolume db there is = absurd (true≢false (sym there))
has_made Plans OldSpan db there is = absurd (true≢false (sym there))
has_made Plans Volume db there is = absurd (true≢false (sym there))
has_made Plans Span db there is = absurd (true≢false (sym there))
has_made Plans PackedVolume db there is = absurd (true≢false (sym there))
has_made Plans PackedSpan db there is = absurd (true≢false (sym there))
has_made OldVolumes Operator db there is =
    as_made Operator (plan_made ∷ old_volume_made ∷ []) OldVolumes db refl is
has_made OldVolumes Plan db there is = as_made Plan (old_volume_made ∷ []) OldVolumes db refl is
has_made OldVolumes OldVolume db there is = as_made OldVolume [] OldVolumes db refl is
has_made OldVolumes OldSpan db there is = absurd (true≢false (sym there))
has_made OldVolumes Volume db there is = absurd (true≢false (sym there))
has_made OldVolumes Span db there is = absurd (true≢false (sym there))
has_made OldVolumes PackedVolume db there is = absurd (true≢false (sym there))
has_made OldVolumes PackedSpan db there is = absurd (true≢false (sym there))
has_made OldSpans Operator db there is =
    as_made Operator (plan_made ∷ old_volume_made ∷ old_span_made ∷ []) OldSpans db refl is
has_made OldSpans Plan db there is = as_made Plan (old_volume_made ∷ old_span_made ∷ []) OldSpans db refl is
has_made OldSpans OldVolume db there is = as_made OldVolume (old_span_made ∷ []) OldSpans db refl is
has_made OldSpans OldSpan db there is = as_made OldSpan [] OldSpans db refl is
has_made OldSpans Volume db there is = absurd (true≢false (sym there))
has_made OldSpans Span db there is = absurd (true≢false (sym there))
has_made OldSpans PackedVolume db there is = absurd (true≢false (sym there))
has_made OldSpans PackedSpan db there is = absurd (true≢false (sym there))
has_made OldIndex Operator db there is =
    as_made Operator (plan_made ∷ old_volume_made ∷ old_span_made ∷ []) OldIndex db refl is
has_made OldIndex Plan db there is = as_made Plan (old_volume_made ∷ old_span_made ∷ []) OldIndex db refl is
has_made OldIndex OldVolume db there is = as_made OldVolume (old_span_made ∷ []) OldIndex db refl is
has_made OldIndex OldSpan db there is = as_made OldSpan [] OldIndex db refl is
has_made OldIndex Volume db there is = absurd (true≢false (sym there))
has_made OldIndex Span db there is = absurd (true≢false (sym there))
has_made OldIndex PackedVolume db there is = absurd (true≢false (sym there))
has_made OldIndex PackedSpan db there is = absurd (true≢false (sym there))
has_made Volumes Operator db there is =
    as_made Operator (plan_made ∷ old_volume_made ∷ old_span_made ∷ volume_made ∷ []) Volumes db refl is
has_made Volumes Plan db there is =
    as_made Plan (old_volume_made ∷ old_span_made ∷ volume_made ∷ []) Volumes db refl is
has_made Volumes OldVolume db there is =
    as_made OldVolume (old_span_made ∷ volume_made ∷ []) Volumes db refl is
has_made Volumes OldSpan db there is = as_made OldSpan (volume_made ∷ []) Volumes db refl is
has_made Volumes Volume db there is = as_made Volume [] Volumes db refl is
has_made Volumes Span db there is = absurd (true≢false (sym there))
has_made Volumes PackedVolume db there is = absurd (true≢false (sym there))
has_made Volumes PackedSpan db there is = absurd (true≢false (sym there))
has_made Spans Operator db there is =
    as_made Operator (plan_made ∷ old_volume_made ∷ old_span_made ∷ volume_made ∷ span_made ∷ [])
    Spans db refl is
has_made Spans Plan db there is =
    as_made Plan (old_volume_made ∷ old_span_made ∷ volume_made ∷ span_made ∷ []) Spans db refl is
has_made Spans OldVolume db there is =
    as_made OldVolume (old_span_made ∷ volume_made ∷ span_made ∷ []) Spans db refl is
has_made Spans OldSpan db there is = as_made OldSpan (volume_made ∷ span_made ∷ []) Spans db refl is
has_made Spans Volume db there is = as_made Volume (span_made ∷ []) Spans db refl is
has_made Spans Span db there is = as_made Span [] Spans db refl is
has_made Spans PackedVolume db there is = absurd (true≢false (sym there))
has_made Spans PackedSpan db there is = absurd (true≢false (sym there))
has_made All Operator db there is =
    as_desk Operator (plan_made ∷ old_volume_made ∷ old_span_made ∷ volume_made ∷ span_made ∷ []) db is refl
has_made All Plan db there is =
    as_desk Plan (old_volume_made ∷ old_span_made ∷ volume_made ∷ span_made ∷ []) db is refl
has_made All OldVolume db there is =
    as_desk OldVolume (old_span_made ∷ volume_made ∷ span_made ∷ []) db is refl
has_made All OldSpan db there is = as_desk OldSpan (volume_made ∷ span_made ∷ []) db is refl
has_made All Volume db there is = as_desk Volume (span_made ∷ []) db is refl
has_made All Span db there is = as_desk Span [] db is refl
has_made All PackedVolume db there is = absurd (true≢false (sym there))
has_made All PackedSpan db there is = absurd (true≢false (sym there))
has_made Packed Operator db there is =
    as_made Operator
    (plan_made ∷ old_volume_made ∷ old_span_made ∷ packed_volume_made ∷ packed_span_made ∷ [])
    Packed db refl is
has_made Packed Plan db there is =
    as_made Plan (old_volume_made ∷ old_span_made ∷ packed_volume_made ∷ packed_span_made ∷ [])
    Packed db refl is
has_made Packed OldVolume db there is =
    as_made OldVolume (old_span_made ∷ packed_volume_made ∷ packed_span_made ∷ []) Packed db refl is
has_made Packed OldSpan db there is =
    as_made OldSpan (packed_volume_made ∷ packed_span_made ∷ []) Packed db refl is
has_made Packed Volume db there is = absurd (true≢false (sym there))
has_made Packed Span db there is = absurd (true≢false (sym there))
has_made Packed PackedVolume db there is = as_made PackedVolume (packed_span_made ∷ []) Packed db refl is
has_made Packed PackedSpan db there is = as_made PackedSpan [] Packed db refl is
