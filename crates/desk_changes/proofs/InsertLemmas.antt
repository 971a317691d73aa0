-- What each INSERT adds.
use Rattle.std.proofs.Common.{◌≡◌, ℕ, pos, List, [], ◌∷◌, map, refl, sym, ap, ap₂, subst, ◌∙◌, cond, true, false, Option}
use Rattle.std.specs.List.Sorted.{IsPermutation}
use Rattle.std.proofs.lemmas.List.Sorted.{IsPermutation-map}
use Rattle.sqlite.specs.Order.{Row}
use Rattle.sqlite.specs.declared.types.Value.{Value}
use Rattle.sqlite.specs.declared.types.Value.TheVariants.{Null, Int, Text, Blob}
use Rattle.sqlite.specs.Ops.{is_null}
use Rattle.sqlite.specs.Kind.TheVariants.{Integer}
use Rattle.sqlite.specs.Tree.{Trees, put_row}
use Rattle.sqlite.specs.Edit.{with_rowid, next_rowid, is_taken}
use Rattle.sqlite.specs.Cast.{cast, cast_all, cast_row}
use Rattle.sqlite.specs.Rowids.TheVariants.{Chosen}
use Rattle.sqlite.specs.Source.TheVariants.{Values}
use Rattle.sqlite.specs.Command.TheVariants.{Insert}
use Rattle.sqlite.specs.Effect.{Database}
use Rattle.desk_sql.specs.Schema.{operator_table, plan_table, volume_table, span_table, Beside, StandsApart, IsDeskSchema}
use Rattle.desk_sql.specs.Rows.{IsDesk, AreNumbered, VolumeColumns, SpanColumns, columns, cover_columns, tables_of, operator_row, plan_row, volume_row, cover_row, span_row, AddsOperator, AddsPlan, AddsVolume, AddsSpan}
use Rattle.desk_changes.specs.declared.writing.PlanRecord.{PlanRecord}
use Rattle.desk_changes.specs.declared.writing.VolumeRecord.{VolumeRecord}
use Rattle.desk_changes.specs.declared.writing.SpanRecord.{SpanRecord}
use Rattle.desk_changes.specs.RowChanges.{volume_columns, volume_row_in, cover_of, volume_params, span_columns, span_row_in, plan_row_in}
use Rattle.desk_sql.specs.Statements.{Changes}
use Rattle.desk_sql.proofs.lemmas.Number.{unequal, numbered_put, put_adds}
use Rattle.desk_sql.proofs.lemmas.Texts.{insert_operator_text, insert_plan_text, insert_volume_text, insert_span_text}
use Rattle.desk_sql.proofs.lemmas.CommandTexts.{insert_operator_is, insert_operator_terms, insert_plan_is, insert_plan_terms, insert_volume_is, insert_volume_terms, insert_span_is, insert_span_terms}
use Rattle.desk_sql.proofs.lemmas.Write.{May, did, changes_by, rows_written, task_at, insert_applies, Adds, adds, cast_int}

same : (v : Value) → v ≡ v
same v = refl

then : {a b : Value} {xs ys : Row} → a ≡ b → xs ≡ ys → a ∷ xs ≡ b ∷ ys
then p q = ap₂ (λ x xs. x ∷ xs) p q

-- rows as they are shown, once one came to their tree
shown_added : (show : Row → Row) (row new : Row) (rows next : List Row) → show new ≡ row
    → next ≡ put_row new rows → is_taken rows new ≡ false
    → IsPermutation (row ∷ map show rows) (map show next)
shown_added show row new rows next shown is free =
    subst (λ xs. IsPermutation (row ∷ map show rows) (map show xs)) (sym is)
    (subst (λ r. IsPermutation (r ∷ map show rows) (map show (put_row new rows))) shown
    (IsPermutation-map show (new ∷ rows) (put_row new rows) (put_adds new rows free)))

pub tables_operator : (db next : Trees)
    → next 2 ≡ db 2 → next 4 ≡ db 4 → next 6 ≡ db 6 → next 9 ≡ db 9 → next 11 ≡ db 11
    → tables_of next ≡ record (tables_of db) { operators = (tables_of next).operators }
tables_operator db next a b c d e = rw (a, b, c, d, e)

module _ {beside : Beside} (away : StandsApart beside) where
  operator_added : (row new : Row) (old now : Database) → columns 2 new ≡ row
      → IsDeskSchema now.schema
      → Adds away 0 new old.trees now.trees → IsDesk old → IsDesk now
      × AddsOperator row (tables_of old.trees) (tables_of now.trees)
  operator_added row new old now shown schema a desk =
      let e2 : now.trees 2 ≡ old.trees 2 = a.others.1.0 (unequal _ _ refl) in
      let e4 : now.trees 4 ≡ old.trees 4 = a.others.1.1.0 (unequal _ _ refl) in
      let e6 : now.trees 6 ≡ old.trees 6 = a.others.1.1.1.0 (unequal _ _ refl) in
      let e9 : now.trees 9 ≡ old.trees 9 = a.others.1.1.1.1.0 (unequal _ _ refl) in
      let e11 : now.trees 11 ≡ old.trees 11 = a.others.1.1.1.1.1.0 (unequal _ _ refl) in (
        record {
          schema = schema;
          operators = subst AreNumbered (sym a.at)
              (numbered_put new (old.trees 0) a.whole a.free desk.operators);
          plans = subst AreNumbered (sym e2) desk.plans;
          old_volumes = subst AreNumbered (sym e4) desk.old_volumes;
          old_spans = subst AreNumbered (sym e6) desk.old_spans;
          volumes = subst AreNumbered (sym e9) desk.volumes;
          spans = subst AreNumbered (sym e11) desk.spans;
        },
        (
          shown_added (columns 2) row new (old.trees 0) (now.trees 0) shown a.at a.free,
          tables_operator old.trees now.trees e2 e4 e6 e9 e11,
        ),
      )

module _ (name : List ℕ) (ceiling : ℕ) (limit : Option ℕ) (old new : Database) where
  abbrev operator_params : Row
  operator_params = Text name ∷ Int (pos ceiling) ∷ []

  operator_cells : (rows : List Row)
      → columns 2 (with_rowid Chosen rows (cast_row operator_table (Null ∷ operator_params)))
      ≡ operator_row name ceiling
  operator_cells rows =
      let numbered : columns 2 (with_rowid Chosen rows
      (cast_row operator_table (Null ∷ operator_params)))
      ≡ columns 2 (Null ∷ cast_all operator_table.columns operator_params) =
      elim (is_null (cast Integer Null)) as (λ b. columns 2
      (cond b (Int (next_rowid rows) ∷ cast_all operator_table.columns operator_params)
      (cast Integer Null ∷ cast_all operator_table.columns operator_params))
      ≡ columns 2 (Null ∷ cast_all operator_table.columns operator_params))
      [ true ↦ refl | false ↦ refl ] in
      numbered ∙ then (same (Text name)) (then (cast_int (pos ceiling)) (refl))

  pub insert_operator : IsDesk old → May insert_operator_text operator_params limit old new → IsDesk new
      × AddsOperator (operator_row name ceiling) (tables_of old.trees) (tables_of new.trees)
      × (new.schema ≡ old.schema)
  insert_operator desk h =
      let db = old.trees in
      let d = did insert_operator_text operator_params limit old new desk
      (Insert 0 (Values insert_operator_terms 3)) insert_operator_is h in
      let it = rows_written (task_at desk.schema.apart limit operator_params operator_table.name
      operator_table.columns
      operator_table.primary operator_table.references 0) (Insert 0 (Values insert_operator_terms 3)) db
      d.0 new d.1 in
      let done = insert_applies desk.schema.apart limit operator_params operator_table.name
      operator_table.columns
      operator_table.primary operator_table.references 0 insert_operator_terms 3 db it.0
      (Null ∷ operator_params) refl it.1 in
      let a = adds desk.schema.apart operator_table.name operator_table.columns operator_table.primary
      operator_table.references
      0 db it.0.trees (Null ∷ operator_params) done in
      let same : new.schema ≡ old.schema = ap (λ (d : Database). d.schema) it.2 ∙ sym desk.schema.is in
      let now : it.0.trees ≡ new.trees = sym (ap (λ (d : Database). d.trees) it.2) in
      let both =
      operator_added desk.schema.apart (operator_row name ceiling) (with_rowid Chosen (db 0)
      (cast_row operator_table (Null ∷ operator_params))) old new (operator_cells (db 0))
      (subst IsDeskSchema (sym same) desk.schema)
      (subst (Adds desk.schema.apart 0 (with_rowid Chosen (db 0)
      (cast_row operator_table (Null ∷ operator_params))) db)
      now a)
      desk in
      (both.0, both.1, same)

pub tables_plan : (db next : Trees)
    → next 0 ≡ db 0 → next 4 ≡ db 4 → next 6 ≡ db 6 → next 9 ≡ db 9 → next 11 ≡ db 11
    → tables_of next ≡ record (tables_of db) { plans = (tables_of next).plans }
tables_plan db next a b c d e = rw (a, b, c, d, e)

module _ {beside : Beside} (away : StandsApart beside) where
  plan_added : (row new : Row) (old now : Database) → columns 5 new ≡ row
      → IsDeskSchema now.schema
      → Adds away 2 new old.trees now.trees → IsDesk old → IsDesk now
      × AddsPlan row (tables_of old.trees) (tables_of now.trees)
  plan_added row new old now shown schema a desk =
      let e0 : now.trees 0 ≡ old.trees 0 = a.others.0 (unequal _ _ refl) in
      let e4 : now.trees 4 ≡ old.trees 4 = a.others.1.1.0 (unequal _ _ refl) in
      let e6 : now.trees 6 ≡ old.trees 6 = a.others.1.1.1.0 (unequal _ _ refl) in
      let e9 : now.trees 9 ≡ old.trees 9 = a.others.1.1.1.1.0 (unequal _ _ refl) in
      let e11 : now.trees 11 ≡ old.trees 11 = a.others.1.1.1.1.1.0 (unequal _ _ refl) in (
        record {
          schema = schema;
          operators = subst AreNumbered (sym e0) desk.operators;
          plans = subst AreNumbered (sym a.at)
              (numbered_put new (old.trees 2) a.whole a.free desk.plans);
          old_volumes = subst AreNumbered (sym e4) desk.old_volumes;
          old_spans = subst AreNumbered (sym e6) desk.old_spans;
          volumes = subst AreNumbered (sym e9) desk.volumes;
          spans = subst AreNumbered (sym e11) desk.spans;
        },
        (
          shown_added (columns 5) row new (old.trees 2) (now.trees 2) shown a.at a.free,
          tables_plan old.trees now.trees e0 e4 e6 e9 e11,
        ),
      )

module _ (operator : List ℕ) (id : List ℕ) (priority : ℕ) (usage : ℕ) (aircraft : ℕ)
    (limit : Option ℕ) (old new : Database)
  where
    abbrev plan_params : Row
    plan_params = Text operator ∷ Text id ∷ Int (pos priority) ∷ Int (pos usage) ∷ Int (pos aircraft)
        ∷ []

    plan_cells : (rows : List Row)
        → columns 5 (with_rowid Chosen rows (cast_row plan_table (Null ∷ plan_params)))
        ≡ plan_row operator id priority usage aircraft
    plan_cells rows =
        let numbered : columns 5 (with_rowid Chosen rows (cast_row plan_table (Null ∷ plan_params)))
        ≡ columns 5 (Null ∷ cast_all plan_table.columns plan_params) =
        elim (is_null (cast Integer Null)) as (λ b. columns 5
        (cond b (Int (next_rowid rows) ∷ cast_all plan_table.columns plan_params)
        (cast Integer Null ∷ cast_all plan_table.columns plan_params))
        ≡ columns 5 (Null ∷ cast_all plan_table.columns plan_params))
        [ true ↦ refl | false ↦ refl ] in
        numbered ∙ then (same (Text operator)) (then (same (Text id))
        (then (cast_int (pos priority)) (then (cast_int (pos usage))
        (then (cast_int (pos aircraft)) (refl)))))

    pub insert_plan : IsDesk old → May insert_plan_text plan_params limit old new
        → IsDesk new × AddsPlan (plan_row operator id priority usage aircraft)
        (tables_of old.trees)
        (tables_of new.trees)
        × (new.schema ≡ old.schema)
    insert_plan desk h =
        let db = old.trees in
        let d = did insert_plan_text plan_params limit old new desk
        (Insert 1 (Values insert_plan_terms 6)) insert_plan_is h in
        let it = rows_written (task_at desk.schema.apart limit plan_params plan_table.name plan_table.columns
        plan_table.primary plan_table.references 2) (Insert 1 (Values insert_plan_terms 6)) db d.0
        new
        d.1 in
        let done = insert_applies desk.schema.apart limit plan_params plan_table.name plan_table.columns
        plan_table.primary plan_table.references 2 insert_plan_terms 6 db it.0 (Null ∷ plan_params) refl
        it.1 in
        let a = adds desk.schema.apart plan_table.name plan_table.columns plan_table.primary
        plan_table.references 2 db
        it.0.trees
        (Null ∷ plan_params) done in
        let same : new.schema ≡ old.schema = ap (λ (d : Database). d.schema) it.2 ∙ sym desk.schema.is in
        let now : it.0.trees ≡ new.trees = sym (ap (λ (d : Database). d.trees) it.2) in
        let both =
        plan_added desk.schema.apart (plan_row operator id priority usage aircraft)
        (with_rowid Chosen (db 2) (cast_row plan_table (Null ∷ plan_params))) old new
        (plan_cells (db 2)) (subst IsDeskSchema (sym same) desk.schema)
        (subst (Adds desk.schema.apart 2 (with_rowid Chosen (db 2) (cast_row plan_table (Null ∷ plan_params)))
        db) now a)
        desk in
        (both.0, both.1, same)

tables_volume : (db next : Trees)
    → next 0 ≡ db 0 → next 2 ≡ db 2 → next 4 ≡ db 4 → next 6 ≡ db 6 → next 11 ≡ db 11
    → tables_of next ≡ record (tables_of db) {
      volumes = (tables_of next).volumes;
      covers = (tables_of next).covers;
    }
tables_volume db next a b c d e = rw (a, b, c, d, e)

module _ {beside : Beside} (away : StandsApart beside) where
  volume_added : (row cover new : Row) (old now : Database) → columns 8 new ≡ row
      → cover_columns new ≡ cover
      → IsDeskSchema now.schema
      → Adds away 9 new old.trees now.trees → IsDesk old → IsDesk now
      × AddsVolume row cover (tables_of old.trees) (tables_of now.trees)
  volume_added row cover new old now shown covered schema a desk =
      let e0 : now.trees 0 ≡ old.trees 0 = a.others.0 (unequal _ _ refl) in
      let e2 : now.trees 2 ≡ old.trees 2 = a.others.1.0 (unequal _ _ refl) in
      let e4 : now.trees 4 ≡ old.trees 4 = a.others.1.1.0 (unequal _ _ refl) in
      let e6 : now.trees 6 ≡ old.trees 6 = a.others.1.1.1.0 (unequal _ _ refl) in
      let e11 : now.trees 11 ≡ old.trees 11 = a.others.1.1.1.1.1.0 (unequal _ _ refl) in (
        record {
          schema = schema;
          operators = subst AreNumbered (sym e0) desk.operators;
          plans = subst AreNumbered (sym e2) desk.plans;
          old_volumes = subst AreNumbered (sym e4) desk.old_volumes;
          old_spans = subst AreNumbered (sym e6) desk.old_spans;
          volumes = subst AreNumbered (sym a.at)
              (numbered_put new (old.trees 9) a.whole a.free desk.volumes);
          spans = subst AreNumbered (sym e11) desk.spans;
        },
        (
          shown_added (columns 8) row new (old.trees 9) (now.trees 9) shown a.at a.free,
          shown_added cover_columns cover new (old.trees 9) (now.trees 9) covered a.at a.free,
          tables_volume old.trees now.trees e0 e2 e4 e6 e11,
        ),
      )

module _ (v : VolumeColumns) (canon : List ℕ) (limit : Option ℕ) (old new : Database) where
  abbrev volume_given : Row
  volume_given = Text v.operator ∷ Text v.id ∷ Int (pos v.place) ∷ Int v.lower ∷ Int v.upper ∷ Int v.start
      ∷ Int v.stop ∷ Blob v.asked ∷ Blob canon ∷ []

  -- what is shown of the row does not read its rowid
  volume_shown : (show : Row → Row)
      → ((n : Value) → show (n ∷ cast_all volume_table.columns volume_given)
      ≡ show (Null ∷ cast_all volume_table.columns volume_given)) → (rows : List Row)
      → show (with_rowid Chosen rows (cast_row volume_table (Null ∷ volume_given)))
      ≡ show (Null ∷ cast_all volume_table.columns volume_given)
  volume_shown show alike rows =
      elim (is_null (cast Integer Null)) as (λ b. show
      (cond b (Int (next_rowid rows) ∷ cast_all volume_table.columns volume_given)
      (cast Integer Null ∷ cast_all volume_table.columns volume_given))
      ≡ show (Null ∷ cast_all volume_table.columns volume_given))
      [ true ↦ alike (Int (next_rowid rows)) | false ↦ alike (cast Integer Null) ]

  volume_cells : (rows : List Row)
      → columns 8 (with_rowid Chosen rows (cast_row volume_table (Null ∷ volume_given)))
      ≡ volume_row v
  volume_cells rows = volume_shown (columns 8) (λ n. refl) rows
      ∙ then (same (Text v.operator)) (then (same (Text v.id))
      (then (cast_int (pos v.place)) (then (cast_int v.lower)
      (then (cast_int v.upper) (then (cast_int v.start)
      (then (cast_int v.stop) (then (same (Blob v.asked)) (refl))))))))

  cover_cells : (rows : List Row)
      → cover_columns (with_rowid Chosen rows (cast_row volume_table (Null ∷ volume_given)))
      ≡ cover_row v.operator v.id v.place canon
  cover_cells rows = volume_shown cover_columns (λ n. refl) rows
      ∙ then (same (Text v.operator)) (then (same (Text v.id))
      (then (cast_int (pos v.place)) (then (same (Blob canon)) (refl))))

  pub insert_volume : IsDesk old → May insert_volume_text volume_given limit old new → IsDesk new
      × AddsVolume (volume_row v) (cover_row v.operator v.id v.place canon) (tables_of old.trees)
      (tables_of new.trees)
      × (new.schema ≡ old.schema)
  insert_volume desk h =
      let db = old.trees in
      let d = did insert_volume_text volume_given limit old new desk
      (Insert 4 (Values insert_volume_terms 10)) insert_volume_is h in
      let it = rows_written (task_at desk.schema.apart limit volume_given volume_table.name volume_table.columns
      volume_table.primary volume_table.references 9) (Insert 4 (Values insert_volume_terms 10)) db d.0
      new d.1 in
      let done = insert_applies desk.schema.apart limit volume_given volume_table.name volume_table.columns
      volume_table.primary volume_table.references 9 insert_volume_terms 10 db it.0
      (Null ∷ volume_given)
      refl it.1 in
      let a = adds desk.schema.apart volume_table.name volume_table.columns volume_table.primary
      volume_table.references 9
      db
      it.0.trees (Null ∷ volume_given) done in
      let same : new.schema ≡ old.schema = ap (λ (d : Database). d.schema) it.2 ∙ sym desk.schema.is in
      let now : it.0.trees ≡ new.trees = sym (ap (λ (d : Database). d.trees) it.2) in
      let both =
      volume_added desk.schema.apart (volume_row v) (cover_row v.operator v.id v.place canon)
      (with_rowid Chosen (db 9) (cast_row volume_table (Null ∷ volume_given))) old new
      (volume_cells (db 9)) (cover_cells (db 9)) (subst IsDeskSchema (sym same) desk.schema)
      (subst (Adds desk.schema.apart 9 (with_rowid Chosen (db 9)
      (cast_row volume_table (Null ∷ volume_given))) db) now
      a) desk in
      (both.0, both.1, same)

tables_span : (db next : Trees)
    → next 0 ≡ db 0 → next 2 ≡ db 2 → next 4 ≡ db 4 → next 6 ≡ db 6 → next 9 ≡ db 9
    → tables_of next ≡ record (tables_of db) { spans = (tables_of next).spans }
tables_span db next a b c d e = rw (a, b, c, d, e)

module _ {beside : Beside} (away : StandsApart beside) where
  span_added : (row new : Row) (old now : Database) → columns 10 new ≡ row
      → IsDeskSchema now.schema
      → Adds away 11 new old.trees now.trees → IsDesk old → IsDesk now
      × AddsSpan row (tables_of old.trees) (tables_of now.trees)
  span_added row new old now shown schema a desk =
      let e0 : now.trees 0 ≡ old.trees 0 = a.others.0 (unequal _ _ refl) in
      let e2 : now.trees 2 ≡ old.trees 2 = a.others.1.0 (unequal _ _ refl) in
      let e4 : now.trees 4 ≡ old.trees 4 = a.others.1.1.0 (unequal _ _ refl) in
      let e6 : now.trees 6 ≡ old.trees 6 = a.others.1.1.1.0 (unequal _ _ refl) in
      let e9 : now.trees 9 ≡ old.trees 9 = a.others.1.1.1.1.0 (unequal _ _ refl) in (
        record {
          schema = schema;
          operators = subst AreNumbered (sym e0) desk.operators;
          plans = subst AreNumbered (sym e2) desk.plans;
          old_volumes = subst AreNumbered (sym e4) desk.old_volumes;
          old_spans = subst AreNumbered (sym e6) desk.old_spans;
          volumes = subst AreNumbered (sym e9) desk.volumes;
          spans = subst AreNumbered (sym a.at)
              (numbered_put new (old.trees 11) a.whole a.free desk.spans);
        },
        (
          shown_added (columns 10) row new (old.trees 11) (now.trees 11) shown a.at a.free,
          tables_span old.trees now.trees e0 e2 e4 e6 e9,
        ),
      )

module _ (s : SpanColumns) (limit : Option ℕ) (old new : Database) where
  abbrev span_params : Row
  span_params = Text s.operator ∷ Text s.id ∷ Int (pos s.place) ∷ Int s.first ∷ Int s.last ∷ Int s.lower
      ∷ Int s.upper ∷ Int s.start ∷ Int s.stop ∷ Int (pos s.priority) ∷ []

  span_cells : (rows : List Row)
      → columns 10 (with_rowid Chosen rows (cast_row span_table (Null ∷ span_params)))
      ≡ span_row s
  span_cells rows =
      let numbered : columns 10 (with_rowid Chosen rows (cast_row span_table (Null ∷ span_params)))
      ≡ columns 10 (Null ∷ cast_all span_table.columns span_params) =
      elim (is_null (cast Integer Null)) as (λ b. columns 10
      (cond b (Int (next_rowid rows) ∷ cast_all span_table.columns span_params)
      (cast Integer Null ∷ cast_all span_table.columns span_params))
      ≡ columns 10 (Null ∷ cast_all span_table.columns span_params))
      [ true ↦ refl | false ↦ refl ] in
      numbered ∙ then (same (Text s.operator)) (then (same (Text s.id))
      (then (cast_int (pos s.place)) (then (cast_int s.first)
      (then (cast_int s.last) (then (cast_int s.lower)
      (then (cast_int s.upper) (then (cast_int s.start)
      (then (cast_int s.stop) (then (cast_int (pos s.priority)) (refl))))))))))

  pub insert_span : IsDesk old → May insert_span_text span_params limit old new
      → IsDesk new × AddsSpan (span_row s) (tables_of old.trees) (tables_of new.trees)
      × (new.schema ≡ old.schema)
  insert_span desk h =
      let db = old.trees in
      let d = did insert_span_text span_params limit old new desk
      (Insert 5 (Values insert_span_terms 11)) insert_span_is h in
      let it = rows_written (task_at desk.schema.apart limit span_params span_table.name span_table.columns
      span_table.primary span_table.references 11) (Insert 5 (Values insert_span_terms 11)) db d.0
      new
      d.1 in
      let done = insert_applies desk.schema.apart limit span_params span_table.name span_table.columns
      span_table.primary span_table.references 11 insert_span_terms 11 db it.0 (Null ∷ span_params) refl
      it.1 in
      let a = adds desk.schema.apart span_table.name span_table.columns span_table.primary
      span_table.references 11 db
      it.0.trees
      (Null ∷ span_params) done in
      let same : new.schema ≡ old.schema = ap (λ (d : Database). d.schema) it.2 ∙ sym desk.schema.is in
      let now : it.0.trees ≡ new.trees = sym (ap (λ (d : Database). d.trees) it.2) in
      let both =
      span_added desk.schema.apart (span_row s)
      (with_rowid Chosen (db 11) (cast_row span_table (Null ∷ span_params))) old new
      (span_cells (db 11)) (subst IsDeskSchema (sym same) desk.schema)
      (subst (Adds desk.schema.apart 11 (with_rowid Chosen (db 11) (cast_row span_table (Null ∷ span_params)))
      db) now a)
      desk in
      (both.0, both.1, same)

pub insert_operator_changes : (name : List ℕ) (ceiling : ℕ)
    → Changes insert_operator_text (operator_row name ceiling) (AddsOperator (operator_row name ceiling))
insert_operator_changes name ceiling =
    changes_by insert_operator_text (operator_row name ceiling) _ _ insert_operator_is tt
    (λ limit old new desk h. insert_operator name ceiling limit old new desk h)

pub insert_plan_changes : (p : PlanRecord)
    → Changes insert_plan_text (plan_row_in p) (AddsPlan (plan_row_in p))
insert_plan_changes p = changes_by insert_plan_text (plan_row_in p) _ _ insert_plan_is tt
    (λ limit old new desk h. insert_plan p.operator.now p.id.now p.priority p.usage p.aircraft limit old
    new desk h)

pub insert_volume_changes : (v : VolumeRecord)
    → Changes insert_volume_text (volume_params v) (AddsVolume (volume_row_in v) (cover_of v))
insert_volume_changes v = changes_by insert_volume_text (volume_params v) _ _ insert_volume_is tt
    (λ limit old new desk h. insert_volume (volume_columns v) v.canon.now limit old new desk h)

pub insert_span_changes : (s : SpanRecord)
    → Changes insert_span_text (span_row_in s) (AddsSpan (span_row_in s))
insert_span_changes s = changes_by insert_span_text (span_row_in s) _ _ insert_span_is tt
    (λ limit old new desk h. insert_span (span_columns s) limit old new desk h)
