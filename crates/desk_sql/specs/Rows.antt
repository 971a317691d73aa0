-- The rows of the six tables, as a caller sees them.
use Rattle.std.specs.Prelude.{◌≡◌, ℕ, ℤ, pos, Bool, true, false, ◌&&◌, ◌||◌, not, List, [], ◌∷◌, map, drop, filter, ◌++◌, IsPermutation, IsSorted, if◌then◌else◌}
use Rattle.std.specs.{Ordering.is_eq, Ordering.is_lt, Ordering.is_le, Ordering.is_gt, Ordering.is_ge, Ordering.ordering_then, List.AllByRecursion, List.flat_map, List.list_any, List.range_with_len}
use Rattle.std.specs.declared.cmp.{Ordering.Ordering, Ordering.TheVariants.Equal}
use Rattle.sqlite.specs.{Ops.is_null, Order.Row, Order.column, Order.value_cmp, Tree.Trees, Tree.rowid, Tree.IsAscending, View.is_int, Effect.Database, declared.types.Value.Value, declared.types.Value.TheVariants.Int, declared.types.Value.TheVariants.Text, declared.types.Value.TheVariants.Blob}
use Rattle.desk_sql.specs.{declared.opening.finding.TablesPresent.TablesPresent, declared.opening.finding.TablesPresent.TheVariants.Nothing, declared.opening.finding.TablesPresent.TheVariants.Operators, declared.opening.finding.TablesPresent.TheVariants.Plans, declared.opening.finding.TablesPresent.TheVariants.OldVolumes, declared.opening.finding.TablesPresent.TheVariants.OldSpans, declared.opening.finding.TablesPresent.TheVariants.OldIndex, declared.opening.finding.TablesPresent.TheVariants.Volumes, declared.opening.finding.TablesPresent.TheVariants.Spans, declared.opening.finding.TablesPresent.TheVariants.All, declared.opening.finding.TablesPresent.TheVariants.Packed, declared.opening.numbers.DeskTable.DeskTable, declared.opening.numbers.DeskTable.TheVariants.PackedVolume, declared.opening.numbers.DeskTable.TheVariants.Volume, declared.reading.rivals.SpanFilter.SpanFilter, Schema.IsDeskSchema, Schema.IsSchemaOf, Schema.tree_of, Schema.has_table}

-- ---- what a row holds
-- the rows of `operator`, and of `plan`, with these values
abbrev pub operator_row : List ℕ → ℕ → Row
operator_row name ceiling = Text name ∷ Int (pos ceiling) ∷ []

abbrev pub plan_row : List ℕ → List ℕ → ℕ → ℕ → ℕ → Row
plan_row operator id priority usage aircraft =
    Text operator ∷ Text id ∷ Int (pos priority) ∷ Int (pos usage) ∷ Int (pos aircraft) ∷ []

-- the columns of `volume2`, but for `canon`
pub record VolumeColumns : Type 0 where
  pub operator : List ℕ
  pub id : List ℕ
  pub place : ℕ
  pub lower : ℤ
  pub upper : ℤ
  pub start : ℤ
  pub stop : ℤ
  pub asked : List ℕ

abbrev pub volume_row : VolumeColumns → Row
volume_row v =
    Text v.operator ∷ Text v.id ∷ Int (pos v.place) ∷ Int v.lower ∷ Int v.upper ∷ Int v.start ∷ Int v.stop
    ∷ Blob v.asked ∷ []

-- the key of a volume's row, and `canon`: the ids of its canonical cover
abbrev pub cover_row : List ℕ → List ℕ → ℕ → List ℕ → Row
cover_row operator id place canon = Text operator ∷ Text id ∷ Int (pos place) ∷ Blob canon ∷ []

-- the columns of `span2`
pub record SpanColumns : Type 0 where
  pub operator : List ℕ
  pub id : List ℕ
  pub place : ℕ
  pub first : ℤ
  pub last : ℤ
  pub lower : ℤ
  pub upper : ℤ
  pub start : ℤ
  pub stop : ℤ
  pub priority : ℕ

abbrev pub span_row : SpanColumns → Row
span_row s =
    Text s.operator ∷ Text s.id ∷ Int (pos s.place) ∷ Int s.first ∷ Int s.last ∷ Int s.lower ∷ Int s.upper
    ∷ Int s.start ∷ Int s.stop ∷ Int (pos s.priority) ∷ []

-- ---- whose a row is
abbrev pub is_text : Value → List ℕ → Bool
is_text v text = is_eq (value_cmp v (Text text))

-- the first column: the name of an operator, or of the operator whose row it is
abbrev pub is_row_by : List ℕ → Row → Bool
is_row_by operator row = is_text (column row 0) operator

-- whether a row of a table other than `operator` belongs to this plan
abbrev pub is_of : List ℕ → List ℕ → Row → Bool
is_of operator id row = is_row_by operator row && is_text (column row 1) id

abbrev pub is_not_of : List ℕ → List ℕ → Row → Bool
is_not_of operator id row = not (is_of operator id row)

-- ---- the tables
-- the rows of each table, as a query shows them: without their rowids. Those of `volume2` are seen in two
-- parts, each with the key: `volumes` without `canon`, and `covers` with `canon` alone
pub record Tables : Type 0 where
  pub operators : List Row
  pub plans : List Row
  pub old_volumes : List Row
  pub old_spans : List Row
  pub volumes : List Row
  pub covers : List Row
  pub spans : List Row

-- the first `width` columns of a stored row, without the rowid that it begins with
abbrev pub columns : ℕ → Row → Row
columns width row = map (column row) (range_with_len 1 width)

-- `operator`, `id`, `place` and `canon` of a stored row of `volume2`
abbrev pub cover_columns : Row → Row
cover_columns row = map (column row) (1 ∷ 2 ∷ 3 ∷ 9 ∷ [])

-- the rows of a database in canonical order, by the numbers of the b-trees
abbrev pub tables_of : Trees → Tables
tables_of db = record {
  operators = map (columns 2) (db 0);
  plans = map (columns 5) (db 2);
  old_volumes = map (columns 8) (db 4);
  old_spans = map (columns 10) (db 6);
  volumes = map (columns 8) (db 9);
  covers = map cover_columns (db 9);
  spans = map (columns 10) (db 11);
}

abbrev pub no_rows : Tables
no_rows = record {
  operators = [];
  plans = [];
  old_volumes = [];
  old_spans = [];
  volumes = [];
  covers = [];
  spans = [];
}

-- the rows of version 1's tables, and none of the others
abbrev pub old_tables_of : Trees → Tables
old_tables_of db = record (tables_of db) { volumes = []; covers = []; spans = [] }

-- the rows of a packed file
abbrev pub packed_tables_of : Trees → Tables
packed_tables_of db = record (tables_of db) {
  volumes = map (columns 8) (db 8);
  covers = map cover_columns (db 8);
  spans = map (columns 10) (db 10);
}

-- the rows of the tables, packed or not
abbrev pub tables_in : Bool → Trees → Tables
tables_in true db = packed_tables_of db
tables_in false db = tables_of db

-- the rows of a database that has the tables `made`; a table that it doesn't have has no rows
abbrev pub tables_at : TablesPresent → Trees → Tables
tables_at Nothing db = no_rows
tables_at Operators db = record no_rows { operators = map (columns 2) (db 0) }
tables_at Plans db = record no_rows { operators = map (columns 2) (db 0); plans = map (columns 5) (db 2) }
tables_at OldVolumes db = record (old_tables_of db) { old_spans = [] }
tables_at OldSpans db = old_tables_of db
tables_at OldIndex db = old_tables_of db
tables_at Volumes db = record (tables_of db) { spans = [] }
tables_at Spans db = tables_of db
tables_at All db = tables_of db
tables_at Packed db = packed_tables_of db

abbrev pub has_rows : List Row → Bool
has_rows [] = false
has_rows (row ∷ rows) = true

-- whether one of version 1's own tables has a row
abbrev pub has_old_rows : Tables → Bool
has_old_rows t = has_rows t.old_volumes || has_rows t.old_spans

-- whether one of the tables of version 2 alone has a row
abbrev pub has_new_rows : Tables → Bool
has_new_rows t = has_rows t.volumes || has_rows t.spans

-- ---- changes of the tables: what is not named stays
abbrev pub AddsOperator : Row → Tables → Tables → Type 0
AddsOperator row old new = IsPermutation (row ∷ old.operators) new.operators
    × (new ≡ record old { operators = new.operators })

abbrev pub AddsPlan : Row → Tables → Tables → Type 0
AddsPlan row old new = IsPermutation (row ∷ old.plans) new.plans × (new ≡ record old { plans = new.plans })

-- a volume and its cover are added, which are one row of `volume2`
abbrev pub AddsVolume : Row → Row → Tables → Tables → Type 0
AddsVolume row cover old new = IsPermutation (row ∷ old.volumes) new.volumes
    × IsPermutation (cover ∷ old.covers) new.covers
    × (new ≡ record old { volumes = new.volumes; covers = new.covers })

abbrev pub AddsSpan : Row → Tables → Tables → Type 0
AddsSpan row old new = IsPermutation (row ∷ old.spans) new.spans × (new ≡ record old { spans = new.spans })

-- the rows that are left if the plan is removed: those of other plans, or all if the plan isn't stored
abbrev pub left_without : List ℕ → List ℕ → Tables → List Row → List Row
left_without operator id old rows =
    if list_any (is_of operator id) old.plans then filter (is_not_of operator id) rows else rows

-- the plan is removed, if it is stored, and its volumes and spans with it
abbrev pub RemovesPlan : List ℕ → List ℕ → Tables → Tables → Type 0
RemovesPlan operator id old new =
    new ≡ record {
      operators = old.operators;
      plans = filter (is_not_of operator id) old.plans;
      old_volumes = left_without operator id old old.old_volumes;
      old_spans = left_without operator id old old.old_spans;
      volumes = left_without operator id old old.volumes;
      covers = left_without operator id old old.covers;
      spans = left_without operator id old old.spans;
    }

abbrev pub RemovesSpans : List ℕ → List ℕ → Tables → Tables → Type 0
RemovesSpans operator id old new = new ≡ record old { spans = filter (is_not_of operator id) old.spans }

abbrev pub RemovesOldVolumes : Tables → Tables → Type 0
RemovesOldVolumes old new = new ≡ record old { old_volumes = [] }

abbrev pub RemovesOldSpans : Tables → Tables → Type 0
RemovesOldSpans old new = new ≡ record old { old_spans = [] }

-- rows with `row` in place of each that passes the test `p`
abbrev pub with_row : (Row → Bool) → Row → List Row → List Row
with_row p row = map (λ r. if p r then row else r)

abbrev pub SetsOperators : (Row → Bool) → Row → Tables → Tables → Type 0
SetsOperators p row old new = IsPermutation (with_row p row old.operators) new.operators
    × (new ≡ record old { operators = new.operators })

abbrev pub SetsPlans : (Row → Bool) → Row → Tables → Tables → Type 0
SetsPlans p row old new = IsPermutation (with_row p row old.plans) new.plans
    × (new ≡ record old { plans = new.plans })

-- the operator's row is set, or added where there is none with its name
abbrev pub PutsOperator : List ℕ → ℕ → Tables → Tables → Type 0
PutsOperator name ceiling old new =
    IsPermutation (if list_any (is_row_by name) old.operators
    then with_row (is_row_by name) (operator_row name ceiling) old.operators
    else operator_row name ceiling ∷ old.operators) new.operators
    × (new ≡ record old { operators = new.operators })

-- the plan's row gets the usage Closed (2), this priority and aircraft, and its rows of `span2` are removed
pub record ClosesPlan (operator id : List ℕ) (priority aircraft : ℕ) (old new : Tables) : Type 0 where
  pub operators : new.operators ≡ old.operators
  pub plans : IsPermutation (with_row (is_of operator id)
      (plan_row operator id priority 2 aircraft) old.plans) new.plans
  pub old_volumes : new.old_volumes ≡ old.old_volumes
  pub old_spans : new.old_spans ≡ old.old_spans
  pub volumes : new.volumes ≡ old.volumes
  pub covers : new.covers ≡ old.covers
  pub spans : new.spans ≡ filter (is_not_of operator id) old.spans

-- rowids are whole numbers, and none comes twice: what makes a DELETE remove just the rows that it names
pub record AreNumbered (rows : List Row) : Type 0 where
  pub whole : AllByRecursion (λ r. is_int (rowid r) ≡ true) rows
  pub distinct : IsAscending (λ a b. is_eq (value_cmp (rowid a) (rowid b)) ≡ false) rows

-- SQL's = and <>, which are not true of NULL
abbrev pub is_same : Value → Value → Bool
is_same a b = not (is_null a) && is_eq (value_cmp a b)

abbrev pub differs : Value → Value → Bool
differs a b = not (is_null a) && not (is_eq (value_cmp a b))

-- the plan's columns, and then the volume's from `place` on
abbrev pub joined : Row → Row → Row
joined plan volume = plan ++ drop 2 volume

abbrev pub has_volume : Row → Row → Bool
has_volume plan volume = is_same (column volume 0) (column plan 0)
    && is_same (column volume 1) (column plan 1)

-- each plan that is wanted with each of its volumes
abbrev pub with_volumes : (Row → Bool) → Tables → List Row
with_volumes wanted t = flat_map (λ p. map (joined p) (filter (has_volume p) t.volumes))
    (filter wanted t.plans)

-- SQL's <=, >=, < and > with a number, which are not true of NULL
abbrev pub is_at_most : Value → ℤ → Bool
is_at_most v n = not (is_null v) && is_le (value_cmp v (Int n))

abbrev pub is_at_least : Value → ℤ → Bool
is_at_least v n = not (is_null v) && is_ge (value_cmp v (Int n))

abbrev pub is_below : Value → ℤ → Bool
is_below v n = not (is_null v) && is_lt (value_cmp v (Int n))

abbrev pub is_above : Value → ℤ → Bool
is_above v n = not (is_null v) && is_gt (value_cmp v (Int n))

-- `reach` selects the span. Columns 3 to 9 are `first`, `last`, `lower`, `upper`, `start`, `stop`, `priority`
abbrev pub passes_filter : SpanFilter → Row → Bool
passes_filter reach span =
    is_at_most (column span 3) reach.last
    && (is_at_least (column span 4) reach.first
    && (is_below (column span 5) reach.upper
    && (is_above (column span 6) reach.lower
    && (is_below (column span 7) reach.stop
    && (is_above (column span 8) reach.start
    && is_at_least (column span 9) (pos reach.priority))))))

-- a span of another plan than this one that the filter `reach` selects
abbrev pub is_rival : List ℕ → List ℕ → SpanFilter → Row → Bool
is_rival operator id reach span =
    passes_filter reach span
    && (differs (column span 0) (Text operator) || differs (column span 1) (Text id))

-- such a span that begins at the leaf position `low` or later
abbrev pub is_rival_from : List ℕ → List ℕ → SpanFilter → ℤ → Row → Bool
is_rival_from operator id reach low span = is_at_least (column span 3) low && is_rival operator id reach span

-- a span's columns from `first` on
abbrev pub columns_from_first : Row → Row
columns_from_first span = drop 3 span

-- the order of rows by these columns, the first first
abbrev pub by_cells : List ℕ → Row → Row → Ordering
by_cells [] a b = Equal
by_cells (at ∷ more) a b = ordering_then (value_cmp (column a at) (column b at)) (by_cells more a b)

-- `rows` are just the rows `wanted`, ordered by the columns `cells`
pub record Lists (cells : List ℕ) (wanted rows : List Row) : Type 0 where
  pub same : IsPermutation wanted rows
  pub sorted : IsSorted (by_cells cells) rows

-- a database with the desk's tables and their indexes, whose rowids are whole numbers, each once. Other tables
-- and views may stand beside them
pub record IsDesk (db : Database) : Type 0 where
  pub schema : IsDeskSchema db.schema
  pub operators : AreNumbered (db.trees 0)
  pub plans : AreNumbered (db.trees 2)
  pub old_volumes : AreNumbered (db.trees 4)
  pub old_spans : AreNumbered (db.trees 6)
  pub volumes : AreNumbered (db.trees 9)
  pub spans : AreNumbered (db.trees 11)

-- the rowids of each table that there is are whole numbers, each once
abbrev pub AreNumberedTo : TablesPresent → Trees → Type 0
AreNumberedTo made trees =
    (table : DeskTable) → has_table made table ≡ true → AreNumbered (trees (tree_of table))

-- a database that has the tables and indexes `made`, whose rowids are whole numbers, each once. It has nothing
-- else but what stands beside a whole desk
pub record IsMadeTo (made : TablesPresent) (db : Database) : Type 0 where
  pub schema : IsSchemaOf made db.schema
  pub rows : AreNumberedTo made db.trees

-- a span of another operator's plan that the filter `reach` selects
abbrev pub is_others : List ℕ → SpanFilter → Row → Bool
is_others operator reach span = passes_filter reach span && differs (column span 0) (Text operator)

-- such a span that begins at the leaf position `low` or later
abbrev pub is_others_from : List ℕ → SpanFilter → ℤ → Row → Bool
is_others_from operator reach low span = is_at_least (column span 3) low && is_others operator reach span

-- a span of this plan that the filter `reach` selects
abbrev pub is_plan_span : List ℕ → List ℕ → SpanFilter → Row → Bool
is_plan_span operator id reach span = passes_filter reach span && is_of operator id span

-- ==== The rows of `volume2` as an opening reads them: each once, with all its columns
-- `volume2`, which in a packed file has another b-tree
abbrev pub volume_table_in : Bool → DeskTable
volume_table_in packed = if packed then PackedVolume else Volume

-- a row of `volume2` without its last column, `canon`
abbrev pub volume_part : Row → Row
volume_part row = map (column row) (range_with_len 0 8)

-- its key and `canon` alone
abbrev pub cover_part : Row → Row
cover_part row = map (column row) (0 ∷ 1 ∷ 2 ∷ 8 ∷ [])

-- the rows with all columns are those of `volume2`: without `canon` they are the volumes, and with the key
-- and `canon` alone the covers. Both are ordered by the key (columns 0 to 2)
pub record ListVolumes (t : Tables) (rows : List Row) : Type 0 where
  pub volumes_listed : Lists (0 ∷ 1 ∷ 2 ∷ []) t.volumes (map volume_part rows)
  pub covers_listed : Lists (0 ∷ 1 ∷ 2 ∷ []) t.covers (map cover_part rows)
