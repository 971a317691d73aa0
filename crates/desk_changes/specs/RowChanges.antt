-- Changes of rows: what each puts, what it does, and what it has to fit.
use Rattle.std.specs.Prelude.{◌≡◌, ℕ, Bool, not, List, [], ◌∷◌, ◌++◌, filter, IsPermutation, ◌<◌, ◌+◌, ◌^◌, true, false, length, ⊤, Option, pos, map}
use Rattle.std.specs.List.{list_any, AllByRecursion}
use Rattle.sqlite.specs.{declared.types.Value.TheVariants.Blob, declared.types.Value.TheVariants.Null, declared.types.Value.TheVariants.Int, declared.types.Value.TheVariants.Real, declared.types.Value.TheVariants.Text, declared.types.Value.Value, Order.Row, Tree.Trees, Tree.IsAscending, Effect.Database, Listing.understood}
use Rattle.desk_sql.specs.{Rows.Tables, Rows.VolumeColumns, Rows.SpanColumns, Rows.is_of, Rows.is_not_of, Rows.left_without, Rows.volume_row, Rows.cover_row, Rows.span_row, Rows.IsDesk, Rows.tables_of, Rows.is_row_by, Rows.operator_row, Rows.plan_row, Rows.AddsOperator, Rows.AddsPlan, Rows.AddsVolume, Rows.AddsSpan, Rows.SetsOperators, Rows.SetsPlans, Rows.RemovesPlan, Rows.RemovesSpans, Rows.RemovesOldVolumes, Rows.RemovesOldSpans, Changing.HasKey, Changing.HasRowids, Changing.IsShort, Changing.LacksKey, Changing.has_same_key, Changing.AreLow, Changing.FitsOperator, Changing.FitsPlan, Changing.FitsVolume, Changing.FitsSpan, Changing.IsSureChange, Statements.MayCount, Statements.MayWrite, Statements.Changes}
use Rattle.desk_changes.specs.declared.{writing.VolumeRecord.VolumeRecord, writing.SpanRecord.SpanRecord, writing.PlanRecord.PlanRecord, change.RowChange.RowChange, change.RowChange.TheVariants.AddOperator, change.RowChange.TheVariants.AddPlan, change.RowChange.TheVariants.AddVolume, change.RowChange.TheVariants.AddSpan, change.RowChange.TheVariants.SetCeiling, change.RowChange.TheVariants.SetClosed, change.RowChange.TheVariants.RemovePlan, change.RowChange.TheVariants.RemoveSpans, change.RowChange.TheVariants.EmptyOldVolumes, change.RowChange.TheVariants.EmptyOldSpans}

-- the columns of a record without `canon`; its row without `canon`; its row with the key and `canon` alone
abbrev pub volume_columns : VolumeRecord → VolumeColumns
volume_columns v = record {
  operator = v.operator.now;
  id = v.id.now;
  place = v.place;
  lower = v.lower;
  upper = v.upper;
  start = v.start;
  stop = v.stop;
  asked = v.asked.now;
}

abbrev pub volume_row_in : VolumeRecord → Row
volume_row_in v = volume_row (volume_columns v)

abbrev pub cover_of : VolumeRecord → Row
cover_of v = cover_row v.operator.now v.id.now v.place v.canon.now

-- the whole row of `volume2`
abbrev pub volume_params : VolumeRecord → Row
volume_params v = volume_row_in v ++ Blob v.canon.now ∷ []

-- the columns and the row of a record
abbrev pub span_columns : SpanRecord → SpanColumns
span_columns s = record {
  operator = s.operator.now;
  id = s.id.now;
  place = s.place;
  first = s.first;
  last = s.last;
  lower = s.lower;
  upper = s.upper;
  start = s.start;
  stop = s.stop;
  priority = s.priority;
}

abbrev pub span_row_in : SpanRecord → Row
span_row_in s = span_row (span_columns s)

-- the rows of volumes and their covers are added to `volume2`, and all else stays
abbrev pub AddsVolumes : List Row → List Row → Tables → Tables → Type 0
AddsVolumes rows covers old new = IsPermutation (rows ++ old.volumes) new.volumes
    × IsPermutation (covers ++ old.covers) new.covers
    × (new ≡ record old { volumes = new.volumes; covers = new.covers })

-- the rows are added to `span2`, and all else stays
abbrev pub AddsSpans : List Row → Tables → Tables → Type 0
AddsSpans rows old new = IsPermutation (rows ++ old.spans) new.spans
    × (new ≡ record old { spans = new.spans })

-- a plan to store: its operator and id, its row, and the rows of its volumes, covers and spans
pub record PlanPut : Type 0 where
  pub operator : List ℕ
  pub id : List ℕ
  pub plan : Row
  pub volumes : List Row
  pub covers : List Row
  pub spans : List Row

-- the rows of the plan's former version, if there was one, are removed, and those of `put` are added
pub record PutsPlan (put : PlanPut) (old new : Tables) : Type 0 where
  pub operators : new.operators ≡ old.operators
  pub plans : IsPermutation (put.plan ∷ filter (is_not_of put.operator put.id) old.plans) new.plans
  pub old_volumes : new.old_volumes ≡ left_without put.operator put.id old old.old_volumes
  pub old_spans : new.old_spans ≡ left_without put.operator put.id old old.old_spans
  pub with_volumes : IsPermutation (put.volumes ++ left_without put.operator put.id old old.volumes)
      new.volumes
  pub with_covers : IsPermutation (put.covers ++ left_without put.operator put.id old old.covers) new.covers
  pub with_spans : IsPermutation (put.spans ++ left_without put.operator put.id old old.spans) new.spans

-- the row belongs to none of the operator's plans with these ids
abbrev pub is_of_none : List ℕ → List (List ℕ) → Row → Bool
is_of_none operator ids row = not (list_any (λ id. is_of operator id row) ids)

-- those of the ids whose plan is stored
abbrev pub ids_stored : List ℕ → List (List ℕ) → Tables → List (List ℕ)
ids_stored operator ids old = filter (λ id. list_any (is_of operator id) old.plans) ids

-- the operator's plans with these ids are removed, and with each that is stored its volumes and spans
abbrev pub RemovesPlans : List ℕ → List (List ℕ) → Tables → Tables → Type 0
RemovesPlans operator ids old new =
    new ≡ record {
      operators = old.operators;
      plans = filter (is_of_none operator ids) old.plans;
      old_volumes = filter (is_of_none operator (ids_stored operator ids old)) old.old_volumes;
      old_spans = filter (is_of_none operator (ids_stored operator ids old)) old.old_spans;
      volumes = filter (is_of_none operator (ids_stored operator ids old)) old.volumes;
      covers = filter (is_of_none operator (ids_stored operator ids old)) old.covers;
      spans = filter (is_of_none operator (ids_stored operator ids old)) old.spans;
    }

-- ==== What a plan to store has to fit: how many rowids are left, and which keys are free
-- ---- rowids
-- rowids are left for `count` more rows; there are 2 ^ 63 - 1 above 0
abbrev pub HasRoomFor : ℕ → List Row → Type 0
HasRoomFor count rows = (count < 2 ^ 63) × HasRowids count rows

-- a change uses at most this many rowids of `plan` (tree 2), of `volume2` (tree 9) and of `span2` (tree 11)
pub record TakesRoom (plans volumes spans : ℕ) (old new : Trees) : Type 0 where
  pub of_plans : (left : ℕ) → HasRoomFor (plans + left) (old 2) → HasRoomFor left (new 2)
  pub of_volumes : (left : ℕ) → HasRoomFor (volumes + left) (old 9) → HasRoomFor left (new 9)
  pub of_spans : (left : ℕ) → HasRoomFor (spans + left) (old 11) → HasRoomFor left (new 11)

-- a change uses at most this many rowids of `operator` (tree 0)
abbrev pub TakesOperators : ℕ → Trees → Trees → Type 0
TakesOperators operators old new =
    (left : ℕ) → HasRoomFor (operators + left) (old 0) → HasRoomFor left (new 0)

-- a statement that with these parameters changes a desk's b-trees as `Room` says
pub record TextTakes (text : List ℕ) (params : Row) (Room : Trees → Trees → Type 0) : Type 0 where
  pub room : (limit : Option ℕ) (old new : Database) → IsDesk old
      → MayWrite text (understood old.schema text) params limit old new → Room old.trees new.trees

-- a statement that with these parameters counts a number of rows as changed for which `Counts` holds
pub record TextCounts (text : List ℕ) (params : Row) (Counts : ℕ → Tables → Type 0) : Type 0 where
  pub counted : (limit : Option ℕ) (old new : Database) (count : ℕ) → IsDesk old
      → MayCount text (understood old.schema text) params limit old new count
      → Counts count (tables_of old.trees)

-- ---- rows that are new
-- a text or bytes are at most 100 million bytes
abbrev pub IsShortValue : Value → Type 0
IsShortValue Null = ⊤
IsShortValue (Int n) = ⊤
IsShortValue (Real x) = ⊤
IsShortValue (Text text) = IsShort text
IsShortValue (Blob bytes) = IsShort bytes

-- all texts and bytes in each row are that short
abbrev pub AreShort : List Row → Type 0
AreShort rows = AllByRecursion (λ r. AllByRecursion IsShortValue r) rows

-- no two of the rows have the same key; the key is the first `width` columns
abbrev pub HaveOwnKeys : ℕ → List Row → Type 0
HaveOwnKeys width rows = IsAscending (λ a b. has_same_key width a b ≡ false) rows

-- rows that can be added one after the other: the plan of each is stored, and their keys are new. `stored`
-- are the table's rows with their rowids, `shown` those without
pub record AreNewRows (width : ℕ) (rows stored shown plans : List Row) : Type 0 where
  pub short : AreShort rows
  pub room : HasRoomFor (length rows) stored
  pub apart : HaveOwnKeys width rows
  pub free : AllByRecursion (λ r. LacksKey width r shown) rows
  pub planned : AllByRecursion (λ r. HasKey 2 r plans) rows

-- rows of volumes, and their covers, that can be added
abbrev pub AreNewVolumes : List Row → List Row → Database → Type 0
AreNewVolumes rows covers db =
    AreNewRows 3 rows (db.trees 9) (tables_of db.trees).volumes (tables_of db.trees).plans × AreShort covers

-- rows of spans that can be added
abbrev pub AreNewSpans : List Row → Database → Type 0
AreNewSpans rows db = AreNewRows 4 rows (db.trees 11) (tables_of db.trees).spans (tables_of db.trees).plans

-- ---- a plan with its volumes and spans
-- short rows of one plan, each with its own key of `width` columns
pub record AreOfPlan (operator id : List ℕ) (width : ℕ) (rows : List Row) : Type 0 where
  pub short : AreShort rows
  pub own : AllByRecursion (λ r. is_of operator id r ≡ true) rows
  pub apart : HaveOwnKeys width rows

-- a plan that can be stored: its operator is listed, its rows are its own, and there are rowids for them
pub record IsPuttable (put : PlanPut) (db : Database) : Type 0 where
  pub operator_short : IsShort put.operator
  pub id_short : IsShort put.id
  pub listed : HasKey 1 put.plan (tables_of db.trees).operators
  pub volumes_of : AreOfPlan put.operator put.id 3 put.volumes
  pub short_covers : AreShort put.covers
  pub spans_of : AreOfPlan put.operator put.id 4 put.spans
  pub plan_room : HasRoomFor 1 (db.trees 2)
  pub volume_room : HasRoomFor (length put.volumes) (db.trees 9)
  pub span_room : HasRoomFor (length put.spans) (db.trees 11)

-- ==== The parameters of each change, what it does, and what it has to fit
-- the row of a record
abbrev pub plan_row_in : PlanRecord → Row
plan_row_in p = plan_row p.operator.now p.id.now p.priority p.usage p.aircraft

-- the plan to store that these records describe
abbrev pub plan_put : PlanRecord → List VolumeRecord → List SpanRecord → PlanPut
plan_put p volumes spans = record {
  operator = p.operator.now;
  id = p.id.now;
  plan = plan_row_in p;
  volumes = map volume_row_in volumes;
  covers = map cover_of volumes;
  spans = map span_row_in spans;
}

-- the parameters that name a plan, and below those that close it
abbrev pub key_row : List ℕ → List ℕ → Row
key_row operator id = Text operator ∷ Text id ∷ []

abbrev pub closing_row : List ℕ → List ℕ → ℕ → ℕ → Row
closing_row operator id priority aircraft =
    Text operator ∷ Text id ∷ Int (pos priority) ∷ Int (pos aircraft) ∷ []

-- the values of the parameters of a change's statement, in their order
abbrev pub given_to : RowChange → Row
given_to (AddOperator name ceiling) = operator_row name.now ceiling
given_to (AddPlan p) = plan_row_in p
given_to (AddVolume v) = volume_params v
given_to (AddSpan s) = span_row_in s
given_to (SetCeiling name ceiling) = operator_row name.now ceiling
given_to (SetClosed operator id priority aircraft) = closing_row operator.now id.now priority aircraft
given_to (RemovePlan operator id) = key_row operator.now id.now
given_to (RemoveSpans operator id) = key_row operator.now id.now
given_to EmptyOldVolumes = []
given_to EmptyOldSpans = []

-- how a change changes the tables (the usage 2 is Closed)
abbrev pub changes : RowChange → Tables → Tables → Type 0
changes (AddOperator name ceiling) = AddsOperator (operator_row name.now ceiling)
changes (AddPlan p) = AddsPlan (plan_row_in p)
changes (AddVolume v) = AddsVolume (volume_row_in v) (cover_of v)
changes (AddSpan s) = AddsSpan (span_row_in s)
changes (SetCeiling name ceiling) = SetsOperators (is_row_by name.now) (operator_row name.now ceiling)
changes (SetClosed operator id priority aircraft) =
    SetsPlans (is_of operator.now id.now) (plan_row operator.now id.now priority 2 aircraft)
changes (RemovePlan operator id) = RemovesPlan operator.now id.now
changes (RemoveSpans operator id) = RemovesSpans operator.now id.now
changes EmptyOldVolumes = RemovesOldVolumes
changes EmptyOldSpans = RemovesOldSpans

-- what a database has to fit, so that only memory, the disk and a limit on steps refuse the change
abbrev pub fits : RowChange → Database → Type 0
fits (AddOperator name ceiling) db = FitsOperator name.now (operator_row name.now ceiling) db
fits (AddPlan p) db = FitsPlan p.operator.now p.id.now (plan_row_in p) db
fits (AddVolume v) db = FitsVolume v.operator.now v.id.now v.asked.now v.canon.now (volume_row_in v) db
fits (AddSpan s) db = FitsSpan s.operator.now s.id.now (span_row_in s) db
fits (SetCeiling name ceiling) db = IsShort name.now × AreLow (db.trees 0)
fits (SetClosed operator id priority aircraft) db =
    IsShort operator.now × IsShort id.now × AreLow (db.trees 2)
fits _ db = ⊤

-- if no row of `operator` passes, the b-tree of `operator` (0) stays
abbrev pub OperatorsStayUnless : (Row → Bool) → Trees → Trees → Type 0
OperatorsStayUnless passes old new = list_any passes (tables_of old).operators ≡ false → new 0 ≡ old 0

-- how many rows a change counts; nothing is said of those whose count no caller needs
abbrev pub counts : RowChange → ℕ → Tables → Type 0
counts (SetCeiling name ceiling) count t = count ≡ length (filter (is_row_by name.now) t.operators)
counts _ count t = ⊤

-- how many rowids a change uses; nothing is said where no caller needs it
abbrev pub takes : RowChange → Trees → Trees → Type 0
takes (AddOperator name ceiling) old new = TakesOperators 1 old new
takes (AddPlan p) old new = TakesRoom 1 0 0 old new
takes (AddVolume v) old new = TakesRoom 0 1 0 old new
takes (AddSpan s) old new = TakesRoom 0 0 1 old new
takes (SetCeiling name ceiling) old new = OperatorsStayUnless (is_row_by name.now) old new
takes (SetClosed operator id priority aircraft) old new = ⊤
takes (RemoveSpans operator id) old new = ⊤
takes _ old new = TakesRoom 0 0 0 old new

-- a statement that with these parameters changes the tables as `Change` says, succeeds where `Fits` holds but
-- for memory, the disk and a limit on steps, uses rowids as `Takes` says, and counts rows as `Counts` says
pub record Does (text : List ℕ) (params : Row) (Change : Tables → Tables → Type 0) (Fits : Database → Type 0)
    (Takes : Trees → Trees → Type 0) (Counts : ℕ → Tables → Type 0) : Type 0
  where
    pub changed : Changes text params Change
    pub sure : IsSureChange text params Fits
    pub room : TextTakes text params Takes
    pub counted : TextCounts text params Counts

-- the text is a statement that does what the change says
abbrev pub IsTextOf : RowChange → List ℕ → Type 0
IsTextOf change text = Does text (given_to change) (changes change) (fits change) (takes change) (counts change)

-- ---- the same for each change that has names and numbers as parameters
abbrev pub DoesAddOperator : List ℕ → ℕ → List ℕ → Type 0
DoesAddOperator name ceiling text =
    Does text (operator_row name ceiling) (AddsOperator (operator_row name ceiling))
    (FitsOperator name (operator_row name ceiling)) (TakesOperators 1) (λ count t. ⊤)

abbrev pub DoesSetCeiling : List ℕ → ℕ → List ℕ → Type 0
DoesSetCeiling name ceiling text =
    Does text (operator_row name ceiling) (SetsOperators (is_row_by name) (operator_row name ceiling))
    (λ db. IsShort name × AreLow (db.trees 0)) (OperatorsStayUnless (is_row_by name))
    (λ count t. count ≡ length (filter (is_row_by name) t.operators))

abbrev pub DoesSetClosed : List ℕ → List ℕ → ℕ → ℕ → List ℕ → Type 0
DoesSetClosed operator id priority aircraft text =
    Does text (closing_row operator id priority aircraft)
    (SetsPlans (is_of operator id) (plan_row operator id priority 2 aircraft))
    (λ db. IsShort operator × IsShort id × AreLow (db.trees 2)) (λ old new. ⊤) (λ count t. ⊤)

abbrev pub DoesRemovePlan : List ℕ → List ℕ → List ℕ → Type 0
DoesRemovePlan operator id text =
    Does text (key_row operator id) (RemovesPlan operator id) (λ db. ⊤) (TakesRoom 0 0 0) (λ count t. ⊤)

abbrev pub DoesRemoveSpans : List ℕ → List ℕ → List ℕ → Type 0
DoesRemoveSpans operator id text =
    Does text (key_row operator id) (RemovesSpans operator id) (λ db. ⊤) (λ old new. ⊤) (λ count t. ⊤)
