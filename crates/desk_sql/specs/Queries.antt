-- What each query lists, what it hands over, and its result.
use Rattle.std.specs.Prelude.{ℕ, ℤ, pos, Bool, if◌then◌else◌, List, [], ◌∷◌, map, filter, ◌≡◌, ◌≤◌, ◌⊎◌, ◌-◌, ◌^◌, true, false, ◌++◌, length, Result, IfOk, IfErr, IsTrue, OnErr, OnOk}
use Rattle.sqlite.specs.{declared.types.Value.TheVariants.Int, declared.types.Value.TheVariants.Null, declared.types.Value.TheVariants.Text, declared.error.Error.Error, declared.error.Error.TheVariants.SqliteFailure, Order.Row, Store.Ghosts, Held.Held, Held.state, Given.HasGiven, Given.FailsToAdvance, Given.IsPlain, Listing.understood, State.HasCleanDisk, State.FailsToQuery, State.Shown, State.IsUnchanged, State.IsRolledBack, State.KeepsCommit, Tree.Trees, Effect.Database}
use Rattle.sqlite.specs.declared.error.ErrorCode.TheVariants as code
use Rattle.desk_sql.specs.{declared.opening.numbers.DeskTable.DeskTable, declared.reading.rivals.SpanFilter.SpanFilter, declared.reading.whole.WholeTable.WholeTable, declared.reading.query.Query.Query, declared.reading.query.Query.TheVariants.PlanOf, declared.reading.query.Query.TheVariants.VolumesOf, declared.reading.query.Query.TheVariants.OwnPlans, declared.reading.query.Query.TheVariants.RivalSpans, declared.reading.query.Query.TheVariants.OtherSpans, declared.reading.query.Query.TheVariants.SpansOf, Rows.Tables, Rows.is_row_by, Rows.is_of, Rows.with_volumes, Rows.is_rival_from, Rows.columns_from_first, Rows.is_others_from, Rows.is_plan_span, Rows.tables_in, Effects.Remembers, Effects.StaysShown, Effects.Makes, Effects.Commits, Effects.MayMake, Effects.IsUnderWay, Effects.OnlyReads, Effects.IsOver, Statements.IsRefusal, Statements.SelectsAll}
use Rattle.desk_sql.specs.declared.opening.numbers.DeskTable.TheVariants as desk
use Rattle.desk_sql.specs.declared.reading.whole.WholeTable.TheVariants as whole

-- whatever the old state kept of an earlier one, the new state keeps too
abbrev pub KeepsOn : {A : Type 0} → (A → A → Type 0) → A → A → Type 0
KeepsOn {A} keeps old new = (first : A) → keeps first old → keeps first new

-- ==== What each query lists
-- ---- whole tables
-- the table that is read
abbrev pub table_read : WholeTable → DeskTable
table_read whole.Operators = desk.Operator
table_read whole.Plans = desk.Plan
table_read whole.OldVolumes = desk.OldVolume
table_read whole.OldSpans = desk.OldSpan
table_read whole.Spans = desk.Span

-- that table, which in a packed file may have another b-tree
abbrev pub table_in : WholeTable → Bool → DeskTable
table_in whole.Operators packed = desk.Operator
table_in whole.Plans packed = desk.Plan
table_in whole.OldVolumes packed = desk.OldVolume
table_in whole.OldSpans packed = desk.OldSpan
table_in whole.Spans packed = if packed then desk.PackedSpan else desk.Span

-- the columns by which a table's rows are ordered, counted from 0: its key
abbrev pub key_cells : DeskTable → List ℕ
key_cells desk.Operator = 0 ∷ []
key_cells desk.Plan = 0 ∷ 1 ∷ []
key_cells desk.OldVolume = 0 ∷ 1 ∷ 2 ∷ []
key_cells desk.OldSpan = 0 ∷ 1 ∷ 2 ∷ 3 ∷ []
key_cells desk.Volume = 0 ∷ 1 ∷ 2 ∷ []
key_cells desk.Span = 0 ∷ 1 ∷ 2 ∷ 3 ∷ []
key_cells desk.PackedVolume = 0 ∷ 1 ∷ 2 ∷ []
key_cells desk.PackedSpan = 0 ∷ 1 ∷ 2 ∷ 3 ∷ []

-- the rows of the table that is read
abbrev pub rows_read : WholeTable → Tables → List Row
rows_read whole.Operators t = t.operators
rows_read whole.Plans t = t.plans
rows_read whole.OldVolumes t = t.old_volumes
rows_read whole.OldSpans t = t.old_spans
rows_read whole.Spans t = t.spans

-- ---- queries with parameters
-- the parameters of the query of spans except those of one plan; `reach` is the filter
abbrev pub rival_params : List ℕ → List ℕ → SpanFilter → ℤ → Row
rival_params operator id reach low =
    Int reach.last ∷ Int reach.first ∷ Int reach.upper ∷ Int reach.lower ∷ Int reach.stop ∷ Int reach.start
    ∷ Int (pos reach.priority) ∷ Text operator ∷ Text id ∷ Int low ∷ []

-- the parameters of the same query for spans except those of one operator: no id differs from NULL
abbrev pub others_params : List ℕ → SpanFilter → ℤ → Row
others_params operator reach low =
    Int reach.last ∷ Int reach.first ∷ Int reach.upper ∷ Int reach.lower ∷ Int reach.stop ∷ Int reach.start
    ∷ Int (pos reach.priority) ∷ Text operator ∷ Null ∷ Int low ∷ []

-- the parameters of the query of spans of one plan
abbrev pub plan_params : List ℕ → List ℕ → SpanFilter → Row
plan_params operator id reach =
    Int reach.last ∷ Int reach.first ∷ Int reach.upper ∷ Int reach.lower ∷ Int reach.stop ∷ Int reach.start
    ∷ Int (pos reach.priority) ∷ Text operator ∷ Text id ∷ []

-- the values of a query's parameters, in their order
abbrev pub params_of : Query → Row
params_of (PlanOf operator id) = Text operator.now ∷ Text id.now ∷ []
params_of (VolumesOf operator id) = Text operator.now ∷ Text id.now ∷ []
params_of (OwnPlans operator) = Text operator.now ∷ []
params_of (RivalSpans operator id reach low) = rival_params operator.now id.now reach low
params_of (OtherSpans operator reach low) = others_params operator.now reach low
params_of (SpansOf operator id reach) = plan_params operator.now id.now reach

-- the columns by which a query's rows are ordered, counted from 0
abbrev pub order_of : Query → List ℕ
order_of (PlanOf operator id) = []
order_of (VolumesOf operator id) = 2 ∷ []
order_of (OwnPlans operator) = 1 ∷ 5 ∷ []
order_of (RivalSpans operator id reach low) = 0 ∷ []
order_of (OtherSpans operator reach low) = 0 ∷ []
order_of (SpansOf operator id reach) = []

-- the rows of a query
abbrev pub rows_of : Query → Tables → List Row
rows_of (PlanOf operator id) t = filter (is_of operator.now id.now) t.plans
rows_of (VolumesOf operator id) t = filter (is_of operator.now id.now) t.volumes
rows_of (OwnPlans operator) t = with_volumes (is_row_by operator.now) t
rows_of (RivalSpans operator id reach low) t =
    map columns_from_first (filter (is_rival_from operator.now id.now reach low) t.spans)
rows_of (OtherSpans operator reach low) t =
    map columns_from_first (filter (is_others_from operator.now reach low) t.spans)
rows_of (SpansOf operator id reach) t =
    map columns_from_first (filter (is_plan_span operator.now id.now reach) t.spans)

-- ==== Rows that are handed over one at a time
-- if a visitor has taken some list of rows before, it has taken some list after, whatever the disk returned
abbrev pub TakesOn : (List Row → Type 0) → (List Row → Type 0) → Type 0
TakesOn had has = ((rows : List Row) × had rows) → (rows : List Row) × has rows

module _ {S : Type 0} (g : Ghosts S) (old new : Held S) where
  -- nothing was changed, or the transaction that was under way was rolled back
  abbrev pub IsLeft : Type 0
  IsLeft = IsUnchanged (state g old) (state g new) ⊎ IsRolledBack (state g old) (state g new)

  -- handing over rows: what holds of a success (`Gives`) and an error (`Refuses`); what was committed stays
  pub record IsHanded {V : Type 0} (result : Result V Error) (Gives : V → Type 0)
      (Refuses : Error → Type 0) : Type 0
    where
      pub handed : HasCleanDisk (state g new) → IfOk result Gives
      pub left : HasCleanDisk (state g new) → IsLeft
      pub cause : HasCleanDisk (state g new) → IfErr result Refuses
      pub mode : old.in_transaction ≡ false → new.in_transaction ≡ false
      pub remembered : Remembers g old new

  -- true: one more row of the answer was handed over; false: those so far, `given`, are the whole answer.
  -- `had` and `has` say which rows the visitor had taken before and has taken after
  abbrev pub HandsOver : (List Row → Type 0) → (List Row → Type 0) → Bool → Type 0
  HandsOver had has true =
      (sql : List ℕ) (params : Row) (given : List Row) → HasGiven g sql params old given → had given
      → (row : Row) × HasGiven g sql params new (given ++ row ∷ []) × has (given ++ row ∷ [])
  HandsOver had has false =
      (sql : List ℕ) (params : Row) (given : List Row) → HasGiven g sql params old given → had given
      → Shown sql params (state g old) (state g new) given × has given

  -- the answer whose first rows `given` were handed over before is now handed over as a whole
  abbrev pub HandsAll : (List Row → Type 0) → (List Row → Type 0) → Type 0
  HandsAll had has =
      (sql : List ℕ) (params : Row) (given : List Row) → IsPlain (understood old.schema sql)
      → HasGiven g sql params old given → had given
      → (all : List Row) × Shown sql params (state g old) (state g new) all × has all

-- ---- why not all rows are handed over
-- whether a visitor, after the rows that it has taken, may refuse a row with an error
abbrev pub Refusing : Type 1
Refusing = List Row → Row → Error → Type 0

-- the error is that of a visitor that has taken the first rows of an answer and refuses the next
abbrev pub IsRowRefused : (List Row → Type 0) → Refusing → Error → Type 0
IsRowRefused IsAnswer refuses e =
    (taken : List Row) × (row : Row) × (left : List Row) × IsAnswer (taken ++ row ∷ left)
    × refuses taken row e

-- the error is `TooBig`, and an answer has 2 ^ 64 - 1 rows or more
abbrev pub HasTooMany : (List Row → Type 0) → Error → Type 0
HasTooMany IsAnswer e =
    (e ≡ SqliteFailure code.TooBig) × (rows : List Row) × IsAnswer rows × (2 ^ 64 - 1 ≤ length rows)

module _ {S : Type 0} (g : Ghosts S) (old new : Held S) where
  -- the query fails, or the next row of its answer is refused
  abbrev pub FailsNext : (Row → Error → Type 0) → Error → Type 0
  FailsNext refuses e = FailsToAdvance g old new e
      ⊎ ((row : Row) × refuses row e × IsUnchanged (state g old) (state g new)
      × ((sql : List ℕ) (params : Row) (given : List Row) → HasGiven g sql params old given
      → HasGiven g sql params new (given ++ row ∷ [])))

  -- a query that had changed nothing so far fails
  pub record FailsLater (sql : List ℕ) (params : Row) (e : Error) : Type 0 where
    pub now : Held S
    pub clean : HasCleanDisk (state g now)
    pub same : IsUnchanged (state g old) (state g now)
    pub faults : (state g old).faults ≤ (state g now).faults
    pub limit : now.step_limit ≡ old.step_limit
    pub fails : FailsToQuery sql params (state g now) (state g new) e

  -- the query fails, a row is refused after those before it, or 2 ^ 64 - 1 more rows were handed over
  abbrev pub FailsToHand : List ℕ → Row → Refusing → Error → Type 0
  FailsToHand sql params refuses e = FailsLater sql params e
      ⊎ (IsUnchanged (state g old) (state g new)
      × (((taken : List Row) × (row : Row) × HasGiven g sql params new (taken ++ row ∷ [])
      × refuses taken row e)
      ⊎ ((e ≡ SqliteFailure code.TooBig) × (all : List Row) × HasGiven g sql params new all
      × (2 ^ 64 - 1 ≤ length all))))

  -- the same of each query that has given rows which the visitor had taken
  abbrev pub FailsToHandAll : (List Row → Type 0) → Refusing → Error → Type 0
  FailsToHandAll had refuses e =
      (sql : List ℕ) (params : Row) (given : List Row) → HasGiven g sql params old given → had given
      → FailsToHand sql params refuses e

  -- memory, disk or a step limit refuses the query, or the visitor refuses a row, or there are too many rows
  abbrev pub IsTakenInPart : (List Row → Type 0) → Refusing → Error → Type 0
  IsTakenInPart IsAnswer refuses e =
      IsRefusal g old new e ⊎ (IsRowRefused IsAnswer refuses e ⊎ HasTooMany IsAnswer e)

-- ==== The results of queries and of changes
-- `old` is the connection before the call, `new` after it.

-- a call that succeeds, over a clean disk, found its connection open
abbrev pub WasOpen : {S V E : Type 0} → Ghosts S → Held S → Held S → Result V E → Type 0
WasOpen g old new result = HasCleanDisk (state g new) → OnOk result (IsTrue (state g old).is_open)

module _ {S : Type 0} (g : Ghosts S) (old new : Held S) {V : Type 0} (result : Result V Error) where
  -- if the connection is open after an error, the error is that of memory, the disk or a limit on steps
  abbrev pub HasRefusal : Type 0
  HasRefusal = HasCleanDisk (state g new) → IsTrue (state g new).is_open → IfErr result (IsRefusal g old new)

  -- a call that fails commits nothing
  abbrev pub IsUndone : Type 0
  IsUndone = HasCleanDisk (state g new) → OnErr result (KeepsCommit (state g old) (state g new))

  -- a query: its value is as `Gives` says of the rows that the connection showed, its errors are as `Refuses`
  -- says, and nothing is changed
  pub record Asks (Gives : Trees → V → Type 0) (Refuses : Error → Type 0) : Type 0 where
    pub value : HasCleanDisk (state g new) → IfOk result (Gives (state g old).now.trees)
    pub cause : HasCleanDisk (state g new) → IsTrue (state g new).is_open → IfErr result Refuses
    pub reads : OnlyReads g old new

  -- a query that only memory, the disk and a limit on steps refuse
  abbrev pub Answers : (Trees → V → Type 0) → Type 0
  Answers Gives = Asks Gives (IsRefusal g old new)

  -- a query hands over its rows one at a time: `IsAnswer` holds of the rows that the visitor `has` taken
  abbrev pub HandsOut : (Trees → List Row → Type 0) → (List Row → Type 0) → Refusing → Type 0
  HandsOut IsAnswer has refuses = Asks (λ db _. (rows : List Row) × IsAnswer db rows × has rows)
      (IsTakenInPart g old new (IsAnswer (state g old).now.trees) refuses)

  -- a change within a transaction, which goes on: how it changes the tables, what has to fit so that only
  -- memory, the disk and a limit on steps refuse it, and which rowids it uses
  pub record IsChanged (Changes : Tables → Tables → Type 0) (Fits : Database → Type 0)
      (Takes : Trees → Trees → Type 0) : Type 0
    where
      pub done : HasCleanDisk (state g new) → OnOk result (Makes g old new Changes)
      pub undone : HasCleanDisk (state g new) → OnErr result (KeepsCommit (state g old) (state g new))
      pub cause : IsUnderWay g old → Fits (state g old).now → HasCleanDisk (state g new)
          → IfErr result (IsRefusal g old new)
      pub room : HasCleanDisk (state g new)
          → OnOk result (Takes (state g old).now.trees (state g new).now.trees)
      pub remembered : Remembers g old new

  -- a step within a transaction, which goes on. `Done` holds after a success. If `Fits` holds and the
  -- connection is open, only memory, the disk and a limit on steps refuse it
  pub record IsRunWithin (Done Fits : Type 0) : Type 0 where
    pub done : HasCleanDisk (state g new) → OnOk result Done
    pub undone : HasCleanDisk (state g new) → OnErr result (KeepsCommit (state g old) (state g new))
    pub cause : Fits → HasCleanDisk (state g new) → IsTrue (state g old).is_open
        → IfErr result (IsRefusal g old new)
    pub remembered : Remembers g old new

  -- a change as a transaction of its own, made as a whole or not at all. If `Fits` holds, only memory, the
  -- disk and a limit on steps refuse it
  pub record IsCommitted (Changes : Tables → Tables → Type 0) (Fits : Database → Type 0) : Type 0 where
    pub done : HasCleanDisk (state g new) → OnOk result (Commits g old new Changes)
    pub kept : OnErr result (StaysShown g old new)
    pub cause : Fits (state g old).now → HasCleanDisk (state g new) → IsTrue (state g new).is_open
        → IfErr result (IsRefusal g old new)
    pub over : IsOver g old new
    pub crash : MayMake g old new Changes

-- a query that returns all rows of the table, ordered by its key, whether the file is packed or not
abbrev pub ShowsWhole : WholeTable → List ℕ → Type 0
ShowsWhole whole text = (packed : Bool) → SelectsAll (table_in whole packed) text
    (key_cells (table_read whole)) (λ db. rows_read whole (tables_in packed db))
