-- What each query shows.
use Rattle.std.proofs.Common.{◌≡◌, ℕ, ℤ, ◌<◌, ◌+◌, List, [], ◌∷◌, ◌++◌, length, map, filter, refl, sym, ap, subst, ◌∙◌, Result, Ok, Err, IfOk, Bool, ap₂, true, false, ◌&&◌, ◌||◌, cond, pos, All, arith, slice_index_or}
use Rattle.std.specs.Ordering.{is_lt}
use Rattle.std.specs.List.{flat_map, list_all}
use Rattle.std.specs.List.Sorted.{IsPermutation, IsSorted}
use Rattle.std.proofs.lemmas.List.Sorted.{All-permutation}
use Rattle.std.proofs.lemmas.List.{get_or-map, map-append, length-map}
use Rattle.sqlite.specs.Order.{Row, column}
use Rattle.sqlite.specs.declared.types.Value.TheVariants.{Text}
use Rattle.sqlite.specs.declared.error.Error.{Error}
use Rattle.sqlite.specs.Term.{Term, Env, eval_all, holds}
use Rattle.sqlite.specs.Query.{Join, Output, IsAnswer, output, key_cmp, matches}
use Rattle.sqlite.specs.Program.{overlay}
use Rattle.sqlite_value.specs.declared.keys.Key.{Key}
use Rattle.sqlite.specs.State.{HasCleanDisk, Shown}
use Rattle.sqlite.specs.Store.{Ghosts}
use Rattle.sqlite.specs.Held.{Held, state}
use Rattle.desk_sql.specs.Rows.{IsDesk, is_row_by, is_of, is_rival_from, differs, is_at_most, is_at_least, is_below, is_above, columns_from_first, is_same, joined, has_volume, with_volumes, by_cells, columns, tables_of, Lists, Tables}
use Rattle.desk_sql.specs.declared.reading.rivals.SpanFilter.{SpanFilter}
use Rattle.desk_sql.specs.declared.reading.query.Query.{Query}
use Rattle.desk_sql.specs.Queries.{params_of, order_of, rows_of, rival_params}
use Rattle.sqlite.specs.Schema.{Schema}
use Rattle.sqlite.specs.Table.{Table}
use Rattle.sqlite_schema.specs.declared.schema.Index.{Index}
use Rattle.sqlite_schema.specs.declared.schema.View.{View}
use Rattle.desk_sql.specs.declared.opening.numbers.DeskTable.{DeskTable}
use Rattle.desk_sql.specs.declared.opening.numbers.DeskTable.TheVariants.{Operator, Plan, Volume, Span}
use Rattle.desk_sql.specs.Schema.{beside_of, schema_to, HasTable}
use Rattle.desk_sql.specs.Effects.{Holds}
use Rattle.sqlite.specs.Effect.{Database}
use Rattle.sqlite.specs.Listing.{understood}
use Rattle.sqlite.specs.Tree.{Trees}
use Rattle.desk_sql.specs.Statements.{IsSure, IsSureFor, MayRead, Selects, SelectsAll}
use Rattle.desk_sql.proofs.Sure.{plan_of_sure, volumes_of_sure, own_plans_sure, rival_spans_sure}
use Rattle.desk_sql.proofs.SureTexts.{all_operators_sure, all_plans_sure, volume_rows_sure, all_spans_sure}
use Rattle.desk_sql.proofs.lemmas.Texts.{all_operators_text, plan_of_text, all_plans_text, volumes_of_text, volume_rows_text, all_spans_text, own_plans_text, rival_spans_text}
use Rattle.desk_sql.proofs.lemmas.QueryTexts.{IsQueryIn, IsQuery, IsWhole, query_of, all_operators_is, all_operators_query, plan_of_is, plan_of_query, all_plans_is, all_plans_query, volumes_of_is, volumes_of_query, volume_rows_is, volume_rows_query, all_spans_is, all_spans_query, own_plans_is, own_plans_query, rival_spans_is, rival_spans_query}
use Rattle.desk_sql.proofs.lemmas.Read.{was_open, answer_rows, may_answer, scanned, equals_text, equals, either_true, le_number, ge_number, lt_number, gt_number}

-- a value that a desk's rows have, whenever something is shown
module _ {S V : Type 0} (g : Ghosts S) (old new : Held S) (items : V → List Row) (text : List ℕ)
    (params : Row) (P : List Row → Type 0) where
  if_holds : (Is : Database → Type 0) → Holds g old Is → HasCleanDisk (state g old)
      → ((rows : List Row) → Is (state g old).now → Shown text params (state g old) (state g new) rows
      → P rows)
      → (r : Result V Error) → IfOk r (λ v. Shown text params (state g old) (state g new) (items v))
      → IfOk r (λ v. P (items v))
  if_holds Is holds clean gives (Ok v) shown =
      gives (items v) (holds clean (was_open text params _ _ _ shown)) shown
  if_holds Is holds clean gives (Err e) shown = tt

  pub if_shown : Holds g old IsDesk → HasCleanDisk (state g old)
      → ((rows : List Row) → IsDesk (state g old).now → Shown text params (state g old) (state g new) rows
      → P rows)
      → (r : Result V Error) → IfOk r (λ v. Shown text params (state g old) (state g new) (items v))
      → IfOk r (λ v. P (items v))
  if_shown = if_holds IsDesk

  pub if_read : (table : DeskTable) → Holds g old (HasTable table) → HasCleanDisk (state g old)
      → ((rows : List Row) → HasTable table (state g old).now
      → Shown text params (state g old) (state g new) rows → P rows)
      → (r : Result V Error) → IfOk r (λ v. Shown text params (state g old) (state g new) (items v))
      → IfOk r (λ v. P (items v))
  if_read table = if_holds (HasTable table)

pub both_hold : (a : Bool) → (a && true) ≡ a
both_hold true = refl
both_hold false = refl

pub every : (rows : List Row) → filter (λ r. true) rows ≡ rows
every [] = refl
every (r ∷ rows) = ap (λ xs. r ∷ xs) (every rows)

-- ---- sorted outputs show sorted rows

sorted_shown : (by : List Key) (cells : List ℕ) (xs : List Output)
    → ((x y : Row) → key_cmp 0 by (map (column x) cells) (map (column y) cells) ≡ by_cells cells x y)
    → All (λ (o : Output). o.0 ≡ map (column o.1) cells) xs
    → IsSorted (λ (o p : Output). key_cmp 0 by o.0 p.0) xs
    → IsSorted (by_cells cells) (map (λ (o : Output). o.1) xs)
sorted_shown by cells xs compares keys sorted k d low high =
    let more : k + 1 < length xs = omega (arith, high, length-map xs (λ (o : Output). o.1)) in
    let none : Output = ([], []) in
    let a = slice_index_or xs (k + 1) none in
    let b = slice_index_or xs k none in
    ap is_lt (
    ap₂ (by_cells cells) (get_or-map (λ (o : Output). o.1) xs (k + 1) none d more)
    (get_or-map (λ (o : Output). o.1) xs k none d (omega (arith, more)))
    ∙ sym (compares a.1 b.1) ∙ ap₂ (key_cmp 0 by) (sym (keys (k + 1) none more))
    (sym (keys k none (omega (arith, more))))
    ) ∙ sorted k none low more

module _ {schema : Schema} (text : List ℕ) (from : Join) (terms : List Term) (project : List Term)
    (order : List (Term × Key))
    (names : List (List ℕ)) (known : IsQueryIn schema text (query_of from terms project order) names)
    (params : Row) (cells : List ℕ) where
  -- a query that lists just these rows, in the order of these columns
  listed : (db : Database) (rows wanted : List Row)
      → IsAnswer (query_of from terms project order) (overlay db.trees []) params rows
      → ((e : Env) → eval_all (map (λ k. k.0) order) e ≡ map (column (eval_all project e)) cells)
      → ((x y : Row) → key_cmp 0 (map (λ k. k.1) order) (map (column x) cells) (map (column y) cells)
      ≡ by_cells cells x y)
      → map (eval_all project) (matches (overlay db.trees []) terms from (params ∷ [])) ≡ wanted
      → Lists cells wanted rows
  listed db rows wanted a keys compares are =
      let query = query_of from terms project order in
      let P = λ (o : Output). o.0 ≡ map (column o.1) cells in
      let each : All P (map (output query) a.staged) =
      λ i d low. subst P (sym (get_or-map (output query) a.staged i [] d
      (omega (arith, low, length-map a.staged (output query))))) (keys (slice_index_or a.staged i []))
      in
      let all : All P a.ordered = All-permutation P a.kept a.ordered a.same
      (subst (All P) (sym a.distinct) each) in
      record {
        same = subst (λ xs. IsPermutation xs rows) are
            (answer_rows text from terms project order names known params db rows a);
        sorted = subst (IsSorted (by_cells cells)) (sym a.shown)
            (sorted_shown (map (λ k. k.1) order) cells a.ordered compares all a.sorted);
      }

module _ (text : List ℕ) (from : Join) (terms : List Term) (project : List Term) (order : List (Term × Key))
    (names : List (List ℕ)) (known : IsQuery text (query_of from terms project order) names)
    (params : Row) (sure : IsSureFor text params) (cells : List ℕ)
    (wanted : Tables → List Row) where
  pub selects : ((e : Env) → eval_all (map (λ k. k.0) order) e ≡ map (column (eval_all project e)) cells)
      → ((x y : Row) → key_cmp 0 (map (λ k. k.1) order) (map (column x) cells) (map (column y) cells)
      ≡ by_cells cells x y)
      → ((db : Trees) → map (eval_all project) (matches (overlay db []) terms from (params ∷ []))
      ≡ wanted (tables_of db)) → Selects text params cells wanted
  selects keys compares are = record {
    sure = sure;
    rows = λ db rows desk h.
        let here = known (beside_of db.schema) in
        listed text from terms project order names here params cells db rows (wanted (tables_of db.trees))
        (may_answer text (query_of from terms project order) names here params db rows
        (subst (λ s. MayRead (understood s text) db params rows) desk.schema.is h)) keys compares
        (are db.trees);
  }

module _ (text : List ℕ) (from : Join) (terms : List Term) (project : List Term) (order : List (Term × Key))
    (names : List (List ℕ)) (table : DeskTable)
    (known : IsWhole table text (query_of from terms project order) names)
    (sure : (others : List Table) (indexes : List Index) (views : List View)
    → IsSure (schema_to table others indexes views) text)
    (cells : List ℕ) (wanted : Trees → List Row) where
  pub selects_all :
      ((e : Env) → eval_all (map (λ k. k.0) order) e ≡ map (column (eval_all project e)) cells)
      → ((x y : Row) → key_cmp 0 (map (λ k. k.1) order) (map (column x) cells) (map (column y) cells)
      ≡ by_cells cells x y)
      → ((db : Trees) → map (eval_all project) (matches (overlay db []) terms from ([] ∷ [])) ≡ wanted db)
      → SelectsAll table text cells wanted
  selects_all keys compares are = record {
    sure = λ db has. subst (λ s. IsSure s text) (sym has.schema)
        (sure has.others db.schema.indexes db.schema.views);
    rows = λ db rows has h.
        let here = known has.others db.schema.indexes db.schema.views in
        listed text from terms project order names here [] cells db rows (wanted db.trees)
        (may_answer text (query_of from terms project order) names here [] db rows
        (subst (λ s. MayRead (understood s text) db [] rows) has.schema h))
        keys compares (are db.trees);
  }

-- ---- joins

and_later : (a b c : Bool) → (a && (b && (c && true))) ≡ ((a && b) && c)
and_later true true true = refl
and_later true true false = refl
and_later true false c = refl
and_later false b c = refl

joined_first : {E : Type 0} (f : E → Row) (e : E) (j : Row → Row) (x : Row) → f e ≡ j x → (a b : Bool)
    → a
    ≡ (b && true) → (es : List E) (xs : List Row) → map f es ≡ map j xs
    → map f (cond a (e ∷ []) [] ++ es) ≡ map j (cond b (x ∷ xs) xs)
joined_first f e j x at true true same es xs more = ap₂ (λ y ys. y ∷ ys) at more
joined_first f e j x at false false same es xs more = more
joined_first f e j x at true false same es xs more = cc
joined_first f e j x at false true same es xs more = cc

none_first : {E : Type 0} (f : E → Row) (e : E) (a b : Bool) → a ≡ (b && false) → (es : List E)
    → map f es
    ≡ [] → map f (cond a (e ∷ []) [] ++ es) ≡ []
none_first f e false b same es more = more
none_first f e true true same es more = cc
none_first f e true false same es more = cc

module _ {E : Type 0} (f : E → Row) (env : Row → E) (test : Row → Bool) (show : Row → Row)
    (has : Row → Bool)
    (j : Row → Row) (at : (s : Row) → f (env s) ≡ j (show s)) where
  pub one_plan : (w : Bool) → ((s : Row) → test s ≡ (has (show s) && w)) → (ss : List Row)
      → map f (flat_map (λ s. cond (test s) (env s ∷ []) []) ss)
      ≡ cond w (map j (filter has (map show ss))) []
  one_plan true is [] = refl
  one_plan false is [] = refl
  one_plan true is (s ∷ ss) = joined_first f (env s) j (show s) (at s) (test s) (has (show s)) (is s) _
      _
      (one_plan true is ss)
  one_plan false is (s ∷ ss) = none_first f (env s) (test s) (has (show s)) (is s) _
      (one_plan false is ss)

wanted_first : (j : Row → List Row) (p : Row) (w : Bool) (ps : List Row) → cond w (j p) []
    ++ flat_map j ps
    ≡ flat_map j (cond w (p ∷ ps) ps)
wanted_first j p true ps = refl
wanted_first j p false ps = refl

joined_rows : (params : Row) (terms project : List Term) (wanted : Row → Bool)
    → ((p s : Row) → eval_all project (params ∷ p ∷ s ∷ []) ≡ joined (columns 5 p) (columns 8 s))
    → ((p s : Row) → list_all (holds (params ∷ p ∷ s ∷ [])) terms
    ≡ (has_volume (columns 5 p) (columns 8 s) && wanted (columns 5 p))) → (plans volumes : List Row)
    → map (eval_all project)
    (flat_map (λ p. flat_map (λ s. cond (list_all (holds (params ∷ p ∷ s ∷ [])) terms)
    ((params ∷ p ∷ s ∷ []) ∷ []) []) volumes) plans)
    ≡ flat_map (λ p. map (joined p) (filter (has_volume p) (map (columns 8) volumes)))
    (filter wanted (map (columns 5) plans))
joined_rows params terms project wanted shown passes [] volumes = refl
joined_rows params terms project wanted shown passes (p ∷ plans) volumes =
    let cut = columns 5 p in
    map-append (eval_all project) _ _
    ∙ ap₂ (λ a b. a ++ b)
    (one_plan (eval_all project) (λ s. params ∷ p ∷ s ∷ [])
    (λ s. list_all (holds (params ∷ p ∷ s ∷ [])) terms) (columns 8) (has_volume cut) (joined cut)
    (shown p) (wanted cut) (passes p) volumes)
    (joined_rows params terms project wanted shown passes plans volumes)
    ∙ wanted_first (λ q. map (joined q) (filter (has_volume q) (map (columns 8) volumes))) cut
    (wanted cut) _

own_test : (operator : List ℕ) (p s : Row) → list_all (holds ((Text operator ∷ []) ∷ p ∷ s ∷ []))
    own_plans_query.filter ≡ (has_volume (columns 5 p) (columns 8 s) && is_row_by operator (columns 5 p))
own_test operator p s =
    ap₂ (λ a b. a && b) (equals (column s 1) (column p 1))
    (ap₂ (λ a b. a && (b && true)) (equals (column s 2) (column p 2))
    (equals_text (column p 1) operator))
    ∙ and_later (is_same (column s 1) (column p 1)) (is_same (column s 2) (column p 2))
    (is_row_by operator (columns 5 p))

pub all_operators_selected : SelectsAll Operator all_operators_text (0 ∷ []) (λ db. (tables_of db).operators)
all_operators_selected =
    selects_all all_operators_text _ _ _ _ _ _ all_operators_is all_operators_sure (0 ∷ []) _
    (λ e. refl) (λ x y. refl)
    (λ db. scanned (λ r. [] ∷ r ∷ []) all_operators_query.filter all_operators_query.project (columns 2)
    (λ r. true) (λ r. refl) (λ r. refl) (db 0) ∙ every (map (columns 2) (db 0)))

pub plan_of_selected : (operator id : List ℕ)
    → Selects plan_of_text (Text operator ∷ Text id ∷ []) [] (λ t. filter (is_of operator id) t.plans)
plan_of_selected operator id =
    selects plan_of_text _ _ _ _ _ plan_of_is _ (plan_of_sure operator id) [] _ (λ e. refl) (λ x y. refl)
    (λ db. scanned (λ r. (Text operator ∷ Text id ∷ []) ∷ r ∷ []) plan_of_query.filter plan_of_query.project
    (columns 5) (is_of operator id) (λ r. refl)
    (λ r. ap₂ (λ a b. a && b) (equals_text (column r 1) operator)
    (both_hold _ ∙ equals_text (column r 2) id)) (db 2))

pub all_plans_selected : SelectsAll Plan all_plans_text (0 ∷ 1 ∷ []) (λ db. (tables_of db).plans)
all_plans_selected =
    selects_all all_plans_text _ _ _ _ _ _ all_plans_is all_plans_sure (0 ∷ 1 ∷ []) _
    (λ e. refl) (λ x y. refl)
    (λ db. scanned (λ r. [] ∷ r ∷ []) all_plans_query.filter all_plans_query.project (columns 5)
    (λ r. true) (λ r. refl) (λ r. refl) (db 2) ∙ every (map (columns 5) (db 2)))

pub volumes_of_selected : (operator id : List ℕ)
    → Selects volumes_of_text (Text operator ∷ Text id ∷ []) (2 ∷ [])
    (λ t. filter (is_of operator id) t.volumes)
volumes_of_selected operator id =
    selects volumes_of_text _ _ _ _ _ volumes_of_is _ (volumes_of_sure operator id) (2 ∷ []) _
    (λ e. refl) (λ x y. refl)
    (λ db. scanned (λ r. (Text operator ∷ Text id ∷ []) ∷ r ∷ []) volumes_of_query.filter
    volumes_of_query.project (columns 8) (is_of operator id) (λ r. refl)
    (λ r. ap₂ (λ a b. a && b) (equals_text (column r 1) operator)
    (both_hold _ ∙ equals_text (column r 2) id)) (db 9))

pub volume_rows_selected : SelectsAll Volume volume_rows_text (0 ∷ 1 ∷ 2 ∷ []) (λ db. map (columns 9) (db 9))
volume_rows_selected =
    selects_all volume_rows_text _ _ _ _ _ _ volume_rows_is volume_rows_sure (0 ∷ 1 ∷ 2 ∷ []) _
    (λ e. refl) (λ x y. refl)
    (λ db. scanned (λ r. [] ∷ r ∷ []) volume_rows_query.filter volume_rows_query.project (columns 9)
    (λ r. true) (λ r. refl) (λ r. refl) (db 9) ∙ every (map (columns 9) (db 9)))

pub all_spans_selected : SelectsAll Span all_spans_text (0 ∷ 1 ∷ 2 ∷ 3 ∷ []) (λ db. (tables_of db).spans)
all_spans_selected =
    selects_all all_spans_text _ _ _ _ _ _ all_spans_is all_spans_sure (0 ∷ 1 ∷ 2 ∷ 3 ∷ []) _
    (λ e. refl) (λ x y. refl)
    (λ db. scanned (λ r. [] ∷ r ∷ []) all_spans_query.filter all_spans_query.project (columns 10)
    (λ r. true) (λ r. refl) (λ r. refl) (db 11) ∙ every (map (columns 10) (db 11)))

pub own_plans_selected : (operator : List ℕ)
    → Selects own_plans_text (Text operator ∷ []) (1 ∷ 5 ∷ []) (with_volumes (is_row_by operator))
own_plans_selected operator =
    selects own_plans_text _ _ _ _ _ own_plans_is _ (own_plans_sure operator) (1 ∷ 5 ∷ []) _
    (λ e. refl) (λ x y. refl)
    (λ db. joined_rows (Text operator
    ∷ []) own_plans_query.filter own_plans_query.project (is_row_by operator)
    (λ p s. refl) (λ p s. own_test operator p s) (db 2) (db 9))

-- ---- the spans that may stand in the way of a plan

pub and_last : (a b c d e f g h : Bool) → (a && (b && (c && (d && (e && (f && (g && (h && true))))))))
    ≡ ((a && (b && (c && (d && (e && (f && g)))))) && h)
and_last true true true true true true true h = both_hold h
and_last true true true true true true false h = refl
and_last true true true true true false g h = refl
and_last true true true true false f g h = refl
and_last true true true false e f g h = refl
and_last true true false d e f g h = refl
and_last true false c d e f g h = refl
and_last false b c d e f g h = refl

rival_test : (operator id : List ℕ) (reach : SpanFilter) (low : ℤ) (s : Row)
    → list_all (holds (rival_params operator id reach low ∷ s ∷ [])) rival_spans_query.filter
    ≡ is_rival_from operator id reach low (columns 10 s)
rival_test operator id reach low s =
    (λ i. ge_number (column s 4) low i && (le_number (column s 4) reach.last i
    && (ge_number (column s 5) reach.first i
    && (lt_number (column s 6) reach.upper i && (gt_number (column s 7) reach.lower i
    && (lt_number (column s 8) reach.stop i && (gt_number (column s 9) reach.start i
    && (ge_number (column s 10) (pos reach.priority) i
    && (either_true (column s 1) (column s 2) operator id i && true)))))))))
    ∙ ap (λ b. is_at_least (column s 4) low && b)
    (and_last (is_at_most (column s 4) reach.last) (is_at_least (column s 5) reach.first)
    (is_below (column s 6) reach.upper) (is_above (column s 7) reach.lower)
    (is_below (column s 8) reach.stop) (is_above (column s 9) reach.start)
    (is_at_least (column s 10) (pos reach.priority))
    (differs (column s 1) (Text operator) || differs (column s 2) (Text id)))

pub rival_spans_selected : (operator id : List ℕ) (reach : SpanFilter) (low : ℤ)
    → Selects rival_spans_text (rival_params operator id reach low) (0 ∷ [])
    (λ t. map columns_from_first (filter (is_rival_from operator id reach low) t.spans))
rival_spans_selected operator id reach low =
    let params = rival_params operator id reach low in
    selects rival_spans_text _ _ _ _ _ rival_spans_is params (rival_spans_sure operator id reach low)
    (0 ∷ []) _
    (λ e. refl) (λ x y. refl)
    (λ db. one_plan (eval_all rival_spans_query.project) (λ s. params ∷ s ∷ [])
    (λ s. list_all (holds (params ∷ s ∷ [])) rival_spans_query.filter) (columns 10)
    (is_rival_from operator id reach low) columns_from_first (λ s. refl) true
    (λ s. rival_test operator id reach low s ∙ sym (both_hold _)) (db 11))

-- ---- the texts of the queries

-- the text of a query
abbrev pub IsTextOf : Query → List ℕ → Type 0
IsTextOf query text = Selects text (params_of query) (order_of query) (rows_of query)
