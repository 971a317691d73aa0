-- From rowids that rise to tables whose rows are numbered.
use Rattle.std.proofs.Common.{Ok, Err, Result, IfErr, OnErr, inl, inr, IsSorted, Ordering, is_lt, add-one, arith, ◌≡◌, ℤ, Bool, true, false, cond, Option, None, Some, List, [], ◌∷◌, ◌++◌, ◌&&◌, append-nil, append_assoc, map, refl, sym, ap, subst, ◌∙◌, Less, Equal, Greater, int_lt, true≢false, IsTrue, IsPermutation, ℕ, codes, if◌then◌else◌, ◌≤◌, suc}
use Rattle.std.specs.Prelude.{⊤, IsSome}
use Rattle.std.specs.Ordering.{ordering_then, ordering_reverse, is_eq}
use Rattle.std.specs.List.{AllByRecursion, IsDistinct, flat_map, list_all}
use Rattle.std.proofs.lemmas.List.Sorted.{IsPermutation-sym}
use Rattle.std.proofs.lemmas.Result.{on_err_weaker}
use Rattle.std.proofs.lemmas.Map.Keys.{IsDistinct-IsPermutation}
use Rattle.sqlite.specs.Order.{Row, value_cmp}
use Rattle.sqlite.specs.declared.types.Value.{Value}
use Rattle.sqlite.specs.declared.types.Value.TheVariants.{Null, Int, Real, Text, Blob}
use Rattle.sqlite.specs.Tree.{rowid, Trees, IsAscending, IsTable}
use Rattle.sqlite.specs.View.{is_int}
use Rattle.sqlite.specs.Term.{col, eval_all, holds}
use Rattle.sqlite.specs.Program.{overlay}
use Rattle.sqlite.specs.State.{HasCleanDisk, Shown}
use Rattle.sqlite.specs.Store.{Ghosts}
use Rattle.sqlite.specs.Held.{Held, state}
use Rattle.sqlite.specs.Effect.{Database}
use Rattle.sqlite_trees.proofs.ListLemmas.{all-permutation}
use Rattle.sqlite_keyed.proofs.ListLemmas.{all_weaker, all_map, all_unmap, ascending-map, ascending_weaker, ascending_from_map}
use Rattle.sqlite_value.proofs.OrderLemmas.{value_cmp_total, value_cmp-Int}
use Rattle.sqlite.specs.declared.error.Error.{Error}
use Rattle.sqlite.specs.declared.error.Error.TheVariants.{SqliteFailure}
use Rattle.sqlite.specs.declared.error.ErrorCode.TheVariants.{DatabaseCorrupt}
use Rattle.sqlite.specs.Table.{Table}
use Rattle.sqlite_schema.specs.declared.schema.Index.{Index}
use Rattle.sqlite_schema.specs.declared.schema.View.{View}
use Rattle.desk_sql.specs.Schema.{schema_to, tree_of, HasTable}
use Rattle.desk_sql.specs.Rows.{AreNumbered, Lists, by_cells}
use Rattle.desk_sql.specs.Statements.{IsRefusal, IsUnnumbered, AreRowsUnread, IsMisnumbered, IsSure, SelectsAll, rowids}
use Rattle.desk_sql.specs.Effects.{StaysShown, OnlyReads, Holds, RiseSo, next_above, is_above_last, rises, rises_after}
use Rattle.desk_sql.specs.declared.opening.numbers.DeskTable.{DeskTable}
use Rattle.desk_sql.specs.declared.opening.numbers.DeskTable.TheVariants.{Operator, Plan, OldVolume, OldSpan, Volume, Span}
use Rattle.desk_sql.proofs.lemmas.Texts.{operator_rowids_text, plan_rowids_text, old_volume_rowids_text, old_span_rowids_text, volume_rowids_text, span_rowids_text}
use Rattle.desk_sql.proofs.lemmas.QueryTexts.{IsWhole, rowids_query, operator_rowids_is, plan_rowids_is, old_volume_rowids_is, old_span_rowids_is, volume_rowids_is, span_rowids_is}
use Rattle.desk_sql.proofs.SureTexts.{operator_rowids_sure, plan_rowids_sure, old_volume_rowids_sure, old_span_rowids_sure, volume_rowids_sure, span_rowids_sure}
use Rattle.desk_sql.proofs.lemmas.Read.{scanned}
use Rattle.desk_sql.proofs.AskLemmas.{all_selected}
use Rattle.desk_sql.proofs.lemmas.Number.{IsApart, reversed}
use Rattle.desk_sql.proofs.StatementLemmas.{both_hold, every, selects_all}

-- the rowids are whole numbers, each above those before
pub record AreRising (rows : List Row) : Type 0 where
  pub whole : AllByRecursion (λ r. is_int (rowid r) ≡ true) rows
  pub rising : IsTable rows

-- ---- the walk along the rows

abbrev IsAbove : Option ℤ → Row → Type 0
IsAbove None r = ⊤
IsAbove (Some last) r = value_cmp (Int last) (rowid r) ≡ Less

less_if : (m n : ℤ) → int_lt m n ≡ true → value_cmp (Int m) (Int n) ≡ Less
less_if m n lt = value_cmp-Int m n ∙ ap (λ b. cond b Less (cond (int_lt n m) Greater Equal)) lt

lt_if : (m n : ℤ) → value_cmp (Int m) (Int n) ≡ Less → int_lt m n ≡ true
lt_if m n less = go (int_lt m n) (int_lt n m) (sym (value_cmp-Int m n) ∙ less)
  where
    go : (a b : Bool) → cond a Less (cond b Greater Equal) ≡ Less → a ≡ true
    go true b h = refl
    go false true h = cc
    go false false h = cc

abbrev Rises : Option ℤ → List Row → Type 0
Rises last rows = AreRising rows × AllByRecursion (IsAbove last) rows

none_above : (rows : List Row) → AllByRecursion (IsAbove None) rows
none_above [] = tt
none_above (r ∷ rows) = (tt, none_above rows)

module _ (r : Row) (rows : List Row) where
  above_all : (last : Option ℤ) (n : ℤ) → rowid r ≡ Int n → is_above_last last n ≡ true
      → AllByRecursion (IsAbove (Some n)) rows → AllByRecursion (IsAbove last) (r ∷ rows)
  above_all None n is up more = (tt, none_above rows)
  above_all (Some m) n is up more =
      let less = less_if m n up in (
        subst (λ v. value_cmp (Int m) v ≡ Less) (sym is) less,
        all_weaker (IsAbove (Some n)) (IsAbove (Some m))
            (λ x h. value_cmp_total.trans (Int m) (Int n) (rowid x) less h) rows more,
      )

  module _ (last : Option ℤ) (later : (n : ℤ) → rises rows (Some n) ≡ true → Rises (Some n) rows) where
    if_above : (n : ℤ) → rowid r ≡ Int n → (b : Bool) → is_above_last last n ≡ b
        → rises_after (rises rows) (if b then Some n else None) ≡ true → Rises last (r ∷ rows)
    if_above n is false up h = absurd (true≢false (sym h))
    if_above n is true up h =
        let more = later n h in
        let first = subst (λ v. AllByRecursion (λ b. value_cmp v (rowid b) ≡ Less) rows) (sym is) more.1
        in (
          record { whole = (ap is_int is, more.0.whole); rising = (first, more.0.rising) },
          above_all last n is
              up more.1,
        )

    if_rises : (v : Value) → rowid r ≡ v → rises_after (rises rows) (next_above last v) ≡ true
        → Rises last (r ∷ rows)
    if_rises Null is h = absurd (true≢false (sym h))
    if_rises (Int n) is h = if_above n is (is_above_last last n) refl h
    if_rises (Real x) is h = absurd (true≢false (sym h))
    if_rises (Text t) is h = absurd (true≢false (sym h))
    if_rises (Blob b) is h = absurd (true≢false (sym h))

  exceeds_if : (last : Option ℤ) (n : ℤ) → rowid r ≡ Int n → IsAbove last r → is_above_last last n ≡ true
  exceeds_if None n is up = refl
  exceeds_if (Some m) n is up = lt_if m n (subst (λ v. value_cmp (Int m) v ≡ Less) is up)

  then_rises : (last : Option ℤ) → ((n : ℤ) → AllByRecursion (IsAbove (Some n)) rows
      → rises rows (Some n)
      ≡ true) → (v : Value) → rowid r ≡ v → is_int v ≡ true
      → IsAbove last r → AllByRecursion (λ b. value_cmp (rowid r) (rowid b) ≡ Less) rows
      → rises_after (rises rows) (next_above last v) ≡ true
  then_rises last later Null is int up more = absurd (true≢false (sym int))
  then_rises last later (Int n) is int up more =
      ap (λ b. rises_after (rises rows) (if b then Some n else None)) (exceeds_if last n is up)
      ∙ later n (subst (λ v. AllByRecursion (λ b. value_cmp v (rowid b) ≡ Less) rows) is more)
  then_rises last later (Real x) is int up more = absurd (true≢false (sym int))
  then_rises last later (Text t) is int up more = absurd (true≢false (sym int))
  then_rises last later (Blob b) is int up more = absurd (true≢false (sym int))

are_rising : (rows : List Row) (last : Option ℤ) → rises rows last ≡ true → Rises last rows
are_rising [] last h = (record { whole = tt; rising = tt }, tt)
are_rising (r ∷ rows) last h = if_rises r rows last (λ n. are_rising rows (Some n)) (rowid r) refl h

do_rise : (rows : List Row) (last : Option ℤ) → AreRising rows → AllByRecursion (IsAbove last) rows
    → rises rows last ≡ true
do_rise [] last up above = refl
do_rise (r ∷ rows) last up above =
    then_rises r rows last (λ n. do_rise rows (Some n)
    (record { whole = up.whole.1; rising = up.rising.1 }))
    (rowid r) refl up.whole.0 above.0 up.rising.0

pub rising_just_if : (rows : List Row) (b : Bool) → rises rows None ≡ b → (IsTrue b → AreRising rows)
    × (AreRising rows → IsTrue b)
rising_just_if rows b is = (
  λ yes. (are_rising rows None (is ∙ yes)).0,
  λ up. sym is
      ∙ do_rise rows None up (none_above rows),
)

-- all rows were taken
pub all_risen : (rows : List Row) (still : Bool) (last : Option ℤ) → RiseSo still last rows
    → (IsTrue still → AreRising rows) × (AreRising rows → IsTrue still)
all_risen rows still last so = rising_just_if rows still
    (ap (λ xs. rises xs None) (sym (append-nil rows)) ∙ so [] ∙ both_hold still)

-- one more is taken
pub one_taken : (rows : List Row) (row : Row) (old new : Bool) (last now : Option ℤ) → RiseSo old last rows
    → ((rest : List Row) → (new && rises rest now) ≡ (old && rises (row ∷ rest) last))
    → RiseSo new now (rows ++ row ∷ [])
one_taken rows row old new last now so is rest =
    ap (λ xs. rises xs None) (append_assoc rows (row ∷ []) rest) ∙ so (row ∷ rest) ∙ sym (is rest)

-- ---- an answer with the rowids of a table

abbrev pub is_same_id : Row → Row → Bool
is_same_id a b = is_eq (value_cmp (rowid a) (rowid b))

pub flips : (a b : Row) → is_same_id a b ≡ is_same_id b a
flips a b = ap is_eq (value_cmp_total.antisymm (rowid a) (rowid b))
    ∙ reversed (value_cmp (rowid b) (rowid a))

pub to_distinct : (rows : List Row) → IsAscending IsApart rows → IsDistinct is_same_id rows
unfolding IsDistinct
to_distinct [] up = tt
to_distinct (r ∷ rows) up = (up.0, to_distinct rows up.1)

pub from_distinct : (rows : List Row) → IsDistinct is_same_id rows → IsAscending IsApart rows
unfolding IsDistinct
from_distinct [] apart = tt
from_distinct (r ∷ rows) apart = (apart.0, from_distinct rows apart.1)

numbered_by : (rows shown : List Row) → IsPermutation (map (λ r. rowid r ∷ []) rows) shown
    → AreRising shown
    → AreNumbered rows
numbered_by rows shown same up =
    let cells = map (λ (r : Row). rowid r ∷ []) rows in
    let back = IsPermutation-sym cells shown same in
    let apart = ascending_weaker (λ a b. value_cmp (rowid a) (rowid b) ≡ Less) IsApart
    (λ a b h. ap is_eq h)
    shown up.rising in
    record {
      whole = all_unmap (λ r. is_int (rowid r) ≡ true) (λ (r : Row). rowid r ∷ []) rows
          (all-permutation (λ r. is_int (rowid r) ≡ true) shown cells back up.whole);
      distinct = ascending_from_map IsApart (λ (r : Row). rowid r ∷ []) rows
          (from_distinct cells (IsDistinct-IsPermutation is_same_id flips shown cells back
          (to_distinct shown apart)));
    }

-- the query of the rowids of the table in a tree
pub rowids_selected : (table : DeskTable) (text : List ℕ) (tree : ℕ)
    → IsWhole table text (rowids_query tree) (codes "rowid" ∷ [])
    → ((others : List Table) (indexes : List Index) (views : List View)
    → IsSure (schema_to table others indexes views) text)
    → ((db : Trees) → overlay db [] tree ≡ db tree)
    → SelectsAll table text (0 ∷ []) (λ db. rowids (db tree))
rowids_selected table text tree is sure alone =
    selects_all text _ _ _ _ _ table is sure (0 ∷ []) _ (λ e. refl) (λ x y. refl)
    (λ db. subst (λ rows. map (eval_all (col 1 0 ∷ []))
    (flat_map (λ r. cond (list_all (holds ([] ∷ r ∷ [])) []) (([] ∷ r ∷ []) ∷ []) []) rows)
    ≡ rowids (db tree)) (sym (alone db))
    (scanned (λ r. [] ∷ r ∷ []) [] (col 1 0 ∷ []) (λ r. rowid r ∷ []) (λ r. true) (λ r. refl)
    (λ r. refl) (db tree) ∙ every (rowids (db tree))))

pub operator_rowids_selected : SelectsAll Operator operator_rowids_text (0 ∷ []) (λ db. rowids (db 0))
operator_rowids_selected = rowids_selected _ _ 0 operator_rowids_is operator_rowids_sure (λ db. refl)

pub plan_rowids_selected : SelectsAll Plan plan_rowids_text (0 ∷ []) (λ db. rowids (db 2))
plan_rowids_selected = rowids_selected _ _ 2 plan_rowids_is plan_rowids_sure (λ db. refl)

pub old_volume_rowids_selected : SelectsAll OldVolume old_volume_rowids_text (0 ∷ []) (λ db. rowids (db 4))
old_volume_rowids_selected =
    rowids_selected _ _ 4 old_volume_rowids_is old_volume_rowids_sure (λ db. refl)

pub old_span_rowids_selected : SelectsAll OldSpan old_span_rowids_text (0 ∷ []) (λ db. rowids (db 6))
old_span_rowids_selected = rowids_selected _ _ 6 old_span_rowids_is old_span_rowids_sure (λ db. refl)

pub volume_rowids_selected : SelectsAll Volume volume_rowids_text (0 ∷ []) (λ db. rowids (db 9))
volume_rowids_selected = rowids_selected _ _ 9 volume_rowids_is volume_rowids_sure (λ db. refl)

pub span_rowids_selected : SelectsAll Span span_rowids_text (0 ∷ []) (λ db. rowids (db 11))
span_rowids_selected = rowids_selected _ _ 11 span_rowids_is span_rowids_sure (λ db. refl)

module _ {S : Type 0} (g : Ghosts S) (old new : Held S) (text : List ℕ) (table : DeskTable)
    (selects : SelectsAll table text (0 ∷ []) (λ db. rowids (db (tree_of table)))) where
  pub numbered_if : Holds g old (HasTable table) → (HasCleanDisk (state g new)
      → HasCleanDisk (state g old))
      → StaysShown g old new → (rows : List Row)
      → (HasCleanDisk (state g new) → Shown text [] (state g old) (state g new) rows) → AreRising rows
      → Holds g new (λ (db : Database). AreNumbered (db.trees (tree_of table)))
  numbered_if known was kept rows shown up clean live =
      let before = kept clean live in
      let all = all_selected table text _ _ selects (state g old) (state g new) rows
      (known (was clean) before.was_open) (shown clean) in
      subst (λ (db : Database). AreNumbered (db.trees (tree_of table))) (sym before.now)
      (numbered_by ((state g old).now.trees (tree_of table)) rows all.same up)

  pub numbered_handed : Holds g old (HasTable table) → OnlyReads g old new → (still : Bool) (last : Option ℤ)
      → (HasCleanDisk (state g new) → (rows : List Row)
      × Shown text [] (state g old) (state g new) rows × RiseSo still last rows) → still ≡ true
      → Holds g new (λ (db : Database). AreNumbered (db.trees (tree_of table)))
  numbered_handed known reads still last handed up clean live =
      let (rows, shown, so) = handed clean in
      numbered_if known (λ c. omega (arith, reads.doubt, c)) reads.kept rows (λ c. shown)
      ((all_risen rows still last so).0 up) clean live

-- ---- rows that are numbered show rowids that rise

then_is : (o : Ordering) → is_lt (ordering_then o Equal) ≡ is_lt o
then_is Less = refl
then_is Equal = refl
then_is Greater = refl

less_than : (o : Ordering) → is_lt (ordering_reverse o) ≡ false → is_eq o ≡ false → o ≡ Less
less_than Less up apart = refl
less_than Equal up apart = absurd (true≢false apart)
less_than Greater up apart = absurd (true≢false up)

below_rest : (r : Row) (rows : List Row) → IsSorted (by_cells (0 ∷ [])) (r ∷ rows)
    → AllByRecursion (IsApart r) rows → IsTable rows
    → AllByRecursion (λ b. value_cmp (rowid r) (rowid b) ≡ Less) rows
below_rest r [] sorted apart up = tt
below_rest r (x ∷ rows) sorted apart up =
    let above : is_lt (value_cmp (rowid x) (rowid r)) ≡ false =
    sym (then_is (value_cmp (rowid x) (rowid r)))
    ∙ sorted 0 r (omega arith) (omega arith) in
    let first = less_than (value_cmp (rowid r) (rowid x))
    (ap is_lt (sym (value_cmp_total.antisymm (rowid x) (rowid r))) ∙ above) apart.0 in (
      first,
      all_weaker (λ b. value_cmp (rowid x) (rowid b) ≡ Less) (λ b. value_cmp (rowid r) (rowid b) ≡ Less)
          (λ b h. value_cmp_total.trans (rowid r) (rowid x) (rowid b) first h) rows up.0,
    )

sorted_table : (rows : List Row) → IsSorted (by_cells (0 ∷ [])) rows → IsAscending IsApart rows
    → IsTable rows
sorted_table [] sorted apart = tt
sorted_table (r ∷ rows) sorted apart =
    let tail : IsSorted (by_cells (0 ∷ [])) rows =
    λ k d p q. rw add-one (rw add-one at (sorted (suc k) d (omega arith) (omega arith))) in
    let up = sorted_table rows tail apart.1 in
    (below_rest r rows sorted apart.0 up, up)

rising_by : (rows shown : List Row) → Lists (0 ∷ []) (map (λ r. rowid r ∷ []) rows) shown
    → AreNumbered rows
    → AreRising shown
rising_by rows shown lists num =
    let cells = map (λ (r : Row). rowid r ∷ []) rows in
    let apart = ascending-map IsApart (λ (r : Row). rowid r ∷ []) rows num.distinct in
    record {
      whole = all-permutation (λ r. is_int (rowid r) ≡ true) cells shown lists.same
          (all_map (λ r. is_int (rowid r) ≡ true) (λ (r : Row). rowid r ∷ []) rows num.whole);
      rising = sorted_table shown lists.sorted (from_distinct shown
          (IsDistinct-IsPermutation is_same_id flips cells shown lists.same (to_distinct cells apart)));
    }

module _ {S : Type 0} (g : Ghosts S) (old new : Held S) (text : List ℕ) (table : DeskTable)
    (selects : SelectsAll table text (0 ∷ []) (λ db. rowids (db (tree_of table)))) where
  rises_if : (rows : List Row) → HasTable table (state g old).now
      → AreNumbered ((state g old).now.trees (tree_of table))
      → Shown text [] (state g old) (state g new) rows → AreRising rows
  rises_if rows has num shown =
      rising_by ((state g old).now.trees (tree_of table)) rows
      (all_selected table text _ _ selects (state g old) (state g new) rows has shown) num

  -- why a table is not found to be numbered
  pub unnumbered_if : {V : Type 0} → Holds g old (HasTable table) → HasCleanDisk (state g old)
      → IsTrue (state g old).is_open → (rows : List Row)
      → Shown text [] (state g old) (state g new) rows → (r : Result V Error)
      → OnErr r (¬ AreRising rows)
      → IfErr r (λ e. e ≡ SqliteFailure DatabaseCorrupt) → IfErr r (IsUnnumbered g old new table)
  unnumbered_if known clean live rows shown (Ok v) broken reported = tt
  unnumbered_if known clean live rows shown (Err e) broken reported =
      inr (reported, λ num. broken (rises_if rows (known clean live) num shown))

  pub unnumbered_handed : {V : Type 0} → Holds g old (HasTable table) → HasCleanDisk (state g old)
      → IsTrue (state g old).is_open → (still : Bool) (last : Option ℤ) → ((rows : List Row)
      × Shown text [] (state g old) (state g new) rows × RiseSo still last rows) → (r : Result V Error)
      → OnErr r (still ≡ false) → IfErr r (λ e. e ≡ SqliteFailure DatabaseCorrupt)
      → IfErr r (IsUnnumbered g old new table)
  unnumbered_handed known clean live still last (rows, shown, so) r broken reported =
      unnumbered_if known clean live rows shown r (on_err_weaker r
      (λ none up. true≢false (sym ((all_risen rows still last so).1 up) ∙ none)) broken) reported

module _ {S : Type 0} (g : Ghosts S) (old mid new : Held S)
    (fewer : (state g old).faults ≤ (state g mid).faults) (limit : mid.step_limit ≡ old.step_limit)
  where
    -- a cause that comes after a call is one since before that call
    pub refusal_on : (e : Error) → IsRefusal g mid new e → IsRefusal g old new e
    refusal_on e (inl h) = inl h
    refusal_on e (inr (inl h)) = inr (inl (omega (arith, h, fewer)))
    refusal_on e (inr (inr h)) = inr (inr (h.0, subst IsSome limit h.1))

    pub unread_on : {V : Type 0} → (state g mid).now ≡ (state g old).now → (r : Result V Error)
        → IfErr r (AreRowsUnread g mid new) → IfErr r (AreRowsUnread g old new)
    unread_on same (Ok v) why = tt
    unread_on same (Err e) (inl h) = inl (refusal_on e h)
    unread_on same (Err e) (inr h) = inr (h.0, subst IsMisnumbered same h.1)
