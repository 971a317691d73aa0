-- What the keys' actions take out with a plan.
use Rattle.std.proofs.Common.{◌≡◌, ◌≢◌, inl, inr, ℕ, zero, suc, ℤ, Bool, true, false, not, cond, List, [], ◌∷◌, ◌++◌, map, filter, find, unwrap_or, Ok, refl, sym, ap, ap₂, subst, ◌∙◌, ◌&&◌, ◌||◌, Some, true≢false, append-nil, IsPermutation, Ordering, Less, Equal, Greater, arith}
use Rattle.std.specs.Ordering.{is_eq}
use Rattle.std.specs.List.{AllByRecursion, list_any}
use Rattle.std.proofs.lemmas.List.Sorted.{list_any-IsPermutation}
use Rattle.std.proofs.lemmas.Cmp.{tied_itself}
use Rattle.std.proofs.lemmas.Bool.{and_parts}
use Rattle.sqlite_trees.proofs.ListLemmas.{all-map, all-permutation}
use Rattle.sqlite_value.proofs.OrderLemmas.{value_cmp-Null, value_cmp-apart, value_cmp_total}
use Rattle.sqlite.specs.Collation.TheVariants.{Binary}
use Rattle.sqlite.specs.declared.types.Value.{Value}
use Rattle.sqlite.specs.declared.types.Value.TheVariants.{Null, Int, Real, Text, Blob}
use Rattle.sqlite.specs.Order.{Row, column, value_cmp}
use Rattle.sqlite.specs.Tree.{Trees, rowid, has_rowid, IsAscending}
use Rattle.sqlite.specs.View.{is_int}
use Rattle.sqlite.specs.Ops.{is_null}
use Rattle.sqlite.specs.Table.{Table}
use Rattle.sqlite.specs.Edit.{Edit, id_in, row_at, taken_by, without_all, Applies}
use Rattle.sqlite_rules.specs.Calls.{ids_of}
use Rattle.sqlite_rules.specs.Lists.{Has}
use Rattle.sqlite_rules.specs.Action.{Work, Leads, Acts, ActsOn, Goes, End, AreChildren, action_edit, is_child_of, loses, pairs, works}
use Rattle.sqlite_rules.specs.declared.action.Deed.TheVariants as deed
use Rattle.sqlite_rules.proofs.TableLemmas.{int_is}
use Rattle.sqlite_value.specs.Keys.{plain, first_key}
use Rattle.sqlite_schema.specs.Rules.{equal, agree}
use Rattle.sqlite_schema.specs.declared.schema.Keys.TheVariants.{Enforced}
use Rattle.sqlite_tied.specs.Compute.{everything}
use Rattle.desk_sql.specs.Schema.{desk_schema, old_volume_table, old_span_table, volume_table, span_table, to_plan, Beside, StandsApart, desk_with}
use Rattle.desk_sql.specs.Rows.{AreNumbered, is_text, is_same}
use Rattle.desk_sql.proofs.lemmas.Read.{equals}
use Rattle.desk_sql.proofs.lemmas.Write.{same_value}
use Rattle.desk_sql.proofs.lemmas.Number.{IsApart, unequal, reversed, hits, all_both, all_kept, any_map, turned, has_is, filter_same_on, without_is}
use Rattle.desk_sql.proofs.lemmas.Beside.{rest_stays, works_as}
use Rattle.sqlite_rules.proofs.ListLemmas.{all_from}

-- ---- which actions there are

abbrev pub key_places : List ℕ
key_places = 1 ∷ 2 ∷ []

-- an action that deletes, at the first depth
abbrev pub delete_on : Table → List (Row × Row) → Work
delete_on table moves = record {
  depth = 0;
  child = table;
  ref = to_plan;
  places = key_places;
  order = plain;
  deed = deed.Delete;
  moves = moves;
}

abbrev pub old_volumes_at : Table
old_volumes_at = record old_volume_table { tree = 4 }

abbrev pub old_spans_at : Table
old_spans_at = record old_span_table { tree = 6 }

abbrev pub volumes_at : Table
volumes_at = record volume_table { tree = 9 }

abbrev pub spans_at : Table
spans_at = record span_table { tree = 11 }

-- the actions of a plan's DELETE, of which the last is taken first
abbrev pub plan_actions : List (Row × Row) → List Work
plan_actions moves = delete_on old_volumes_at moves ∷ delete_on old_spans_at moves
    ∷ delete_on volumes_at moves ∷ delete_on spans_at moves ∷ []

own_plan_works : (olds : List Row) (b : Bool) → list_any (loses plain key_places) (pairs olds []) ≡ b
    → works desk_schema Enforced 0 2 olds [] ≡ cond b (plan_actions (pairs olds [])) []
unfolding everything
own_plan_works olds true some = rw some
own_plan_works olds false none = rw none

module _ (depth : ℕ) (olds : List Row) where
  none_on_4 : works desk_schema Enforced depth 4 olds [] ≡ []
  unfolding everything
  none_on_4 = refl

  none_on_6 : works desk_schema Enforced depth 6 olds [] ≡ []
  unfolding everything
  none_on_6 = refl

  none_on_9 : works desk_schema Enforced depth 9 olds [] ≡ []
  unfolding everything
  none_on_9 = refl

  none_on_11 : works desk_schema Enforced depth 11 olds [] ≡ []
  unfolding everything
  none_on_11 = refl

module _ {beside : Beside} (away : StandsApart beside) where
  pub plan_works : (olds : List Row) (b : Bool) → list_any (loses plain key_places) (pairs olds []) ≡ b
      → works (desk_with beside) Enforced 0 2 olds [] ≡ cond b (plan_actions (pairs olds [])) []
  plan_works olds b some = works_as away Enforced 0 2 olds [] (omega arith) ∙ own_plan_works olds b some

  -- the tree's table has no children
  abbrev pub IsQuiet : ℕ → Type 0
  IsQuiet tree = (depth : ℕ) (olds : List Row) → works (desk_with beside) Enforced depth tree olds [] ≡ []

  pub old_volume_works : IsQuiet 4
  old_volume_works depth olds = works_as away Enforced depth 4 olds [] (omega arith) ∙ none_on_4 depth olds

  pub old_span_works : IsQuiet 6
  old_span_works depth olds = works_as away Enforced depth 6 olds [] (omega arith) ∙ none_on_6 depth olds

  pub volume_works : IsQuiet 9
  volume_works depth olds = works_as away Enforced depth 9 olds [] (omega arith) ∙ none_on_9 depth olds

  pub span_works : IsQuiet 11
  span_works depth olds = works_as away Enforced depth 11 olds [] (omega arith) ∙ none_on_11 depth olds

-- ---- what an old row's key is

equal_of : (o : Ordering) → is_eq o ≡ true → o ≡ Equal
equal_of Less h = cc
equal_of Equal h = refl
equal_of Greater h = cc

pub turned_eq : (a b : Value) → is_eq (value_cmp a b) ≡ is_eq (value_cmp b a)
turned_eq a b = ap is_eq (value_cmp_total.antisymm a b) ∙ reversed (value_cmp b a)

pub not_null : (v : Value) (t : List ℕ) → is_text v t ≡ true → is_null v ≡ false
not_null Null t h = absurd (true≢false (sym h ∙ ap is_eq (value_cmp-Null (Text t))))
not_null (Int n) t h = refl
not_null (Real n) t h = refl
not_null (Text n) t h = refl
not_null (Blob n) t h = refl

pub null_is_none : (v : Value) (t : List ℕ) → (not (is_null v) && is_text v t) ≡ is_text v t
null_is_none Null t = sym (ap is_eq (value_cmp-Null (Text t)))
null_is_none (Int n) t = refl
null_is_none (Real n) t = refl
null_is_none (Text n) t = refl
null_is_none (Blob n) t = refl

-- against a value that is this text, a value is the same just where it is this text
pub same_text : (v old : Value) (t : List ℕ) → is_text old t ≡ true → is_same v old ≡ is_text v t
same_text v old t h =
    let tied : value_cmp old (Text t) ≡ Equal = equal_of (value_cmp old (Text t)) h in
    let moved : is_eq (value_cmp v old) ≡ is_text v t = turned_eq v old
    ∙ ap is_eq (value_cmp_total.congr old (Text t) v tied) ∙ turned_eq (Text t) v in
    ap (λ b. not (is_null v) && b) moved ∙ null_is_none v t

-- the row is of this operator and has this id: in a stored row
abbrev pub has_key : List ℕ → List ℕ → Row → Bool
has_key operator id r = is_text (column r 1) operator && is_text (column r 2) id

and_true : (a b c d : Bool) → a ≡ c → b ≡ d → (a && (b && true)) ≡ (c && d)
and_true a b true true p q = rw (p, q)
and_true a b true false p q = rw (p, q)
and_true a b false d p q = rw p

pub agrees : (operator id : List ℕ) (r old : Row) → has_key operator id old ≡ true
    → agree plain key_places r key_places old ≡ has_key operator id r
unfolding first_key
agrees operator id r old h =
    let parts = and_parts _ _ h in
    and_true _ _ _ _ (equals (column r 1) (column old 1)
    ∙ same_text (column r 1) (column old 1) operator parts.0)
    (equals (column r 2) (column old 2) ∙ same_text (column r 2) (column old 2) id parts.1)

agrees_with_none : (old : Row) → agree plain key_places old key_places [] ≡ false
unfolding first_key
agrees_with_none old = ap (λ b. b && (equal Binary (column old 2) Null && true))
    (equals (column old 1) Null ∙ never_null (column old 1))
  where
    never_null : (v : Value) → is_same v Null ≡ false
    never_null Null = refl
    never_null (Int n) = ap is_eq (value_cmp-apart (Int n) Null (λ e. cc))
    never_null (Real n) = ap is_eq (value_cmp-apart (Real n) Null (λ e. cc))
    never_null (Text n) = ap is_eq (value_cmp-apart (Text n) Null (λ e. cc))
    never_null (Blob n) = ap is_eq (value_cmp-apart (Blob n) Null (λ e. cc))

lost : (operator id : List ℕ) (old : Row) → has_key operator id old ≡ true
    → loses plain key_places (old, [])
    ≡ true
lost operator id old h = ap₂ (λ a b. a && not b) (agrees operator id old old h ∙ h)
    (agrees_with_none old)

-- ---- over all old rows

abbrev pub some : List Row → Bool
some = list_any (λ r. true)

pub all_lost : (operator id : List ℕ) (olds : List Row)
    → AllByRecursion (λ old. has_key operator id old ≡ true) olds
    → list_any (loses plain key_places) (pairs olds []) ≡ some olds
all_lost operator id [] all = refl
all_lost operator id (old ∷ olds) all = ap (λ b. b || list_any (loses plain key_places) (pairs olds []))
    (lost operator id old all.0)

or_and : (a b : Bool) → (a || (b && a)) ≡ a
or_and true b = refl
or_and false true = refl
or_and false false = refl

child_one : (w : Work) → w.order ≡ plain → w.places ≡ key_places → w.ref ≡ to_plan
    → (operator id : List ℕ) (r old : Row) → has_key operator id old ≡ true → is_child_of w r (old, [])
    ≡ has_key operator id r
child_one w o p f operator id r old h = rw (o, p, f)
    (ap₂ (λ a b. a && b) (lost operator id old h) (agrees operator id r old h))

pub children_are : (w : Work) → w.order ≡ plain → w.places ≡ key_places → w.ref ≡ to_plan
    → (operator id : List ℕ) (r : Row) (olds : List Row)
    → AllByRecursion (λ old. has_key operator id old ≡ true) olds
    → list_any (is_child_of w r) (pairs olds []) ≡ (some olds && has_key operator id r)
children_are w o p f operator id r [] all = refl
children_are w o p f operator id r (old ∷ olds) all =
    ap₂ (λ a b. a || b) (child_one w o p f operator id r old all.0)
    (children_are w o p f operator id r olds all.1) ∙ or_and (has_key operator id r) (some olds)

-- ---- the old rows are those that were found

pub row_found : (p : Row → Bool) (rows : List Row) → AllByRecursion (λ r. is_int (rowid r) ≡ true) rows
    → IsAscending IsApart rows → AllByRecursion (λ x. p (row_at rows (id_in (rowid x))) ≡ true)
    (filter p rows)
row_found p [] whole apart = tt
row_found p (r ∷ rows) whole apart =
    let itself : hits r r ≡ true = has_is r r whole.0
    ∙ ap is_eq (tied_itself value_cmp_total (rowid r)) in
    let far = all_kept (λ x. hits r x ≡ false) p rows
    (all_both (λ x. is_int (rowid x) ≡ true) (IsApart r) (λ x. hits r x ≡ false)
    (λ x int away. has_is r x int ∙ away) rows whole.1 apart.0) in
    let later : AllByRecursion (λ x. p (row_at (r ∷ rows) (id_in (rowid x))) ≡ true) (filter p rows) =
    all_both (λ x. hits r x ≡ false) (λ x. p (row_at rows (id_in (rowid x))) ≡ true)
    (λ x. p (row_at (r ∷ rows) (id_in (rowid x))) ≡ true)
    (λ x away is. ap (λ b. p (unwrap_or (cond b (Some r) (find (has_rowid (id_in (rowid x))) rows)) []))
    away
    ∙ is) (filter p rows) far (row_found p rows whole.1 apart.1) in
    first (p r) refl later
    (λ same. ap (λ b. p (unwrap_or (cond b (Some r) (find (has_rowid (id_in (rowid r))) rows)) []))
    itself
    ∙ same)
  where
    first : (b : Bool) → p r ≡ b → AllByRecursion (λ x. p (row_at (r ∷ rows) (id_in (rowid x))) ≡ true)
        (filter p rows) → (p r ≡ true → p (row_at (r ∷ rows) (id_in (rowid r))) ≡ true)
        → AllByRecursion (λ x. p (row_at (r ∷ rows) (id_in (rowid x))) ≡ true)
        (cond b (r ∷ filter p rows) (filter p rows))
    first true is later here = (here is, later)
    first false is later here = later

module _ (p : Row → Bool) (rows found : List Row) (num : AreNumbered rows)
    (are : IsPermutation (map (λ r. rowid r ∷ []) (filter p rows)) found) where
  pub olds_pass : AllByRecursion (λ old. p old ≡ true) (map (row_at rows) (ids_of found))
  olds_pass =
      let Q = λ (y : Row). p (row_at rows (id_in (rowid y))) ≡ true in
      let there : AllByRecursion Q found = all-permutation Q _ found are
      (all-map Q (λ r. rowid r ∷ []) (filter p rows) (row_found p rows num.whole num.distinct)) in
      all-map (λ old. p old ≡ true) (row_at rows) (ids_of found)
      (all-map (λ id. p (row_at rows id) ≡ true) (λ r. id_in (rowid r)) found there)

  some_kept : (rs : List Row) → some (filter p rs) ≡ list_any p rs
  some_kept [] = refl
  some_kept (r ∷ rs) = elim (p r) as (λ b. some (cond b (r ∷ filter p rs) (filter p rs))
      ≡ (b || list_any p rs)) [ true ↦ refl | false ↦ some_kept rs ]

  pub olds_some : some (map (row_at rows) (ids_of found)) ≡ list_any p rows
  olds_some =
      any_map (λ r. true) (row_at rows) (ids_of found)
      ∙ any_map (λ i. true) (λ r. id_in (rowid r)) found
      ∙ sym (list_any-IsPermutation (λ r. true) _ found are)
      ∙ any_map (λ r. true) (λ r. rowid r ∷ []) (filter p rows) ∙ some_kept rows

-- ---- one action: the children go

both_ways : (a b : Bool) → (a ≡ true → b ≡ true) → (b ≡ true → a ≡ true) → a ≡ b
both_ways true b f g = sym (f refl)
both_ways false true f g = g refl
both_ways false false f g = refl

has_any : (q : ℤ → Bool) (ids : List ℤ) (id : ℤ) → Has ids id → q id ≡ true → list_any q ids ≡ true
has_any q [] id none h = absurd none
has_any q (x ∷ ids) id (inl same) h = ap (λ y. q y || list_any q ids) (sym same)
    ∙ ap (λ b. b || list_any q ids) h
has_any q (x ∷ ids) id (inr there) h = ap (λ b. q x || b) (has_any q ids id there h) ∙ or_true (q x)
  where
    or_true : (a : Bool) → (a || true) ≡ true
    or_true true = refl
    or_true false = refl

any_has : (q : ℤ → Bool) (ids : List ℤ) → list_any q ids ≡ true → (id : ℤ) × Has ids id × (q id ≡ true)
any_has q [] h = cc
any_has q (x ∷ ids) h = go (q x) refl h (any_has q ids)
  where
    go : (b : Bool) → q x ≡ b → (b || list_any q ids) ≡ true
        → (list_any q ids ≡ true → (id : ℤ) × Has ids id × (q id ≡ true)) → (id : ℤ) × Has (x ∷ ids) id
        × (q id ≡ true)
    go true is h later = (x, inl refl, is)
    go false is h later = let got = later h in (got.0, inr got.1, got.2)

all_has : (P : Row → Type 0) (rows : List Row) → ((r : Row) → Has rows r → P r) → AllByRecursion P rows
all_has P [] f = tt
all_has P (r ∷ rows) f = (f r (inl refl), all_has P rows (λ x there. f x (inr there)))

at_has : (P : Row → Type 0) (rows : List Row) (r : Row) → AllByRecursion P rows → Has rows r → P r
at_has P [] r all none = absurd none
at_has P (x ∷ rows) r all (inl same) = subst P (sym same) all.0
at_has P (x ∷ rows) r all (inr there) = at_has P rows r all.1 there

pub one_row : (rows : List Row) (a b : Row) → IsAscending IsApart rows → Has rows a → Has rows b
    → is_eq (value_cmp (rowid a) (rowid b)) ≡ true → a ≡ b
one_row [] a b apart none there h = absurd none
one_row (r ∷ rows) a b apart (inl ra) (inl rb) h = ra ∙ sym rb
one_row (r ∷ rows) a b apart (inl ra) (inr there) h =
    absurd (true≢false (sym h ∙ ap (λ x. is_eq (value_cmp (rowid x) (rowid b))) ra
    ∙ at_has (IsApart r) rows b apart.0 there))
one_row (r ∷ rows) a b apart (inr there) (inl rb) h =
    absurd (true≢false (sym h ∙ ap (λ x. is_eq (value_cmp (rowid a) (rowid x))) rb
    ∙ turned r a (at_has (IsApart r) rows a apart.0 there)))
one_row (r ∷ rows) a b apart (inr at) (inr there) h = one_row rows a b apart.1 at there h

-- the children's rowids take out the children, and no other row
pub children_go : (db : Trees) (w : Work) (ids : List ℤ) → AreChildren db w ids
    → AreNumbered (db w.child.tree)
    → without_all (db w.child.tree) ids ≡ filter (λ r. not (list_any (is_child_of w r) w.moves))
    (db w.child.tree)
children_go db w ids are num =
    let rows = db w.child.tree in
    let child = λ (r : Row). list_any (is_child_of w r) w.moves in
    without_is ids rows ∙ filter_same_on _ _ rows (all_has
    (λ r. not (list_any (λ id. has_rowid id r) ids) ≡ not (child r)) rows (λ r there.
    let whole = int_is (rowid r) (at_has (λ r. is_int (rowid r) ≡ true) rows r num.whole there) in
    ap not (both_ways (list_any (λ id. has_rowid id r) ids) (child r)
    (λ some.
    let got = any_has (λ id. has_rowid id r) ids some in
    let it = are.sound got.0 got.1 in
    let same : it.0 ≡ r = one_row rows it.0 r num.distinct it.1 there
    (ap (λ v. is_eq (value_cmp v (rowid r))) it.3 ∙ turned_eq (Int got.0) (rowid r) ∙ got.2) in
    subst (λ x. child x ≡ true) same it.2)
    (λ is. has_any (λ id. has_rowid id r) ids (id_in (rowid r))
    (are.complete r (id_in (rowid r)) there is whole)
    (has_is r r (at_has (λ r. is_int (rowid r) ≡ true) rows r num.whole there)
    ∙ ap is_eq (tied_itself value_cmp_total (rowid r)))))))

-- ---- the actions in turn

module _ {beside : Beside} (away : StandsApart beside) where
  abbrev pub Others : ℕ → Trees → Trees → Type 0
  Others tree db next = AllByRecursion (λ (t : Table). t.tree ≢ tree → next t.tree ≡ db t.tree)
      (desk_with beside).tables

  -- the children went from one tree
  pub record Took (tree : ℕ) (child : Row → Bool) (db next : Trees) : Type 0 where
    pub rows : next tree ≡ filter (λ r. not (child r)) (db tree)
    pub others : Others tree db next

  -- a step that gives trees was not refused, and its rows could be stored
  pub stepped : (Later : Trees → List Work → End → Type 0) (db : Trees) (edit : Edit) (depth : ℕ)
      (below : List Work) (next : Trees) → Goes (desk_with beside) Enforced Later db edit depth below (Ok next)
      → (mid : Trees) × Applies (desk_with beside) Enforced db edit mid
      × Later mid (below ++ works (desk_with beside) Enforced depth edit.table.tree (taken_by db edit)
      edit.news)
      (Ok next)
  stepped Later db edit depth below next (inl refused) = absurd (let e = refused.2 in cc)
  stepped Later db edit depth below next (inr (inl big)) = absurd (let e = big.3 in cc)
  stepped Later db edit depth below next (inr (inr went)) = went

  module _ (n : ℕ) (db : Trees) (table : Table) (moves : List (Row × Row)) (below : List Work)
      (next : Trees)
      (quiet : IsQuiet away table.tree)
      (num : AreNumbered (db table.tree)) where
    abbrev is_child : Row → Bool
    is_child r = list_any (is_child_of (delete_on table moves) r) moves

    gone : (ids : List ℤ) → AreChildren db (delete_on table moves) ids
        → ActsOn (desk_with beside) Enforced (Leads (desk_with beside) Enforced n) db (delete_on table moves)
        below
        (Ok next)
        ids
        → (mid : Trees) × Took table.tree is_child db mid
        × Leads (desk_with beside) Enforced n mid below (Ok next)
    gone [] are h = (
      db,
      record {
        rows = children_go db (delete_on table moves) [] are num;
        others = all_from (λ (t : Table). t.tree ≢ table.tree → db t.tree ≡ db t.tree) (desk_with beside).tables
            (λ t known other. refl);
      },
      h,
    )
    gone (id ∷ ids) are h =
        let step = stepped (Leads (desk_with beside) Enforced n) db
        (action_edit db (delete_on table moves) (id ∷ ids))
        1 below next h in
        let rest : below ++ works (desk_with beside) Enforced 1 table.tree
        (taken_by db (action_edit db (delete_on table moves) (id ∷ ids))) [] ≡ below =
        ap (λ ws. below ++ ws) (quiet 1 (taken_by db (action_edit db (delete_on table moves) (id ∷ ids))))
        ∙ append-nil below in (
          step.0,
          record {
            rows = step.1.rows ∙ children_go db (delete_on table moves) (id ∷ ids) are num;
            others = step.1.tables;
          },
          subst (λ ws. Leads (desk_with beside) Enforced n step.0 ws (Ok next)) rest
              step.2,
        )

    pub acted : Acts (desk_with beside) Enforced (Leads (desk_with beside) Enforced n) db
        (delete_on table moves) below
        (Ok next) → (mid : Trees) × Took table.tree is_child db mid
        × Leads (desk_with beside) Enforced n mid below (Ok next)
    acted h = gone h.0 h.1 h.2

-- no list ends before its last element
pub none_last : {X : Type 0} (before : List X) (a : X) → ¬ (before ++ a ∷ [] ≡ [])
none_last [] a e = cc
none_last (x ∷ before) a e = cc

-- of a list the last element is the last, and the others come before it
pub last_is : {X : Type 0} (before below : List X) (a w : X) → before ++ a ∷ [] ≡ below ++ w ∷ []
    → (below ≡ before) × (w ≡ a)
last_is [] [] a w e = (refl, cc)
last_is [] (x ∷ []) a w e = cc
last_is [] (x ∷ y ∷ below) a w e = cc
last_is (x ∷ []) [] a w e = cc
last_is (x ∷ y ∷ before) [] a w e = cc
last_is (x ∷ before) (y ∷ below) a w e =
    let first : y ≡ x = cc in
    let rest : before ++ a ∷ [] ≡ below ++ w ∷ [] = cc in
    let more = last_is before below a w rest in
    (ap₂ (λ z zs. z ∷ zs) first more.0, more.1)

module _ {beside : Beside} (away : StandsApart beside) where
  module _ (moves : List (Row × Row)) where
    abbrev pub child_of : Table → Row → Bool
    child_of table r = list_any (is_child_of (delete_on table moves) r) moves

    -- the children go from one tree
    abbrev pub Lost : Table → Trees → Trees → Type 0
    Lost table db next = next table.tree ≡ filter (λ r. not (child_of table r)) (db table.tree)

    -- what all actions of a plan's DELETE leave
    pub record HaveGone (db next : Trees) : Type 0 where
      pub operators : next 0 ≡ db 0
      pub plans : next 2 ≡ db 2
      pub old_volumes : Lost old_volumes_at db next
      pub old_spans : Lost old_spans_at db next
      pub volumes : Lost volumes_at db next
      pub spans : Lost spans_at db next
      pub rest : (t : Table) → Has beside.tables t → next t.tree ≡ db t.tree

    -- and those alone that are on version 1's tables
    record OldGone (db next : Trees) : Type 0 where
      operators : next 0 ≡ db 0
      plans : next 2 ≡ db 2
      old_volumes : Lost old_volumes_at db next
      old_spans : Lost old_spans_at db next
      volumes : next 9 ≡ db 9
      spans : next 11 ≡ db 11
      rest : (t : Table) → Has beside.tables t → next t.tree ≡ db t.tree

  module _ (moves : List (Row × Row)) (next : Trees) where
    pub ended : (n : ℕ) (db : Trees) → Leads (desk_with beside) Enforced n db [] (Ok next) → db ≡ next
    ended zero db h = sym (same_value h.1)
    ended (suc n) db h = absurd (none h.0 h.1 h.2)
      where
        none : (below : List Work) (w : Work) → [] ≡ below ++ w ∷ [] → ⊥
        none [] w e = cc
        none (x ∷ below) w e = cc

    -- an action takes its children, and leads to those before it
    one_goes : (table : Table) → IsQuiet away table.tree → (before : List Work) (n : ℕ) (db : Trees)
        → AreNumbered (db table.tree)
        → Leads (desk_with beside) Enforced n db (before ++ delete_on table moves ∷ []) (Ok next)
        → (left : ℕ) × (mid : Trees) × Took away table.tree (child_of moves table) db mid
        × Leads (desk_with beside) Enforced left mid before (Ok next)
    one_goes table quiet before zero db num h = absurd (none_last before (delete_on table moves) h.0)
    one_goes table quiet before (suc n) db num h =
        let last = last_is before h.0 (delete_on table moves) h.1 h.2 in
        let acts = subst (λ ws. Acts (desk_with beside) Enforced (Leads (desk_with beside) Enforced n) db
        (delete_on table moves) ws (Ok next)) last.0
        (subst (λ w. Acts (desk_with beside) Enforced (Leads (desk_with beside) Enforced n) db w h.0
        (Ok next)) last.1
        h.3) in
        let done = acted away n db table moves before next quiet num acts in
        (n, done.0, done.1, done.2)

    old_go : (n : ℕ) (db : Trees) → AreNumbered (db 4) → AreNumbered (db 6)
        → Leads (desk_with beside) Enforced n db
        (delete_on old_volumes_at moves ∷ delete_on old_spans_at moves ∷ []) (Ok next)
        → OldGone moves db next
    old_go n db four six h =
        let first = one_goes old_spans_at (old_span_works away) (delete_on old_volumes_at moves ∷ []) n db six
        h in
        let a = first.2.others in
        let four_is : first.1 4 ≡ db 4 = a.1.1.0 (unequal _ _ refl) in
        let last = one_goes old_volumes_at (old_volume_works away) [] first.0 first.1
        (subst AreNumbered (sym four_is) four) first.3 in
        let b = last.2.others in
        subst (OldGone moves db) (ended last.0 last.1 last.3) (record {
          operators = b.0 (unequal _ _ refl) ∙ a.0 (unequal _ _ refl);
          plans = b.1.0 (unequal _ _ refl) ∙ a.1.0 (unequal _ _ refl);
          old_volumes = last.2.rows ∙ ap (filter (λ r. not (child_of moves old_volumes_at r))) four_is;
          old_spans = b.1.1.1.0 (unequal _ _ refl) ∙ first.2.rows;
          volumes = b.1.1.1.1.0 (unequal _ _ refl) ∙ a.1.1.1.1.0 (unequal _ _ refl);
          spans = b.1.1.1.1.1.0 (unequal _ _ refl) ∙ a.1.1.1.1.1.0 (unequal _ _ refl);
          rest = λ t known. rest_stays away 4 (omega arith) first.1 last.1 b.1.1.1.1.1.1 t known
              ∙ rest_stays away 6 (omega arith) db first.1 a.1.1.1.1.1.1 t known;
        })

    pub all_go : (n : ℕ) (db : Trees) → AreNumbered (db 4) → AreNumbered (db 6) → AreNumbered (db 9)
        → AreNumbered (db 11) → Leads (desk_with beside) Enforced n db (plan_actions moves) (Ok next)
        → HaveGone moves db next
    all_go n db four six nine eleven h =
        let first = one_goes spans_at (span_works away) (delete_on old_volumes_at moves
        ∷ delete_on old_spans_at moves ∷ delete_on volumes_at moves ∷ []) n db eleven h in
        let a = first.2.others in
        let nine_is : first.1 9 ≡ db 9 = a.1.1.1.1.0 (unequal _ _ refl) in
        let second = one_goes volumes_at (volume_works away) (delete_on old_volumes_at moves
        ∷ delete_on old_spans_at moves ∷ []) first.0 first.1 (subst AreNumbered (sym nine_is) nine) first.3 in
        let b = second.2.others in
        let four_is : second.1 4 ≡ db 4 = b.1.1.0 (unequal _ _ refl) ∙ a.1.1.0 (unequal _ _ refl) in
        let six_is : second.1 6 ≡ db 6 = b.1.1.1.0 (unequal _ _ refl) ∙ a.1.1.1.0 (unequal _ _ refl) in
        let rest = old_go second.0 second.1 (subst AreNumbered (sym four_is) four)
        (subst AreNumbered (sym six_is) six) second.3 in
        record {
          operators = rest.operators ∙ b.0 (unequal _ _ refl) ∙ a.0 (unequal _ _ refl);
          plans = rest.plans ∙ b.1.0 (unequal _ _ refl) ∙ a.1.0 (unequal _ _ refl);
          old_volumes = rest.old_volumes
              ∙ ap (filter (λ r. not (child_of moves old_volumes_at r))) four_is;
          old_spans = rest.old_spans ∙ ap (filter (λ r. not (child_of moves old_spans_at r))) six_is;
          volumes = rest.volumes ∙ second.2.rows
              ∙ ap (filter (λ r. not (child_of moves volumes_at r))) nine_is;
          spans = rest.spans ∙ b.1.1.1.1.1.0 (unequal _ _ refl) ∙ first.2.rows;
          rest = λ t known. rest.rest t known
              ∙ rest_stays away 9 (omega arith) first.1 second.1 b.1.1.1.1.1.1 t known
              ∙ rest_stays away 11 (omega arith) db first.1 a.1.1.1.1.1.1 t known;
        }
