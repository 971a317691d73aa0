-- What an UPDATE leaves, where each column of the rows that it finds is fixed.
use Rattle.std.proofs.Common.{◌≡◌, ◌≢◌, ℕ, ◌==◌, Bool, true, false, not, cond, ◌||◌, List, [], ◌∷◌, ◌++◌, length, map, filter, Ok, refl, sym, ap, ap₂, subst, ◌∙◌, drop, arith, Option}
use Rattle.std.specs.List.{AllByRecursion, flat_map, list_all, list_any}
use Rattle.std.specs.List.Sorted.{IsPermutation}
use Rattle.std.proofs.lemmas.List.Sorted.{IsPermutation-map, IsPermutation-refl, IsPermutation-sym, IsPermutation-cons, IsPermutation-trans, IsPermutation-middle, IsPermutation-append_left, IsPermutation-append_right, length_permutation}
use Rattle.std.proofs.lemmas.List.{length-map, map-append}
use Rattle.std.proofs.lemmas.Bool.Decides.{nat_tests}
use Rattle.std.proofs.lemmas.Bool.{and_parts}
use Rattle.sqlite_keyed.proofs.ListLemmas.{map-map}
use Rattle.sqlite.specs.Order.{Row}
use Rattle.sqlite.specs.declared.types.Value.TheVariants.{Null}
use Rattle.sqlite.specs.Term.{Term, eval_all, holds}
use Rattle.sqlite.specs.Query.{inner, end}
use Rattle.sqlite.specs.Program.{overlay}
use Rattle.sqlite.specs.Tree.{Trees, rowid, put_row}
use Rattle.sqlite.specs.Table.{Table}
use Rattle.sqlite.specs.Edit.{Edit, edit_of, with_rowid, numbered, without_all, put_all, are_fresh, have_rowids, taken_by}
use Rattle.sqlite.specs.Cast.{cast_row}
use Rattle.sqlite.specs.Rowids.TheVariants.{Given}
use Rattle.sqlite.specs.Rows.{Written, Queried, Updates}
use Rattle.sqlite_rules.specs.Calls.{ids_of}
use Rattle.sqlite_rules.specs.Action.{Writes, works}
use Rattle.sqlite_rules.proofs.ActionLemmas.{no_works}
use Rattle.sqlite.proofs.Callers.{one_step}
use Rattle.sqlite_schema.specs.declared.schema.Column.{Column}
use Rattle.sqlite_schema.specs.declared.schema.Reference.{Reference}
use Rattle.sqlite_schema.specs.declared.schema.Keys.TheVariants.{Enforced}
use Rattle.sqlite_tied.specs.Compute.{everything}
use Rattle.desk_sql.specs.Schema.{desk_schema, Beside, StandsApart, desk_with}
use Rattle.desk_sql.specs.Rows.{AreNumbered, with_row}
use Rattle.desk_sql.proofs.lemmas.QueryTexts.{query_of}
use Rattle.desk_sql.proofs.lemmas.Number.{numbered_put, put_adds, numbered_kept, removed}
use Rattle.desk_sql.proofs.lemmas.Write.{went, same_value, table_at, task_at}
use Rattle.desk_changes.proofs.DeleteLemmas.{answer_shows, picked}
use Rattle.desk_sql.proofs.lemmas.Beside.{works_as}

-- ---- rows put one after the other

not_true : (a : Bool) → not a ≡ true → a ≡ false
not_true true h = cc
not_true false h = refl

pub all_put : (news rows : List Row) → have_rowids news ≡ true → are_fresh rows news ≡ true
    → AreNumbered rows
    → AreNumbered (put_all rows news) × IsPermutation (news ++ rows) (put_all rows news)
all_put [] rows whole fresh num = (num, IsPermutation-refl rows)
all_put (r ∷ news) rows whole fresh num =
    let ints = and_parts _ _ whole in
    let frees = and_parts _ _ fresh in
    let free = not_true _ frees.0 in
    let more = all_put news (put_row r rows) ints.1 frees.1 (numbered_put r rows ints.0 free num) in (
      more.0,
      IsPermutation-trans _ _ _ (IsPermutation-sym _ _ (IsPermutation-middle news r rows))
          (IsPermutation-trans _ _ _ (IsPermutation-append_right news _ _ (put_adds r rows free))
          more.1),
    )

-- given rowids stay
pub given_stay : (rows news : List Row) → numbered Given rows news ≡ news
given_stay rows [] = refl
given_stay rows (r ∷ news) = ap (λ rs. r ∷ rs) (given_stay (put_row r rows) news)

-- ---- rows that change in their places

module _ (p : Row → Bool) (show : Row → Row) (passes : Row → Bool)
    (same : (r : Row) → p r ≡ passes (show r))
    (cells : Row) (g : Row → Row) (fixed : (r : Row) → p r ≡ true → show (g r) ≡ cells) where
  pub replaced : (rows : List Row) → IsPermutation
      (map show (map g (filter p rows)) ++ map show (filter (λ r. not (p r)) rows))
      (with_row passes cells (map show rows))
  replaced [] = IsPermutation-refl []
  replaced (r ∷ rows) = go (p r) refl (replaced rows)
    where
      go : (b : Bool) → p r ≡ b → IsPermutation (map show (map g (filter p rows))
          ++ map show (filter (λ r. not (p r)) rows)) (with_row passes cells (map show rows))
          → IsPermutation (map show (map g (cond b (r ∷ filter p rows) (filter p rows)))
          ++ map show (cond (not b) (r ∷ filter (λ r. not (p r)) rows) (filter (λ r. not (p r)) rows)))
          (cond (passes (show r)) cells (show r) ∷ with_row passes cells (map show rows))
      go true is more =
          subst (λ x. IsPermutation (show (g r) ∷ (map show (map g (filter p rows))
          ++ map show (filter (λ r. not (p r)) rows))) (x ∷ with_row passes cells (map show rows)))
          (fixed r is ∙ sym (ap (λ c. cond c cells (show r)) (sym (same r) ∙ is)))
          (IsPermutation-cons (show (g r)) _ _ more)
      go false is more =
          subst (λ x. IsPermutation (map show (map g (filter p rows)) ++ show r
          ∷ map show (filter (λ r. not (p r)) rows)) (x ∷ with_row passes cells (map show rows)))
          (sym (ap (λ c. cond c cells (show r)) (sym (same r) ∙ is)))
          (IsPermutation-trans _ _ _ (IsPermutation-middle (map show (map g (filter p rows))) (show r)
          (map show (filter (λ r. not (p r)) rows))) (IsPermutation-cons (show r) _ _ more))

-- ---- rows of which none passes, or that are counted

no_rows : (rows : List Row) → IsPermutation [] rows → rows ≡ []
no_rows [] same = refl
no_rows (r ∷ rows) same = absurd (omega (arith, length_permutation [] (r ∷ rows) same))

or_false : (a b : Bool) → (a || b) ≡ false → (a ≡ false) × (b ≡ false)
or_false true b h = cc
or_false false b h = (refl, h)

module _ (p : Row → Bool) (show : Row → Row) (passes : Row → Bool)
    (same : (r : Row) → p r ≡ passes (show r)) where
  pub none_pass : (rows : List Row) → list_any passes (map show rows) ≡ false → filter p rows ≡ []
  none_pass [] h = refl
  none_pass (r ∷ rows) h =
      let parts = or_false (passes (show r)) (list_any passes (map show rows)) h in
      subst (λ b. cond b (r ∷ filter p rows) (filter p rows) ≡ []) (sym (same r ∙ parts.0))
      (none_pass rows parts.1)

  counted_as : (r : Row) (rows : List Row) (b : Bool)
      → length (filter p rows) ≡ length (filter passes (map show rows))
      → length (cond b (r ∷ filter p rows) (filter p rows))
      ≡ length (cond b (show r ∷ filter passes (map show rows)) (filter passes (map show rows)))
  counted_as r rows true more = omega (arith, more)
  counted_as r rows false more = more

  pub as_many : (rows : List Row) → length (filter p rows) ≡ length (filter passes (map show rows))
  as_many [] = refl
  as_many (r ∷ rows) = ap (λ b. length (cond b (r ∷ filter p rows) (filter p rows))) (same r)
      ∙ counted_as r rows (passes (show r)) (as_many rows)

-- ---- what is found and written

module _ {beside : Beside} (away : StandsApart beside) where
  module _ (limit : Option ℕ) (params : Row) (name : List ℕ) (cols : List Column) (key : List ℕ)
      (refs : List Reference) (tree : ℕ) (db : Trees) where
    abbrev pub update_edit : List Row → Edit
    update_edit found = edit_of db (table_at limit params name cols key refs tree) (ids_of found) Given 1
        found

    abbrev pub news_of : List Row → List Row
    news_of found = map (λ s. cast_row (table_at limit params name cols key refs tree) (drop 1 s)) found

    pub record Sets (wanted : Row → Bool) (source : Row → Row) (next : Trees) : Type 0 where
      pub found : List Row
      pub are : IsPermutation (map source (filter wanted (db tree))) found
      pub writes : Writes (desk_with beside) Enforced db (update_edit found) (Ok next)

    -- the rows that the query finds
    pub update_finds : (terms project : List Term) (wanted : Row → Bool) (source : Row → Row)
        (found : List Row) → overlay db [] tree ≡ db tree
        → ((r : Row) → eval_all project (params ∷ r ∷ []) ≡ source r)
        → ((r : Row) → list_all (holds (params ∷ r ∷ [])) terms ≡ wanted r)
        → Queried limit (record { schema = (desk_with beside); trees = db })
        (record { lets = []; body = query_of (inner tree end) terms project [] }) params (Ok found)
        → IsPermutation (map source (filter wanted (db tree))) found
    update_finds terms project wanted source found same shows passes asked =
        let shown = answer_shows (inner tree end) terms project (overlay db []) params found
        (asked.answer Null) in
        let rows = subst (λ rows. map (eval_all project)
        (flat_map (λ r. cond (list_all (holds (params ∷ r ∷ [])) terms) ((params ∷ r ∷ []) ∷ []) []) rows)
        ≡ map source (filter wanted (db tree))) (sym same)
        (picked (λ r. params ∷ r ∷ []) terms project source wanted shows passes (db tree)) in
        subst (λ xs. IsPermutation xs found) rows shown

    pub update_sets : (terms project : List Term) (wanted : Row → Bool) (source : Row → Row) (w : Written)
        → overlay db [] tree ≡ db tree → ((r : Row) → eval_all project (params ∷ r ∷ []) ≡ source r)
        → ((r : Row) → list_all (holds (params ∷ r ∷ [])) terms ≡ wanted r)
        → Updates (task_at away limit params name cols key refs tree)
        (record { lets = []; body = query_of (inner tree end) terms project [] }) params db (Ok w)
        → Sets wanted source w.trees
    update_sets terms project wanted source w same shows passes h =
        let asked = went h in
        let done = went asked.2 in
        record {
          found = asked.0;
          are = update_finds terms project wanted source asked.0 same shows passes asked.1;
          writes = subst (λ (next : Trees). Writes (desk_with beside) Enforced db (update_edit asked.0)
              (Ok next))
              (sym (ap (λ (it : Written). it.trees) (same_value done.2))) done.1;
        }

    -- as many rows are written as are wanted
    pub update_counts : (terms project : List Term) (wanted : Row → Bool) (source : Row → Row) (w : Written)
        → overlay db [] tree ≡ db tree → ((r : Row) → eval_all project (params ∷ r ∷ []) ≡ source r)
        → ((r : Row) → list_all (holds (params ∷ r ∷ [])) terms ≡ wanted r)
        → Updates (task_at away limit params name cols key refs tree)
        (record { lets = []; body = query_of (inner tree end) terms project [] }) params db (Ok w)
        → length w.rows ≡ length (filter wanted (db tree))
    update_counts terms project wanted source w same shows passes h =
        let asked = went h in
        let done = went asked.2 in
        let found = asked.0 in
        ap (λ (it : Written). length it.rows) (same_value done.2)
        ∙ ap length (given_stay (without_all (db tree) (ids_of found)) (news_of found))
        ∙ length-map found (λ s. cast_row (table_at limit params name cols key refs tree) (drop 1 s))
        ∙ length_permutation _ found (update_finds terms project wanted source found same shows passes asked.1)
        ∙ length-map (filter wanted (db tree)) source

    -- where none is wanted, the tree stays
    pub update_stays : (wanted : Row → Bool) (source : Row → Row) (next : Trees) → filter wanted (db tree) ≡ []
        → ((found : List Row) → works (desk_with beside) Enforced 0 tree (taken_by db (update_edit found))
        (update_edit found).news ≡ []) → Sets wanted source next → next tree ≡ db tree
    update_stays wanted source next none quiet s =
        let empty : s.found ≡ [] = no_rows s.found
        (subst (λ rows. IsPermutation (map source rows) s.found) none s.are) in
        let step = one_step (desk_with beside) Enforced db next (update_edit s.found) (quiet s.found) s.writes
        in
        step.rows
        ∙ ap (λ found. put_all (without_all (db tree) (ids_of found)) (update_edit found).news) empty

    -- what they leave, and what is made of them
    module _ (wanted : Row → Bool) (source : Row → Row) (found : List Row)
        (are : IsPermutation (map source (filter wanted (db tree))) found) where
      same_ids : ((r : Row) → rowid (source r) ≡ rowid r) → (rows : List Row)
          → map (λ r. rowid (source r) ∷ []) rows ≡ map (λ r. rowid r ∷ []) rows
      same_ids keeps [] = refl
      same_ids keeps (r ∷ rows) = ap₂ (λ v xs. (v ∷ []) ∷ xs) (keeps r) (same_ids keeps rows)

      shown_ids : (rows : List Row) → ids_of (map (λ r. rowid r ∷ []) rows) ≡ ids_of rows
      shown_ids [] = refl
      shown_ids (r ∷ rows) = ap₂ (λ i xs. i ∷ xs) refl (shown_ids rows)

      pub left_is : AreNumbered (db tree) → ((r : Row) → rowid (source r) ≡ rowid r)
          → without_all (db tree) (ids_of found) ≡ filter (λ r. not (wanted r)) (db tree)
      left_is num keeps =
          let ids : IsPermutation (map (λ r. rowid r ∷ []) (filter wanted (db tree)))
          (map (λ r. rowid r ∷ []) found) =
          subst (λ xs. IsPermutation xs (map (λ r. rowid r ∷ []) found))
          (map-map (λ r. rowid r ∷ []) source (filter wanted (db tree))
          ∙ same_ids keeps (filter wanted (db tree)))
          (IsPermutation-map (λ r. rowid r ∷ []) _ _ are) in
          ap (without_all (db tree)) (sym (shown_ids found))
          ∙ removed wanted (db tree) (map (λ r. rowid r ∷ []) found) num ids

      pub made_is : IsPermutation
          (map (λ r. cast_row (table_at limit params name cols key refs tree) (drop 1 (source r)))
          (filter wanted (db tree))) (news_of found)
      made_is = subst (λ xs. IsPermutation xs (news_of found))
          (map-map (λ s. cast_row (table_at limit params name cols key refs tree) (drop 1 s)) source
          (filter wanted (db tree)))
          (IsPermutation-map (λ s. cast_row (table_at limit params name cols key refs tree) (drop 1 s)) _ _
          are)

    -- what the tree has then
    pub record Changed (wanted passes : Row → Bool) (show : Row → Row) (cells : Row) (next : Trees) : Type
        0
      where
        pub num : AreNumbered (next tree)
        pub rows : IsPermutation (with_row passes cells (map show (db tree))) (map show (next tree))
        pub others : AllByRecursion (λ (t : Table). t.tree ≢ tree → next t.tree ≡ db t.tree)
            (desk_with beside).tables

    pub changes : (wanted passes : Row → Bool) (show source : Row → Row) (cells : Row) (next : Trees)
        → AreNumbered (db tree) → ((r : Row) → wanted r ≡ passes (show r))
        → ((r : Row) → rowid (source r) ≡ rowid r)
        → ((r : Row) → wanted r ≡ true
        → show (cast_row (table_at limit params name cols key refs tree) (drop 1 (source r))) ≡ cells)
        → ((found : List Row) → works (desk_with beside) Enforced 0 tree (taken_by db (update_edit found))
        (update_edit found).news ≡ []) → Sets wanted source next → Changed wanted passes show cells next
    changes wanted passes show source cells next num same keeps fixed quiet s =
        let edit = update_edit s.found in
        let g = λ (r : Row). cast_row (table_at limit params name cols key refs tree) (drop 1 (source r))
        in
        let step = one_step (desk_with beside) Enforced db next edit (quiet s.found) s.writes in
        let news : edit.news ≡ news_of s.found = given_stay (without_all (db tree) (ids_of s.found))
        (news_of s.found) in
        let left = left_is wanted source s.found s.are num keeps in
        let put = all_put (news_of s.found) (filter (λ r. not (wanted r)) (db tree))
        (subst (λ rs. have_rowids rs ≡ true) news step.keyed)
        (subst (λ rs. are_fresh rs (news_of s.found) ≡ true) left
        (subst (λ rs. are_fresh (without_all (db tree) (ids_of s.found)) rs ≡ true) news step.fresh))
        (numbered_kept (λ r. not (wanted r)) (db tree) num) in
        let is : next tree ≡ put_all (filter (λ r. not (wanted r)) (db tree)) (news_of s.found) =
        step.rows
        ∙ ap₂ put_all left news in
        let made : IsPermutation (map g (filter wanted (db tree))) (news_of s.found) =
        made_is wanted source s.found s.are in
        record {
          num = subst AreNumbered (sym is) put.0;
          rows = IsPermutation-trans _ _ _ (IsPermutation-sym _ _
              (replaced wanted show passes same cells g fixed (db tree)))
              (IsPermutation-trans _ _ _ (IsPermutation-append_left
              (map show (filter (λ r. not (wanted r)) (db tree))) _ _ (IsPermutation-map show _ _ made))
              (subst (λ xs. IsPermutation xs (map show (next tree)))
              (map-append show (news_of s.found) (filter (λ r. not (wanted r)) (db tree)))
              (subst (λ xs. IsPermutation (map show
              (news_of s.found ++ filter (λ r. not (wanted r)) (db tree)))
              (map show xs)) (sym is) (IsPermutation-map show _ _ put.1))));
          others = step.tables;
        }

-- ---- no action follows

own_operator_works : (olds news : List Row) (b : Bool) → (length news == 0) ≡ b
    → works desk_schema Enforced 0 0 olds news ≡ []
unfolding everything
own_operator_works olds news true is = rw is
own_operator_works olds news false is = rw is

nonempty : (x : Row) (xs : List Row) → (length (x ∷ xs) == 0) ≡ false
nonempty x xs = grind (arith, nat_tests)

own_plan_works : (olds news : List Row) → (length news == 0) ≡ false
    → works desk_schema Enforced 0 2 olds news
    ≡ []
unfolding everything
own_plan_works olds news is = rw is

module _ {beside : Beside} (away : StandsApart beside) where
  pub operator_quiet : (olds news : List Row) → works (desk_with beside) Enforced 0 0 olds news ≡ []
  operator_quiet olds news = works_as away Enforced 0 0 olds news (omega arith)
      ∙ own_operator_works olds news (length news == 0) refl

  plan_works : (olds news : List Row) → (length news == 0) ≡ false
      → works (desk_with beside) Enforced 0 2 olds news ≡ []
  plan_works olds news is = works_as away Enforced 0 2 olds news (omega arith) ∙ own_plan_works olds news is

  pub plan_quiet : (limit : Option ℕ) (params : Row) (name : List ℕ) (cols : List Column) (key : List ℕ)
      (refs : List Reference) (db : Trees) (found : List Row)
      → works (desk_with beside) Enforced 0 2 (taken_by db
      (update_edit away limit params name cols key refs 2 db found))
      (update_edit away limit params name cols key refs 2 db found).news ≡ []
  plan_quiet limit params name cols key refs db [] = no_works (desk_with beside) Enforced 0 2 []
  plan_quiet limit params name cols key refs db (x ∷ found) =
      plan_works (taken_by db (update_edit away limit params name cols key refs 2 db (x ∷ found)))
      (update_edit away limit params name cols key refs 2 db (x ∷ found)).news
      (nonempty (with_rowid Given (without_all (db 2) (ids_of (x ∷ found)))
      (cast_row (table_at limit params name cols key refs 2) (drop 1 x))) _)
