-- An operator's row set or added, and a plan's row set to closed.
use Rattle.std.proofs.Common.{◌≡◌, ℕ, Bool, true, false, not, cond, ◌||◌, List, [], ◌∷◌, map, refl, sym, ap, subst, ◌∙◌, Less, IsPermutation}
use Rattle.std.specs.List.{AllByRecursion, filter, list_any}
use Rattle.std.specs.List.Sorted.{IsStrictlySortedBy}
use Rattle.std.specs.Ordering.{is_eq}
use Rattle.std.specs.Cmp.Lexicographic.{nat_list_cmp_total}
use Rattle.std.proofs.lemmas.List.Sorted.{IsPermutation-refl, IsPermutation-sym, IsPermutation-trans, IsPermutation-cons, IsPermutation-map, list_any-IsPermutation}
use Rattle.sqlite_value.specs.Order.{Row}
use Rattle.sqlite_value.proofs.OrderLemmas.{value_cmp-Text}
use Rattle.sqlite_keyed.proofs.ListLemmas.{IsPermutation-filter, IsPermutation-same, filter_all, none_from_any}
use Rattle.desk_sql.specs.Rows as sql
use Rattle.desk_sql.specs.Rows.{Tables, with_row, PutsOperator, ClosesPlan}
use Rattle.desk_store.specs.World.{Listed, World, text_cmp, listed_cmp, IsContent}
use Rattle.desk_store.proofs.lemmas.Order.{is_equal, all_weaker}
use Rattle.row_codec.specs.Tables.{row_of_operator, operator_rows, AreTables}
use Rattle.desk_tables.specs.Store.{EnrolsRows}
use Rattle.row_codec.proofs.lemmas.Order.{turned}
use Rattle.desk_tables.proofs.ChangeLemmas.{named_otherwise, front, operators_filtered}

abbrev named : List ℕ → Listed → Bool
named name l = is_eq (text_cmp name l.name)

named_row : (name : List ℕ) (l : Listed) → sql.is_row_by name (row_of_operator l) ≡ named name l
named_row name l = ap is_eq (value_cmp-Text l.name name) ∙ turned l.name name

abbrev set_row : List ℕ → Row → Row → Row
set_row name row r = cond (sql.is_row_by name r) row r

-- of operators one is set at most
none_set : (name : List ℕ) (row : Row) (ls : List Listed)
    → AllByRecursion (λ l. named name l ≡ false) ls
    → map (set_row name row) (map row_of_operator ls) ≡ map row_of_operator ls
none_set name row [] h = refl
none_set name row (l ∷ ls) h = λ i. cond ((named_row name l ∙ h.0) i) row (row_of_operator l)
    ∷ none_set name row ls h.1 i

none_filtered : (name : List ℕ) (ls : List Listed) → AllByRecursion (λ l. named name l ≡ false) ls
    → filter (named_otherwise name) ls ≡ ls
none_filtered name ls h = filter_all (named_otherwise name) ls
    (all_weaker (λ l. named name l ≡ false) (λ l. named_otherwise name l ≡ true) (λ l e. ap not e) ls h)

one_set : (name : List ℕ) (row : Row) (ls : List Listed) → IsStrictlySortedBy listed_cmp ls
    → list_any (named name) ls ≡ true → IsPermutation
    (row ∷ map row_of_operator (filter (named_otherwise name) ls))
    (map (set_row name row) (map row_of_operator ls))
unfolding IsStrictlySortedBy
one_set name row [] s any = cc
one_set name row (l ∷ ls) s any = by_test (named name l) refl any (one_set name row ls s.1) where
  later : named name l ≡ true → AllByRecursion (λ k. named name k ≡ false) ls
  later e = all_weaker (λ k. listed_cmp l k ≡ Less) (λ k. named name k ≡ false)
      (λ k h. ap is_eq (nat_list_cmp_total.congr name l.name k.name (is_equal (text_cmp name l.name) e)
      ∙ h))
      ls s.0

  kept : List Row
  kept = map (set_row name row) (map row_of_operator ls)

  by_test : (b : Bool) → named name l ≡ b → (b || list_any (named name) ls) ≡ true
      → (list_any (named name) ls ≡ true → IsPermutation
      (row ∷ map row_of_operator (filter (named_otherwise name) ls)) kept)
      → IsPermutation (row ∷ map row_of_operator (cond (not (named name l))
      (l ∷ filter (named_otherwise name) ls) (filter (named_otherwise name) ls)))
      (set_row name row (row_of_operator l) ∷ kept)
  by_test true e f ih =
      rw (e, named_row name l ∙ e, none_filtered name ls (later e))
      (subst (λ xs. IsPermutation (row ∷ map row_of_operator ls) (row ∷ xs))
      (sym (none_set name row ls (later e))) (IsPermutation-refl (row ∷ map row_of_operator ls)))
  by_test false e f ih = rw (e, named_row name l ∙ e)
      (front row (row_of_operator l) (map row_of_operator (filter (named_otherwise name) ls)) kept (ih f))

any_named : (name : List ℕ) (ls : List Listed) → list_any (sql.is_row_by name) (map row_of_operator ls)
    ≡ list_any (named name) ls
any_named name [] = refl
any_named name (l ∷ ls) = λ i. named_row name l i || any_named name ls i

pub operator_is_put : (name : List ℕ) (ceiling : ℕ) (w : World) (old new : Tables) → IsContent w
    → AreTables old w → PutsOperator name ceiling old new → EnrolsRows name ceiling old new
operator_is_put name ceiling w old new h t e = record {
  no_old = λ none. record {
    volumes = ap (λ x. x.old_volumes) e.1 ∙ none.volumes;
    spans = ap (λ x. x.old_spans) e.1 ∙ none.spans;
  };
  operators = by_test (list_any (sql.is_row_by name) old.operators) refl e.0;
  plans = IsPermutation-same old.plans new.plans (sym (ap (λ x. x.plans) e.1));
  volumes = IsPermutation-same old.volumes new.volumes (sym (ap (λ x. x.volumes) e.1));
  covers = IsPermutation-same old.covers new.covers (sym (ap (λ x. x.covers) e.1));
  spans = IsPermutation-same old.spans new.spans (sym (ap (λ x. x.spans) e.1));
} where
  kept : IsPermutation (sql.operator_row name ceiling
      ∷ map row_of_operator (filter (named_otherwise name) w.operators))
      (sql.operator_row name ceiling ∷ filter (λ r. not (sql.is_row_by name r)) old.operators)
  kept = IsPermutation-cons (sql.operator_row name ceiling)
      (map row_of_operator (filter (named_otherwise name) w.operators))
      (filter (λ r. not (sql.is_row_by name r)) old.operators)
      (subst (λ xs. IsPermutation xs (filter (λ r. not (sql.is_row_by name r)) old.operators))
      (operators_filtered name w.operators) (IsPermutation-filter (λ r. not (sql.is_row_by name r))
      (operator_rows w) old.operators t.operators))

  by_test : (b : Bool) → list_any (sql.is_row_by name) old.operators ≡ b
      → IsPermutation (cond b (with_row (sql.is_row_by name) (sql.operator_row name ceiling) old.operators)
      (sql.operator_row name ceiling ∷ old.operators)) new.operators
      → IsPermutation (sql.operator_row name ceiling
      ∷ filter (λ r. not (sql.is_row_by name r)) old.operators)
      new.operators
  by_test true f set =
      let any : list_any (named name) w.operators ≡ true = sym (any_named name w.operators)
      ∙ list_any-IsPermutation (sql.is_row_by name) (operator_rows w) old.operators t.operators ∙ f in
      IsPermutation-trans (sql.operator_row name ceiling
      ∷ filter (λ r. not (sql.is_row_by name r)) old.operators)
      (with_row (sql.is_row_by name) (sql.operator_row name ceiling) old.operators) new.operators
      (IsPermutation-trans (sql.operator_row name ceiling
      ∷ filter (λ r. not (sql.is_row_by name r)) old.operators)
      (sql.operator_row name ceiling ∷ map row_of_operator (filter (named_otherwise name) w.operators))
      (with_row (sql.is_row_by name) (sql.operator_row name ceiling) old.operators)
      (IsPermutation-sym (sql.operator_row name ceiling
      ∷ map row_of_operator (filter (named_otherwise name) w.operators))
      (sql.operator_row name ceiling ∷ filter (λ r. not (sql.is_row_by name r)) old.operators) kept)
      (IsPermutation-trans (sql.operator_row name ceiling
      ∷ map row_of_operator (filter (named_otherwise name) w.operators))
      (map (set_row name (sql.operator_row name ceiling)) (operator_rows w))
      (with_row (sql.is_row_by name) (sql.operator_row name ceiling) old.operators)
      (one_set name (sql.operator_row name ceiling) w.operators h.world.operators any)
      (IsPermutation-map (set_row name (sql.operator_row name ceiling)) (operator_rows w) old.operators
      t.operators)))
      set
  by_test false f added =
      subst (λ xs. IsPermutation (sql.operator_row name ceiling ∷ xs) new.operators)
      (sym (filter_all (λ r. not (sql.is_row_by name r)) old.operators
      (all_weaker (λ r. sql.is_row_by name r ≡ false) (λ r. not (sql.is_row_by name r)
      ≡ true) (λ r n. ap not n)
      old.operators (none_from_any (sql.is_row_by name) old.operators f)))) added
