-- An operator's row is set, or added where there is none.
use Rattle.std.proofs.Common.{◌≡◌, ◌<◌, ℕ, Bool, true, false, cond, ◌&&◌, ◌||◌, List, [], ◌∷◌, length, filter, refl, sym, ap, subst, ◌∙◌, arith, IsPermutation}
use Rattle.std.specs.List.{list_any}
use Rattle.std.proofs.lemmas.List.Sorted.{list_any-IsPermutation, IsPermutation-cons, IsPermutation-trans}
use Rattle.sqlite.specs.Order.{Row, column}
use Rattle.sqlite.specs.Effect.{Database}
use Rattle.desk_sql.specs.Rows.{Tables, AddsOperator, PutsOperator, SetsOperators, is_row_by, operator_row, tables_of, with_row}
use Rattle.desk_changes.specs.RowChanges.{OperatorsStayUnless}
use Rattle.desk_sql.specs.Changing.{FitsOperator, HasRowids, IsShort, LacksKey}
use Rattle.desk_sql.proofs.lemmas.Cascade.{null_is_none}
use Rattle.desk_sql.proofs.lemmas.Number.{any_same}

-- some row passes if and only if some are counted
some_if : (p : Row → Bool) (rows : List Row) → 0 < length (filter p rows) → list_any p rows ≡ true
some_if p [] few = absurd (omega (arith, few))
some_if p (r ∷ rows) few = go (p r) refl few (some_if p rows) where
  go : (b : Bool) → p r ≡ b → 0 < length (cond b (r ∷ filter p rows) (filter p rows))
      → (0 < length (filter p rows) → list_any p rows ≡ true) → (p r || list_any p rows) ≡ true
  go true is more later = ap (λ b. b || list_any p rows) is
  go false is more later = ap (λ b. b || list_any p rows) is ∙ later more

none_if : (p : Row → Bool) (rows : List Row) → length (filter p rows) ≡ 0 → list_any p rows ≡ false
none_if p [] none = refl
none_if p (r ∷ rows) none = go (p r) refl none (none_if p rows) where
  go : (b : Bool) → p r ≡ b → length (cond b (r ∷ filter p rows) (filter p rows)) ≡ 0
      → (length (filter p rows) ≡ 0 → list_any p rows ≡ false) → (p r || list_any p rows) ≡ false
  go true is more later = absurd (omega (arith, more))
  go false is more later = ap (λ b. b || list_any p rows) is ∙ later more

both_hold : (a : Bool) → (a && true) ≡ a
both_hold true = refl
both_hold false = refl

-- no row has the key of an operator that is not listed
lacks_key : (name : List ℕ) (ceiling : ℕ) (rows : List Row) → list_any (is_row_by name) rows ≡ false
    → LacksKey 1 (operator_row name ceiling) rows
lacks_key name ceiling rows none =
    any_same _ (is_row_by name) (λ r. both_hold _ ∙ null_is_none (column r 0) name) rows ∙ none

or_false : (a b : Bool) → (a || b) ≡ false → (a ≡ false) × (b ≡ false)
or_false true b h = cc
or_false false b h = (refl, h)

-- where no row passes, none is replaced
none_set : (p : Row → Bool) (row : Row) (rows : List Row) → list_any p rows ≡ false
    → with_row p row rows ≡ rows
none_set p row [] none = refl
none_set p row (r ∷ rows) none =
    let parts = or_false (p r) (list_any p rows) none in
    (λ i. cond (parts.0 i) row r ∷ none_set p row rows parts.1 i)

module _ (name : List ℕ) (ceiling count : ℕ) (t : Tables)
    (counted : count ≡ length (filter (is_row_by name) t.operators)) where
  -- a row was set
  pub puts_set : 0 < count → (u : Tables)
      → SetsOperators (is_row_by name) (operator_row name ceiling) t u → PutsOperator name ceiling t u
  puts_set some u set = (
    subst (λ b. IsPermutation (cond b (with_row (is_row_by name) (operator_row name ceiling) t.operators)
        (operator_row name ceiling ∷ t.operators)) u.operators)
        (sym (some_if (is_row_by name) t.operators (subst (λ n. 0 < n) counted some))) set.0,
    set.1,
  )

  -- none was there
  module _ (zero : count ≡ 0) (u : Tables)
      (set : SetsOperators (is_row_by name) (operator_row name ceiling) t u) where
    none : list_any (is_row_by name) t.operators ≡ false
    none = none_if (is_row_by name) t.operators (sym counted ∙ zero)

    same : IsPermutation t.operators u.operators
    same = subst (λ rows. IsPermutation rows u.operators)
        (none_set (is_row_by name) (operator_row name ceiling) t.operators none) set.0

    pub none_then : list_any (is_row_by name) u.operators ≡ false
    none_then = sym (list_any-IsPermutation (is_row_by name) t.operators u.operators same) ∙ none

    -- and one was added
    pub puts_added : (v : Tables) → AddsOperator (operator_row name ceiling) u v
        → PutsOperator name ceiling t v
    puts_added v add = (
      subst (λ b. IsPermutation (cond b (with_row (is_row_by name) (operator_row name ceiling) t.operators)
          (operator_row name ceiling ∷ t.operators)) v.operators) (sym none)
          (IsPermutation-trans _ _ _ (IsPermutation-cons (operator_row name ceiling) _ _ same) add.0),
      add.1 ∙ ap (λ (x : Tables). record x { operators = v.operators }) set.1,
    )

-- a row that was not there fits after the others were set
pub fits_unlisted : (name : List ℕ) (ceiling count : ℕ) (old new : Database)
    → count ≡ length (filter (is_row_by name) (tables_of old.trees).operators) → count ≡ 0
    → SetsOperators (is_row_by name) (operator_row name ceiling) (tables_of old.trees) (tables_of new.trees)
    → OperatorsStayUnless (is_row_by name) old.trees new.trees → IsShort name
    → HasRowids 1 (old.trees 0) → FitsOperator name (operator_row name ceiling) new
fits_unlisted name ceiling count old new counted zero set stays short room =
    let now = tables_of new.trees in
    let none = none_then name ceiling count (tables_of old.trees) counted zero now set in (
      short,
      (
        subst (HasRowids 1) (sym (stays (none_if (is_row_by name) (tables_of old.trees).operators
            (sym counted ∙ zero)))) room,
        lacks_key name ceiling now.operators none,
      ),
    )
