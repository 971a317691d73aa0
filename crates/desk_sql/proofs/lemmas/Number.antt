-- Rows whose rowids are whole numbers, none of them twice.
use Rattle.std.proofs.Common.{◌≡◌, ◌≢◌, ◌==◌, ℕ, ℤ, Bool, true, false, not, cond, ◌||◌, List, [], ◌∷◌, map, filter, refl, sym, ap, ap₂, ◌∙◌, Ordering, Less, Equal, Greater, true≢false}
use Rattle.std.specs.Ordering.{is_eq, ordering_reverse, match_ordering}
use Rattle.std.specs.List.{AllByRecursion, list_any}
use Rattle.std.specs.List.Sorted.{IsPermutation}
use Rattle.std.proofs.lemmas.List.Sorted.{IsPermutation-refl, IsPermutation-sym, IsPermutation-cons, IsPermutation-trans, IsPermutation-middle, list_any-IsPermutation}
use Rattle.std.proofs.lemmas.Cmp.{tied_itself}
use Rattle.std.proofs.lemmas.Bool.{eq-eqb}
use Rattle.sqlite.specs.Order.{Row, value_cmp}
use Rattle.sqlite.specs.Tree.{rowid, IsAscending, has_rowid, put_row, without_rowid}
use Rattle.sqlite.specs.View.{is_int}
use Rattle.sqlite.specs.Edit.{id_in, without_all, is_taken}
use Rattle.sqlite_rules.specs.Calls.{ids_of}
use Rattle.sqlite_rules.proofs.TableLemmas.{int_is}
use Rattle.sqlite_value.proofs.OrderLemmas.{value_cmp_total}
use Rattle.desk_sql.specs.Rows.{AreNumbered}

-- two numbers that are not the same: a proof by computing them alone
pub unequal : (a b : ℕ) → (a == b) ≡ false → a ≢ b
unequal a b other same = true≢false (sym (eq-eqb a b same) ∙ other)

abbrev pub IsApart : Row → Row → Type 0
IsApart a b = is_eq (value_cmp (rowid a) (rowid b)) ≡ false

pub all_both : {X : Type 0} (P Q R : X → Type 0) → ((x : X) → P x → Q x → R x) → (xs : List X)
    → AllByRecursion P xs → AllByRecursion Q xs → AllByRecursion R xs
all_both P Q R both [] p q = tt
all_both P Q R both (x ∷ xs) p q = (both x p.0 q.0, all_both P Q R both xs p.1 q.1)

pub all_kept : {X : Type 0} (P : X → Type 0) (q : X → Bool) (xs : List X) → AllByRecursion P xs
    → AllByRecursion P (filter q xs)
all_kept P q [] all = tt
all_kept P q (x ∷ xs) all =
    elim (q x) as (λ b. AllByRecursion P (cond b (x ∷ filter q xs) (filter q xs)))
    [ true ↦ (all.0, all_kept P q xs all.1) | false ↦ all_kept P q xs all.1 ]

pub reversed : (o : Ordering) → is_eq (ordering_reverse o) ≡ is_eq o
reversed Less = refl
reversed Equal = refl
reversed Greater = refl

pub turned : (a b : Row) → IsApart a b → IsApart b a
turned a b apart = ap is_eq (value_cmp_total.antisymm (rowid b) (rowid a))
    ∙ reversed (value_cmp (rowid a) (rowid b)) ∙ apart

pub has_is : (a b : Row) → is_int (rowid b) ≡ true → has_rowid (id_in (rowid b)) a
    ≡ is_eq (value_cmp (rowid a) (rowid b))
has_is a b whole = ap (λ v. is_eq (value_cmp (rowid a) v)) (sym (int_is (rowid b) whole))

-- ---- what a DELETE leaves

filter_twice : (a b : Row → Bool) (rows : List Row)
    → filter (λ r. not (a r)) (filter (λ r. not (b r)) rows)
    ≡ filter (λ r. not (b r || a r)) rows
filter_twice a b [] = refl
filter_twice a b (r ∷ rows) =
    let first = filter (λ r. not (b r)) rows in
    let both = filter (λ r. not (b r || a r)) rows in
    let more = filter_twice a b rows in
    elim (b r) as (λ x. filter (λ r. not (a r)) (cond (not x) (r ∷ first) first)
    ≡ cond (not (x || a r)) (r ∷ both) both)
    [ true ↦ more | false ↦ ap (λ xs. cond (not (a r)) (r ∷ xs) xs) more ]

pub without_is : (ids : List ℤ) (rows : List Row) → without_all rows ids
    ≡ filter (λ r. not (list_any (λ id. has_rowid id r) ids)) rows
without_is [] rows = sym (all_stay rows)
  where
    all_stay : (rows : List Row) → filter (λ r. true) rows ≡ rows
    all_stay [] = refl
    all_stay (r ∷ rows) = ap (λ xs. r ∷ xs) (all_stay rows)
without_is (id ∷ ids) rows = without_is ids (without_rowid id rows)
    ∙ filter_twice (λ r. list_any (λ id. has_rowid id r) ids) (has_rowid id) rows

pub filter_same_on : (p q : Row → Bool) (rows : List Row) → AllByRecursion (λ r. p r ≡ q r) rows
    → filter p rows ≡ filter q rows
filter_same_on p q [] same = refl
filter_same_on p q (r ∷ rows) same = ap₂ (λ b xs. cond b (r ∷ xs) xs) same.0
    (filter_same_on p q rows same.1)

-- x's rowid is that of r
abbrev pub hits : Row → Row → Bool
hits r x = has_rowid (id_in (rowid x)) r

none_hit : (r : Row) (xs : List Row) → AllByRecursion (λ x. hits r x ≡ false) xs → list_any (hits r) xs
    ≡ false
none_hit r [] all = refl
none_hit r (x ∷ xs) all = ap₂ (λ a b. a || b) all.0 (none_hit r xs all.1)

-- among the rows that pass, one has the rowid of r just where r passes
found : (p : Row → Bool) (rows : List Row) → AllByRecursion (λ r. is_int (rowid r) ≡ true) rows
    → IsAscending IsApart rows → AllByRecursion (λ r. list_any (hits r) (filter p rows) ≡ p r) rows
found p [] whole apart = tt
found p (x ∷ rows) whole apart =
    let others = all_both (λ y. is_int (rowid y) ≡ true) (IsApart x) (λ y. hits x y ≡ false)
    (λ y int far. has_is x y int ∙ far) rows whole.1 apart.0 in
    let none = none_hit x (filter p rows) (all_kept (λ y. hits x y ≡ false) p rows others) in
    let itself : hits x x ≡ true = has_is x x whole.0
    ∙ ap is_eq (tied_itself value_cmp_total (rowid x)) in
    let far = all_both (IsApart x) (λ y. list_any (hits y) (filter p rows) ≡ p y)
    (λ y. (hits y x ≡ false) × (list_any (hits y) (filter p rows) ≡ p y))
    (λ y away more. (has_is y x whole.0 ∙ turned x y away, more)) rows apart.0
    (found p rows whole.1 apart.1) in
    elim (p x) as (λ b. (list_any (hits x) (cond b (x ∷ filter p rows) (filter p rows)) ≡ b)
    × AllByRecursion (λ r. list_any (hits r) (cond b (x ∷ filter p rows) (filter p rows)) ≡ p r) rows) [
      | true ↦ (
        ap (λ b. b || list_any (hits x) (filter p rows)) itself,
        all_both (λ y. (hits y x ≡ false) × (list_any (hits y) (filter p rows) ≡ p y))
            (λ y. (hits y x ≡ false) × (list_any (hits y) (filter p rows) ≡ p y))
            (λ y. (hits y x || list_any (hits y) (filter p rows)) ≡ p y)
            (λ y a _. ap (λ b. b || list_any (hits y) (filter p rows)) a.0 ∙ a.1) rows far far,
      )
      | false ↦ (none, found p rows whole.1 apart.1)
    ]

pub any_map : {A B : Type 0} (q : B → Bool) (f : A → B) (xs : List A) → list_any q (map f xs)
    ≡ list_any (λ x. q (f x)) xs
any_map q f [] = refl
any_map q f (x ∷ xs) = ap (λ b. q (f x) || b) (any_map q f xs)

pub any_same : {A : Type 0} (p q : A → Bool) → ((x : A) → p x ≡ q x) → (xs : List A)
    → list_any p xs ≡ list_any q xs
any_same p q same [] = refl
any_same p q same (x ∷ xs) = ap₂ (λ a b. a || b) (same x) (any_same p q same xs)

-- the rows that were found go, and no other
pub removed : (p : Row → Bool) (rows shown : List Row) → AreNumbered rows
    → IsPermutation (map (λ r. rowid r ∷ []) (filter p rows)) shown → without_all rows (ids_of shown)
    ≡ filter (λ r. not (p r)) rows
removed p rows shown num same =
    without_is (ids_of shown) rows ∙ filter_same_on _ _ rows
    (all_both (λ r. list_any (hits r) (filter p rows) ≡ p r)
    (λ r. list_any (hits r) (filter p rows) ≡ p r)
    (λ r. not (list_any (λ id. has_rowid id r) (ids_of shown)) ≡ not (p r))
    (λ r is _. ap not (any_map (λ id. has_rowid id r) (λ x. id_in (rowid x)) shown
    ∙ sym (list_any-IsPermutation (hits r) _ shown same)
    ∙ any_map (hits r) (λ x. rowid x ∷ []) (filter p rows) ∙ is)) rows
    (found p rows num.whole num.distinct) (found p rows num.whole num.distinct))

ascends_kept : (q : Row → Bool) (rows : List Row) → IsAscending IsApart rows
    → IsAscending IsApart (filter q rows)
ascends_kept q [] up = tt
ascends_kept q (r ∷ rows) up =
    elim (q r) as (λ b. IsAscending IsApart (cond b (r ∷ filter q rows) (filter q rows))) [
      | true ↦ (all_kept (IsApart r) q rows up.0, ascends_kept q rows up.1)
      | false ↦ ascends_kept q rows
          up.1
    ]

pub numbered_kept : (q : Row → Bool) (rows : List Row) → AreNumbered rows → AreNumbered (filter q rows)
numbered_kept q rows num = record {
  whole = all_kept (λ r. is_int (rowid r) ≡ true) q rows num.whole;
  distinct = ascends_kept q rows num.distinct;
}

-- ---- what an INSERT leaves

or_parts : (a b : Bool) → (a || b) ≡ false → (a ≡ false) × (b ≡ false)
or_parts true b h = absurd (true≢false h)
or_parts false b h = (refl, h)

all_put : (P : Row → Type 0) (new : Row) (rows : List Row) → P new → AllByRecursion P rows
    → AllByRecursion P (put_row new rows)
all_put P new [] p all = (p, tt)
all_put P new (r ∷ rows) p all =
    elim (value_cmp (rowid r) (rowid new)) as (λ o. AllByRecursion P
    (match_ordering o (r ∷ put_row new rows) (new ∷ rows) (new ∷ r ∷ rows)))
    [ Less ↦ (all.0, all_put P new rows p all.1) | Equal ↦ (p, all.1) | Greater ↦ (p, all) ]

all_free : (new : Row) (rows : List Row) → is_taken rows new ≡ false
    → AllByRecursion (λ r. IsApart r new) rows
all_free new [] free = tt
all_free new (r ∷ rows) free = let parts = or_parts _ _ free in (parts.0, all_free new rows parts.1)

put_apart : (new : Row) (rows : List Row) → AllByRecursion (λ r. IsApart r new) rows
    → IsAscending IsApart rows → IsAscending IsApart (put_row new rows)
put_apart new [] free up = (tt, tt)
put_apart new (r ∷ rows) free up =
    let from_new = all_both (λ r. IsApart r new) (λ r. IsApart r new) (IsApart new)
    (λ r a _. turned r new a)
    rows free.1 free.1 in
    elim (value_cmp (rowid r) (rowid new)) as (λ o. IsAscending IsApart
    (match_ordering o (r ∷ put_row new rows) (new ∷ rows) (new ∷ r ∷ rows))) [
      | Less ↦ (all_put (IsApart r) new rows free.0 up.0, put_apart new rows free.1 up.1)
      | Equal ↦ (from_new, up.1)
      | Greater ↦ ((turned r new free.0, from_new), up)
    ]

pub numbered_put : (new : Row) (rows : List Row) → is_int (rowid new) ≡ true → is_taken rows new ≡ false
    → AreNumbered rows → AreNumbered (put_row new rows)
numbered_put new rows whole free num =
    record {
      whole = all_put (λ r. is_int (rowid r) ≡ true) new rows whole num.whole;
      distinct = put_apart new rows (all_free new rows free) num.distinct;
    }

put_is : (new : Row) (rows : List Row) → AllByRecursion (λ r. IsApart r new) rows
    → IsPermutation (new ∷ rows) (put_row new rows)
put_is new [] free = IsPermutation-refl _
put_is new (r ∷ rows) free = go (value_cmp (rowid r) (rowid new)) free.0 (put_is new rows free.1)
  where
    go : (o : Ordering) → is_eq o ≡ false → IsPermutation (new ∷ rows) (put_row new rows)
        → IsPermutation (new ∷ r ∷ rows) (match_ordering o (r ∷ put_row new rows) (new ∷ rows)
        (new ∷ r ∷ rows))
    go Less far more = IsPermutation-trans _ _ _ (IsPermutation-sym _ _
        (IsPermutation-middle (r ∷ []) new rows)) (IsPermutation-cons r _ _ more)
    go Equal far more = absurd (true≢false far)
    go Greater far more = IsPermutation-refl _

pub put_adds : (new : Row) (rows : List Row) → is_taken rows new ≡ false
    → IsPermutation (new ∷ rows) (put_row new rows)
put_adds new rows free = put_is new rows (all_free new rows free)
