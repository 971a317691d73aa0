-- A loop that removes a plan at each turn.
use Rattle.std.proofs.Common.{◌≡◌, ℕ, Bool, true, false, not, cond, ◌&&◌, ◌||◌, List, [], ◌∷◌, ◌++◌, refl, sym, ap, subst, ◌∙◌, Less, Equal, Greater}
use Rattle.std.specs.List.{filter, list_any}
use Rattle.std.specs.declared.cmp.Ordering.{Ordering}
use Rattle.std.specs.Ordering.{is_eq}
use Rattle.std.proofs.lemmas.List.{append-nil}
use Rattle.std.proofs.lemmas.List.Elements.{filter-append}
use Rattle.sqlite_value.specs.declared.value.Value.{Value}
use Rattle.sqlite_value.specs.declared.value.Value.TheVariants.{Text}
use Rattle.sqlite_value.proofs.OrderLemmas.{value_cmp_total}
use Rattle.sqlite.specs.Order.{Row, column, value_cmp}
use Rattle.desk_sql.specs.Rows.{Tables, is_text, is_row_by, is_of, is_not_of, left_without, RemovesPlan}
use Rattle.desk_changes.specs.RowChanges.{RemovesPlans, is_of_none, ids_stored}

-- ---- ids that a row has

is_equal : (n : Ordering) → is_eq n ≡ true → n ≡ Equal
is_equal Less f = cc
is_equal Equal f = refl
is_equal Greater f = cc

-- texts that one value is are the same to every value
same_text : (u v : Value) (s t : List ℕ) → is_text u s ≡ true → is_text u t ≡ true → is_text v t ≡ true
    → is_text v s ≡ true
same_text u v s t us ut vt =
    let texts : value_cmp (Text t) (Text s) ≡ Equal =
    sym (value_cmp_total.congr u (Text t) (Text s) (is_equal (value_cmp u (Text t)) ut))
    ∙ is_equal (value_cmp u (Text s)) us in
    ap is_eq (value_cmp_total.congr v (Text t) (Text s) (is_equal (value_cmp v (Text t)) vt) ∙ texts)

both : (a b : Bool) → a ≡ true → b ≡ true → (a && b) ≡ true
both true b h k = k
both false b h k = h

first : (a b : Bool) → (a && b) ≡ true → a ≡ true
first true b h = refl
first false b h = h

second : (a b : Bool) → (a && b) ≡ true → b ≡ true
second true b h = h
second false b h = cc

same_id : (operator id other : List ℕ) (q r : Row) → is_of operator other q ≡ true → is_of operator id q
    ≡ true → is_of operator id r ≡ true → is_of operator other r ≡ true
same_id operator id other q r one two three =
    both (is_row_by operator r) (is_text (column r 1) other)
    (first (is_row_by operator r) (is_text (column r 1) id) three)
    (same_text (column q 1) (column r 1) other id
    (second (is_row_by operator q) (is_text (column q 1) other) one)
    (second (is_row_by operator q) (is_text (column q 1) id) two)
    (second (is_row_by operator r) (is_text (column r 1) id) three))

-- ---- rows that are left

any_more : {X : Type 0} (test : X → Bool) (xs : List X) (x : X) → list_any test (xs ++ x ∷ [])
    ≡ (list_any test xs || test x)
any_more test [] x = by_test (test x) where
  by_test : (b : Bool) → (b || false) ≡ b
  by_test true = refl
  by_test false = refl
any_more test (y ∷ xs) x = by_test (test y) (any_more test xs x) where
  by_test : (b : Bool) → list_any test (xs ++ x ∷ []) ≡ (list_any test xs || test x)
      → (b || list_any test (xs ++ x ∷ [])) ≡ ((b || list_any test xs) || test x)
  by_test true h = refl
  by_test false h = h

filter_on : {X : Type 0} (p q : X → Bool) → ((x : X) → p x ≡ q x) → (xs : List X) → filter p xs
    ≡ filter q xs
filter_on p q same [] = refl
filter_on p q same (x ∷ xs) = λ i. cond (same x i) (x ∷ filter_on p q same xs i)
    (filter_on p q same xs i)

filter_twice : {X : Type 0} (p q : X → Bool) (xs : List X) → filter p (filter q xs)
    ≡ filter (λ x. q x && p x) xs
filter_twice p q [] = refl
filter_twice p q (x ∷ xs) = by_test (q x) (filter_twice p q xs) where
  by_test : (b : Bool) → filter p (filter q xs) ≡ filter (λ y. q y && p y) xs
      → filter p (cond b (x ∷ filter q xs) (filter q xs))
      ≡ cond (b && p x) (x ∷ filter (λ y. q y && p y) xs) (filter (λ y. q y && p y) xs)
  by_test true h = ap (λ ys. cond (p x) (x ∷ ys) ys) h
  by_test false h = h

neither : (a b : Bool) → (not a && not b) ≡ not (a || b)
neither true b = refl
neither false b = refl

not_more : (operator : List ℕ) (xs : List (List ℕ)) (id : List ℕ) (r : Row)
    → (is_of_none operator xs r && is_not_of operator id r) ≡ is_of_none operator (xs ++ id ∷ []) r
not_more operator xs id r = neither (list_any (λ x. is_of operator x r) xs) (is_of operator id r)
    ∙ ap not (sym (any_more (λ x. is_of operator x r) xs id))

-- rows of none of the ids, and then of none of one more
one_more : (operator : List ℕ) (xs : List (List ℕ)) (id : List ℕ) (rows : List Row)
    → filter (is_not_of operator id) (filter (is_of_none operator xs) rows)
    ≡ filter (is_of_none operator (xs ++ id ∷ [])) rows
one_more operator xs id rows = filter_twice (is_not_of operator id) (is_of_none operator xs) rows
    ∙ filter_on _ _ (not_more operator xs id) rows

-- ---- a plan that went before

-- a row of the id that goes with the other ids
abbrev WentBefore : List ℕ → List (List ℕ) → List ℕ → List Row → Type 0
WentBefore operator xs id plans =
    (q : Row) × (is_of operator id q ≡ true) × (list_any (λ x. is_of operator x q) xs ≡ true)
    × ((test : Row → Bool) → test q ≡ true → list_any test plans ≡ true)

or_true : (a b : Bool) → b ≡ true → (a || b) ≡ true
or_true true b h = refl
or_true false b h = h

or_false : (a b : Bool) → (a || b) ≡ false → b ≡ false
or_false true b h = cc
or_false false b h = h

not_both : (b : Bool) → b ≡ true → b ≡ false → ⊥
not_both true h k = cc
not_both false h k = cc

later : (operator : List ℕ) (xs : List (List ℕ)) (id : List ℕ) (p : Row) (plans : List Row)
    → WentBefore operator xs id plans → WentBefore operator xs id (p ∷ plans)
later operator xs id p plans (q, mine, gone, there) =
    (q, mine, gone, (λ test h. or_true (test p) (list_any test plans) (there test h)))

went_before : (operator : List ℕ) (xs : List (List ℕ)) (id : List ℕ) (plans : List Row)
    → list_any (is_of operator id) plans ≡ true → list_any (is_of operator id)
    (filter (is_of_none operator xs) plans) ≡ false → WentBefore operator xs id plans
went_before operator xs id [] any none = cc
went_before operator xs id (p ∷ plans) any none = by_tests (is_of operator id p)
    (list_any (λ x. is_of operator x p) xs) refl refl any none (went_before operator xs id plans) where
      by_tests : (a b : Bool) → is_of operator id p ≡ a → list_any (λ x. is_of operator x p) xs ≡ b
          → (a || list_any (is_of operator id) plans) ≡ true
          → list_any (is_of operator id) (cond (not b) (p ∷ filter (is_of_none operator xs) plans)
          (filter (is_of_none operator xs) plans)) ≡ false
          → (list_any (is_of operator id) plans ≡ true
          → list_any (is_of operator id) (filter (is_of_none operator xs) plans) ≡ false
          → WentBefore operator xs id plans) → WentBefore operator xs id (p ∷ plans)
      by_tests true true mine gone f n ih =
          (p, mine, gone, (λ test h. ap (λ b. b || list_any test plans) h))
      by_tests true false mine gone f n ih =
          absurd (not_both true refl
          (sym (ap (λ b. b || list_any (is_of operator id) (filter (is_of_none operator xs) plans))
          mine)
          ∙ n))
      by_tests false true mine gone f n ih = later operator xs id p plans (ih f n)
      by_tests false false mine gone f n ih = later operator xs id p plans
          (ih f (or_false (is_of operator id p) (list_any (is_of operator id)
          (filter (is_of_none operator xs) plans)) n))

-- so a row of the id is one of those others, if their plans are there
is_another : (operator : List ℕ) (xs : List (List ℕ)) (id : List ℕ) (q r : Row) (there : List ℕ → Bool)
    → ((x : List ℕ) → is_of operator x q ≡ true → there x ≡ true) → is_of operator id q ≡ true
    → is_of operator id r ≡ true
    → list_any (λ x. is_of operator x q) xs ≡ true
    → list_any (λ x. is_of operator x r) (filter there xs)
    ≡ true
is_another operator [] id q r there found mine is any = cc
is_another operator (x ∷ xs) id q r there found mine is any =
    by_tests (is_of operator x q) (there x) refl refl any
    (is_another operator xs id q r there found mine is)
  where
    by_tests : (a b : Bool) → is_of operator x q ≡ a → there x ≡ b
        → (a || list_any (λ y. is_of operator y q) xs) ≡ true
        → (list_any (λ y. is_of operator y q) xs ≡ true
        → list_any (λ y. is_of operator y r) (filter there xs)
        ≡ true)
        → list_any (λ y. is_of operator y r) (cond b (x ∷ filter there xs) (filter there xs)) ≡ true
    by_tests true true one here f ih = ap (λ b. b
        || list_any (λ y. is_of operator y r) (filter there xs))
        (same_id operator id x q r one mine is)
    by_tests true false one here f ih = absurd (not_both (there x) (found x one) here)
    by_tests false true one here f ih = or_true (is_of operator x r)
        (list_any (λ y. is_of operator y r) (filter there xs)) (ih f)
    by_tests false false one here f ih = ih f

-- ---- tables

module _ (operator : List ℕ) (xs : List (List ℕ)) (id : List ℕ) (a b : Tables) where
  abbrev has : List ℕ → Bool
  has x = list_any (is_of operator x) a.plans

  fewer : (plans : List Row) → list_any (is_of operator id) plans ≡ false
      → list_any (is_of operator id) (filter (is_of_none operator xs) plans) ≡ false
  fewer [] h = refl
  fewer (p ∷ plans) h = by_test (is_of_none operator xs p) (is_of operator id p) refl h (fewer plans)
    where
      by_test : (kept mine : Bool) → is_of operator id p ≡ mine
          → (mine || list_any (is_of operator id) plans)
          ≡ false
          → (list_any (is_of operator id) plans ≡ false
          → list_any (is_of operator id) (filter (is_of_none operator xs) plans) ≡ false)
          → list_any (is_of operator id) (cond kept (p ∷ filter (is_of_none operator xs) plans)
          (filter (is_of_none operator xs) plans)) ≡ false
      by_test kept true e f ih = cc
      by_test true false e f ih =
          ap (λ c. c || list_any (is_of operator id) (filter (is_of_none operator xs) plans)) e ∙ ih f
      by_test false false e f ih = ih f

  there_more : (c : Bool) → has id ≡ c → ids_stored operator (xs ++ id ∷ []) a ≡ ids_stored operator xs a
      ++ cond c (id ∷ []) []
  there_more c e = filter-append has xs (id ∷ []) ∙ ap (λ d. filter has xs ++ cond d (id ∷ []) []) e

  -- the rows that are left once the id's plan went too
  left : b.plans ≡ filter (is_of_none operator xs) a.plans → (old rows : List Row) → rows
      ≡ filter (is_of_none operator (ids_stored operator xs a)) old
      → left_without operator id b rows ≡ filter
      (is_of_none operator (ids_stored operator (xs ++ id ∷ []) a))
      old
  left plans old rows are = by_tests (has id) (list_any (is_of operator id) b.plans) refl refl where
    others : List (List ℕ)
    others = ids_stored operator xs a

    by_tests : (there still : Bool) → has id ≡ there → list_any (is_of operator id) b.plans ≡ still
        → cond still (filter (is_not_of operator id) rows) rows
        ≡ filter (is_of_none operator (ids_stored operator (xs ++ id ∷ []) a)) old
    by_tests true true e f = ap (filter (is_not_of operator id)) are ∙ one_more operator others id old
        ∙ sym (ap (λ ids. filter (is_of_none operator ids) old) (there_more true e))
    by_tests true false e f = are ∙ filter_on _ _ same old
        ∙ sym (ap (λ ids. filter (is_of_none operator ids) old) (there_more true e)) where
          before : WentBefore operator xs id a.plans
          before = went_before operator xs id a.plans e
              (ap (list_any (is_of operator id)) (sym plans) ∙ f)

          same : (r : Row) → is_of_none operator others r ≡ is_of_none operator (others ++ id ∷ []) r
          same r = ap not (by_row (list_any (λ x. is_of operator x r) others) (is_of operator id r) one
              ∙ sym (any_more (λ x. is_of operator x r) others id)) where
                one : is_of operator id r ≡ true → list_any (λ x. is_of operator x r) others ≡ true
                one is = is_another operator xs id before.0 r has (λ x h. before.3 (is_of operator x) h)
                    before.1 is
                    before.2

                by_row : (c d : Bool) → (d ≡ true → c ≡ true) → c ≡ (c || d)
                by_row true d h = refl
                by_row false true h = h refl
                by_row false false h = refl
    by_tests false true e f =
        absurd (not_both (list_any (is_of operator id) b.plans) f
        (ap (list_any (is_of operator id)) plans ∙ fewer a.plans e))
    by_tests false false e f = are
        ∙ sym (ap (λ ids. filter (is_of_none operator ids) old)
        (there_more false e ∙ append-nil others))

all_left : {X : Type 0} (xs : List X) → filter (λ x. true) xs ≡ xs
all_left [] = refl
all_left (x ∷ xs) = ap (λ ys. x ∷ ys) (all_left xs)

pub none_removed : (operator : List ℕ) (t : Tables) → RemovesPlans operator [] t t
none_removed operator t =
    sym (λ i. record {
      operators = t.operators;
      plans = all_left t.plans i;
      old_volumes = all_left t.old_volumes i;
      old_spans = all_left t.old_spans i;
      volumes = all_left t.volumes i;
      covers = all_left t.covers i;
      spans = all_left t.spans i;
    })

pub one_removed : (operator : List ℕ) (xs : List (List ℕ)) (id : List ℕ) (all : List (List ℕ)) → all
    ≡ xs
    ++ id ∷ [] → (a b c : Tables) → RemovesPlans operator xs a b → RemovesPlan operator id b c
    → RemovesPlans operator all a c
one_removed operator xs id all is a b c before step =
    subst (λ ids. RemovesPlans operator ids a c) (sym is)
    (step ∙ (λ i. record {
      operators = ap (λ (t : Tables). t.operators) before i;
      plans = (ap (filter (is_not_of operator id)) (ap (λ (t : Tables). t.plans) before)
          ∙ one_more operator xs id a.plans) i;
      old_volumes = left operator xs id a b (ap (λ (t : Tables). t.plans) before) a.old_volumes b.old_volumes
          (ap (λ (t : Tables). t.old_volumes) before) i;
      old_spans = left operator xs id a b (ap (λ (t : Tables). t.plans) before) a.old_spans b.old_spans
          (ap (λ (t : Tables). t.old_spans) before) i;
      volumes = left operator xs id a b (ap (λ (t : Tables). t.plans) before) a.volumes b.volumes
          (ap (λ (t : Tables). t.volumes) before) i;
      covers = left operator xs id a b (ap (λ (t : Tables). t.plans) before) a.covers b.covers
          (ap (λ (t : Tables). t.covers) before) i;
      spans = left operator xs id a b (ap (λ (t : Tables). t.plans) before) a.spans b.spans
          (ap (λ (t : Tables). t.spans) before) i;
    }))
