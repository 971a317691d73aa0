-- Plans in order, with proofs: a list of plans in order is the operators' plans one after the other.
use Rattle.std.proofs.Common.{◌≡◌, ℕ, Bool, true, false, cond, List, [], ◌∷◌, ◌++◌, map, refl, sym, ap, ◌∙◌, Less, Equal, Greater}
use Rattle.std.specs.List.{filter, AllByRecursion}
use Rattle.std.specs.declared.cmp.Ordering.{Ordering}
use Rattle.std.specs.Ordering.{ordering_then, ordering_reverse, is_eq, is_lt, is_gt, match_ordering}
use Rattle.std.specs.List.Sorted.{IsStrictlySortedBy}
use Rattle.std.specs.Cmp.Lexicographic.{nat_list_cmp_total}
use Rattle.std.proofs.lemmas.Cmp.{tied_itself}
use Rattle.std.proofs.lemmas.List.Kept.{IsStrictlySortedBy-filter}
use Rattle.std.proofs.lemmas.Map.Lookups.{exact_bytes}
use Rattle.desk_rules.specs.declared.plan.PlanRow.{PlanRow}
use Rattle.desk_store.specs.World.{Filed, rows_by, is_by, text_cmp, row_cmp, filed_cmp}
use Rattle.desk_store.specs.Changes.{put_row, put_filed, replaced, filed_by, is_before, is_after}

-- what holds of each of some elements
pub all_weaker :
    {A : Type 0} (P Q : A → Type 0) → ((x : A) → P x → Q x) → (xs : List A) → AllByRecursion P xs
    → AllByRecursion Q xs
all_weaker P Q h [] all = tt
all_weaker P Q h (x ∷ xs) all = (h x all.0, all_weaker P Q h xs all.1)

pub all_filter :
    {A : Type 0} (P : A → Type 0) (keeps : A → Bool) (xs : List A) → AllByRecursion P xs
    → AllByRecursion P (filter keeps xs)
all_filter P keeps [] all = tt
all_filter P keeps (x ∷ xs) all = by_test (keeps x) (all_filter P keeps xs all.1) where
  by_test :
      (b : Bool) → AllByRecursion P (filter keeps xs)
      → AllByRecursion P (cond b (x ∷ filter keeps xs) (filter keeps xs))
  by_test true ih = (all.0, ih)
  by_test false ih = ih

-- the test holds of those that it keeps
pub all_kept :
    {A : Type 0} (keeps : A → Bool) (xs : List A) → AllByRecursion (λ x. keeps x ≡ true) (filter keeps xs)
all_kept keeps [] = tt
all_kept keeps (x ∷ xs) = by_test (keeps x) refl (all_kept keeps xs) where
  by_test :
      (b : Bool) → keeps x ≡ b → AllByRecursion (λ y. keeps y ≡ true) (filter keeps xs)
      → AllByRecursion (λ y. keeps y ≡ true) (cond b (x ∷ filter keeps xs) (filter keeps xs))
  by_test true e ih = (e, ih)
  by_test false e ih = ih

pub all_append :
    {A : Type 0} (P : A → Type 0) (xs ys : List A) → AllByRecursion P xs → AllByRecursion P ys
    → AllByRecursion P (xs ++ ys)
all_append P [] ys h k = k
all_append P (x ∷ xs) ys h k = (h.0, all_append P xs ys h.1 k)

pub all_map :
    {A B : Type 0} (P : B → Type 0) (f : A → B) (xs : List A) → AllByRecursion (λ x. P (f x)) xs
    → AllByRecursion P (map f xs)
all_map P f [] h = tt
all_map P f (x ∷ xs) h = (h.0, all_map P f xs h.1)

pub all_any : {A : Type 0} (P : A → Type 0) → ((x : A) → P x) → (xs : List A) → AllByRecursion P xs
all_any P h [] = tt
all_any P h (x ∷ xs) = (h x, all_any P h xs)

-- two lists in order, the first before the second
sorted_append :
    {A : Type 0} (c : A → A → Ordering) (xs ys : List A) → IsStrictlySortedBy c xs → IsStrictlySortedBy c ys
    → AllByRecursion (λ x. AllByRecursion (λ y. c x y ≡ Less) ys) xs → IsStrictlySortedBy c (xs ++ ys)
unfolding IsStrictlySortedBy
sorted_append c [] ys s t h = t
sorted_append c (x ∷ xs) ys s t h =
    (all_append (λ y. c x y ≡ Less) xs ys s.0 h.0, sorted_append c xs ys s.1 t h.1)

-- a list whose order a function keeps
pub sorted_map :
    {A B : Type 0} (c : A → A → Ordering) (d : B → B → Ordering) (f : A → B)
    → ((x y : A) → c x y ≡ Less → d (f x) (f y) ≡ Less) → (xs : List A) → IsStrictlySortedBy c xs
    → IsStrictlySortedBy d (map f xs)
unfolding IsStrictlySortedBy
sorted_map c d f h [] s = tt
sorted_map c d f h (x ∷ xs) s = (
  all_map (λ y. d (f x) y ≡ Less) f xs
      (all_weaker (λ y. c x y ≡ Less) (λ y. d (f x) (f y) ≡ Less) (h x) xs s.0),
  sorted_map c d f h xs s.1,
)

-- every plan is after the operator's, or none is before them
abbrev AllAfter : List ℕ → List Filed → Type 0
AllAfter o ps = AllByRecursion (λ p. text_cmp o p.operator ≡ Less) ps

abbrev NoneBefore : List ℕ → List Filed → Type 0
NoneBefore o ps = AllByRecursion (λ p. is_before o p ≡ false) ps

before_none : (o : List ℕ) (ps : List Filed) → NoneBefore o ps → filter (is_before o) ps ≡ []
before_none o [] h = refl
before_none o (p ∷ ps) h = rw h.0 (before_none o ps h.1)

none_before : (o : List ℕ) (ps : List Filed) → AllAfter o ps → NoneBefore o ps
none_before o [] h = tt
none_before o (p ∷ ps) h = (rw h.0 refl, none_before o ps h.1)

rows_none : (o : List ℕ) (ps : List Filed) → AllAfter o ps → rows_by o ps ≡ []
rows_none o [] h = refl
rows_none o (p ∷ ps) h = rw h.0 (rows_none o ps h.1)

after_all : (o : List ℕ) (ps : List Filed) → AllAfter o ps → filter (is_after o) ps ≡ ps
after_all o [] h = refl
after_all o (p ∷ ps) h = rw h.0 (ap (λ qs. p ∷ qs) (after_all o ps h.1))

-- plans after the operator's, with rows before them
replaced_front :
    (o : List ℕ) (rows : List PlanRow) (ps : List Filed) → AllAfter o ps
    → replaced o rows ps ≡ map (filed_by o) rows ++ ps
replaced_front o rows ps h = rw (before_none o ps (none_before o ps h), after_all o ps h)

after_plan :
    (o : List ℕ) (p q : Filed) → text_cmp o p.operator ≡ Less → filed_cmp p q ≡ Less
    → text_cmp o q.operator ≡ Less
after_plan o p q h e = by_order (text_cmp p.operator q.operator) refl e where
  by_order :
      (n : Ordering) → text_cmp p.operator q.operator ≡ n → ordering_then n (row_cmp p.row q.row) ≡ Less
      → text_cmp o q.operator ≡ Less
  by_order Less l f = nat_list_cmp_total.trans o p.operator q.operator h l
  by_order Equal l f = ap (text_cmp o) (sym (exact_bytes p.operator q.operator l)) ∙ h
  by_order Greater l f = cc

not_before_plan :
    (o : List ℕ) (p q : Filed) → text_cmp o p.operator ≡ Equal → filed_cmp p q ≡ Less → is_before o q ≡ false
not_before_plan o p q h e = by_order (text_cmp p.operator q.operator) refl e where
  by_order :
      (n : Ordering) → text_cmp p.operator q.operator ≡ n → ordering_then n (row_cmp p.row q.row) ≡ Less
      → is_gt (text_cmp o q.operator) ≡ false
  by_order Less l f = rw (ap (λ n. text_cmp n q.operator) (exact_bytes o p.operator h), l) refl
  by_order Equal l f = rw (ap (λ n. text_cmp n q.operator) (exact_bytes o p.operator h), l) refl
  by_order Greater l f = cc

all_after :
    (o : List ℕ) (p : Filed) (ps : List Filed) → text_cmp o p.operator ≡ Less
    → AllByRecursion (λ q. filed_cmp p q ≡ Less) ps → AllAfter o ps
all_after o p ps l = all_weaker (λ q. filed_cmp p q ≡ Less) (λ q. text_cmp o q.operator ≡ Less)
    (λ q. after_plan o p q l) ps

none_before_plans :
    (o : List ℕ) (p : Filed) (ps : List Filed) → text_cmp o p.operator ≡ Equal
    → AllByRecursion (λ q. filed_cmp p q ≡ Less) ps → NoneBefore o ps
none_before_plans o p ps l =
    all_weaker (λ q. filed_cmp p q ≡ Less) (λ q. is_before o q ≡ false) (λ q. not_before_plan o p q l) ps

-- plans in order are those before the operator's, the operator's, and those after them
pub parts :
    (o : List ℕ) (ps : List Filed) → IsStrictlySortedBy filed_cmp ps → ps ≡ replaced o (rows_by o ps) ps
unfolding IsStrictlySortedBy
parts o [] s = refl
parts o (first ∷ rest) s = by_order (parts o rest s.1) (text_cmp o first.operator) refl where
  by_order :
      rest ≡ replaced o (rows_by o rest) rest → (n : Ordering) → text_cmp o first.operator ≡ n
      → first ∷ rest ≡ replaced o (rows_by o (first ∷ rest)) (first ∷ rest)
  by_order ih Less l = let all : AllAfter o (first ∷ rest) =
      (l, all_after o first rest l s.0) in sym (replaced_front o (rows_by o (first ∷ rest)) (first ∷ rest) all
      ∙ ap (λ rows. map (filed_by o) rows ++ (first ∷ rest)) (rows_none o (first ∷ rest) all))
  by_order ih Equal l =
      let b = before_none o rest (none_before_plans o first rest l s.0) in
      let same : first ≡ filed_by o first.row =
      λ i. record { operator = sym (exact_bytes o first.operator l) i; row = first.row } in
      rw (l, b) (ap (λ q. q ∷ rest) same ∙ ap (λ qs. filed_by o first.row ∷ qs) (rw b at ih))
  by_order ih Greater l = rw l (ap (λ qs. first ∷ qs) ih)

-- a row put among an operator's is a plan put among all
pub inserted :
    (o : List ℕ) (new : PlanRow) (ps : List Filed) → IsStrictlySortedBy filed_cmp ps
    → put_filed (filed_by o new) ps ≡ replaced o (put_row new (rows_by o ps)) ps
unfolding IsStrictlySortedBy
inserted o new [] s = refl
inserted o new (first ∷ rest) s = by_order (inserted o new rest s.1) (text_cmp o first.operator) refl where
  by_id : first ≡ filed_by o first.row → rest ≡ map (filed_by o) (rows_by o rest) ++ filter (is_after o) rest
      → put_filed (filed_by o new) rest ≡ map (filed_by o) (put_row new (rows_by o rest))
      ++ filter (is_after o) rest → (n : Ordering)
      → match_ordering n (filed_by o new ∷ first ∷ rest) (filed_by o new ∷ rest)
      (first ∷ put_filed (filed_by o new) rest)
      ≡ map (filed_by o) (match_ordering n (new ∷ first.row ∷ rows_by o rest) (new ∷ rows_by o rest)
      (first.row ∷ put_row new (rows_by o rest))) ++ filter (is_after o) rest
  by_id same tail ih Less = ap (λ qs. filed_by o new ∷ qs) (ap (λ q. q ∷ rest) same
      ∙ ap (λ qs. filed_by o first.row ∷ qs) tail)
  by_id same tail ih Equal = ap (λ qs. filed_by o new ∷ qs) tail
  by_id same tail ih Greater = ap (λ q. q ∷ put_filed (filed_by o new) rest) same
      ∙ ap (λ qs. filed_by o first.row ∷ qs) ih

  by_order : put_filed (filed_by o new) rest ≡ replaced o (put_row new (rows_by o rest)) rest → (n : Ordering)
      → text_cmp o first.operator ≡ n
      → match_ordering (ordering_then n (row_cmp new first.row)) (filed_by o new ∷ first ∷ rest)
      (filed_by o new ∷ rest) (first ∷ put_filed (filed_by o new) rest)
      ≡ replaced o (put_row new (rows_by o (first ∷ rest))) (first ∷ rest)
  by_order ih Less l =
      let all : AllAfter o (first ∷ rest) = (l, all_after o first rest l s.0) in
      sym (replaced_front o (put_row new (rows_by o (first ∷ rest))) (first ∷ rest) all
      ∙ ap (λ rows. map (filed_by o) (put_row new rows) ++ (first ∷ rest))
      (rows_none o (first ∷ rest) all))
  by_order ih Equal l =
      let b = before_none o rest (none_before_plans o first rest l s.0) in
      let same : first ≡ filed_by o first.row =
      λ k. record { operator = sym (exact_bytes o first.operator l) k; row = first.row } in
      rw (l, b) (by_id same (rw b at (parts o rest s.1)) (rw b at ih) (row_cmp new first.row))
  by_order ih Greater l = rw l (ap (λ qs. first ∷ qs) ih)

reverse_greater : (n m : Ordering) → n ≡ ordering_reverse m → is_gt m ≡ true → n ≡ Less
reverse_greater n Less e f = cc
reverse_greater n Equal e f = cc
reverse_greater n Greater e f = e

-- what is before an operator's name
pub before_name : (o : List ℕ) (p : Filed) → is_before o p ≡ true → text_cmp p.operator o ≡ Less
before_name o p e = reverse_greater (text_cmp p.operator o) (text_cmp o p.operator)
    (nat_list_cmp_total.antisymm p.operator o) e

is_less : (n : Ordering) → is_lt n ≡ true → n ≡ Less
is_less Less e = refl
is_less Equal e = cc
is_less Greater e = cc

-- a plan of an operator that comes first is first
by_names : (p q : Filed) → text_cmp p.operator q.operator ≡ Less → filed_cmp p q ≡ Less
by_names p q e = rw e refl

-- plans of one operator are ordered by their ids
pub by_ids : (p q : Filed) → text_cmp p.operator q.operator ≡ Equal → filed_cmp p q ≡ row_cmp p.row q.row
by_ids p q e = rw e refl

-- plans stay in order when an operator's are replaced by rows in order
pub replaced_sorted :
    (o : List ℕ) (rows : List PlanRow) (ps : List Filed) → IsStrictlySortedBy row_cmp rows
    → IsStrictlySortedBy filed_cmp ps → IsStrictlySortedBy filed_cmp (replaced o rows ps)
replaced_sorted o rows ps s t =
    sorted_append filed_cmp front (own ++ back) (IsStrictlySortedBy-filter filed_cmp (is_before o) ps t)
    (sorted_append filed_cmp own back own_sorted (IsStrictlySortedBy-filter filed_cmp (is_after o) ps t)
    (all_map (λ p. AllByRecursion (λ q. filed_cmp p q ≡ Less) back) (filed_by o) rows
    (all_any (λ r. AllByRecursion (λ q. filed_cmp (filed_by o r) q ≡ Less) back) own_first rows)))
    (all_weaker (λ p. is_before o p ≡ true)
    (λ p. AllByRecursion (λ q. filed_cmp p q ≡ Less) (own ++ back)) front_first front
    (all_kept (is_before o) ps)) where
      front : List Filed
      front = filter (is_before o) ps

      back : List Filed
      back = filter (is_after o) ps

      own : List Filed
      own = map (filed_by o) rows

      own_sorted : IsStrictlySortedBy filed_cmp own
      own_sorted = sorted_map row_cmp filed_cmp (filed_by o)
          (λ r q e. by_ids (filed_by o r) (filed_by o q) (tied_itself nat_list_cmp_total o) ∙ e) rows s

      own_first : (r : PlanRow) → AllByRecursion (λ q. filed_cmp (filed_by o r) q ≡ Less) back
      own_first r = all_weaker (λ q. is_after o q ≡ true) (λ q. filed_cmp (filed_by o r) q ≡ Less)
          (λ q e. by_names (filed_by o r) q (is_less (text_cmp o q.operator) e)) back
          (all_kept (is_after o) ps)

      front_first :
          (p : Filed) → is_before o p ≡ true → AllByRecursion (λ q. filed_cmp p q ≡ Less) (own ++ back)
      front_first p e =
          all_append (λ q. filed_cmp p q ≡ Less) own back
          (all_map (λ q. filed_cmp p q ≡ Less) (filed_by o) rows
          (all_any (λ r. filed_cmp p (filed_by o r) ≡ Less)
          (λ r. by_names p (filed_by o r) (before_name o p e)) rows))
          (all_weaker (λ q. is_after o q ≡ true) (λ q. filed_cmp p q ≡ Less)
          (λ q f. by_names p q (nat_list_cmp_total.trans p.operator o q.operator (before_name o p e)
          (is_less (text_cmp o q.operator) f))) back (all_kept (is_after o) ps))

-- what compares as equal is the ordering Equal
pub is_equal : (n : Ordering) → is_eq n ≡ true → n ≡ Equal
is_equal Less f = cc
is_equal Equal f = refl
is_equal Greater f = cc

-- the name of an operator whose plan it is
pub name_of : (o : List ℕ) (p : Filed) → is_by o p ≡ true → o ≡ p.operator
name_of o p e = exact_bytes o p.operator (is_equal (text_cmp o p.operator) e)

-- an operator's rows after a plan of its own
rows_after :
    (o : List ℕ) (p : Filed) (qs : List Filed) → o ≡ p.operator
    → AllByRecursion (λ q. filed_cmp p q ≡ Less) qs
    → AllByRecursion (λ r. row_cmp p.row r ≡ Less) (rows_by o qs)
rows_after o p [] e h = tt
rows_after o p (q ∷ qs) e h = by_test (is_by o q) refl (rows_after o p qs e h.1) where
  later : is_by o q ≡ true → row_cmp p.row q.row ≡ Less
  later f = sym (by_ids p q (ap (λ n. text_cmp n q.operator) (sym e) ∙ is_equal (text_cmp o q.operator) f))
      ∙ h.0

  by_test : (b : Bool) → is_by o q ≡ b → AllByRecursion (λ r. row_cmp p.row r ≡ Less) (rows_by o qs)
      → AllByRecursion (λ r. row_cmp p.row r ≡ Less)
      (map (λ t. t.row) (cond b (q ∷ filter (is_by o) qs) (filter (is_by o) qs)))
  by_test true f ih = (later f, ih)
  by_test false f ih = ih

-- an operator's rows ascend by id
pub rows_sorted :
    (o : List ℕ) (ps : List Filed) → IsStrictlySortedBy filed_cmp ps
    → IsStrictlySortedBy row_cmp (rows_by o ps)
unfolding IsStrictlySortedBy
rows_sorted o [] s = tt
rows_sorted o (p ∷ ps) s = by_test (is_by o p) refl (rows_sorted o ps s.1) where
  by_test :
      (b : Bool) → is_by o p ≡ b → IsStrictlySortedBy row_cmp (rows_by o ps)
      → IsStrictlySortedBy row_cmp (map (λ q. q.row) (cond b (p ∷ filter (is_by o) ps) (filter (is_by o) ps)))
  by_test true e ih = (rows_after o p ps (name_of o p e) s.0, ih)
  by_test false e ih = ih

-- a row put among rows after another
put_after :
    (r new : PlanRow) (qs : List PlanRow) → row_cmp r new ≡ Less → AllByRecursion (λ q. row_cmp r q ≡ Less) qs
    → AllByRecursion (λ q. row_cmp r q ≡ Less) (put_row new qs)
put_after r new [] l h = (l, tt)
put_after r new (q ∷ qs) l h = by_order (row_cmp new q) (put_after r new qs l h.1) where
  by_order : (n : Ordering) → AllByRecursion (λ t. row_cmp r t ≡ Less) (put_row new qs)
      → AllByRecursion (λ t. row_cmp r t ≡ Less)
      (match_ordering n (new ∷ q ∷ qs) (new ∷ qs) (q ∷ put_row new qs))
  by_order Less ih = (l, h)
  by_order Equal ih = (l, h.1)
  by_order Greater ih = (h.0, ih)

-- a row put among rows in order leaves them in order
pub put_sorted :
    (new : PlanRow) (rows : List PlanRow) → IsStrictlySortedBy row_cmp rows
    → IsStrictlySortedBy row_cmp (put_row new rows)
unfolding IsStrictlySortedBy
put_sorted new [] s = (tt, tt)
put_sorted new (r ∷ rs) s = by_order (row_cmp new r) refl (put_sorted new rs s.1) where
  by_order :
      (n : Ordering) → row_cmp new r ≡ n → IsStrictlySortedBy row_cmp (put_row new rs)
      → IsStrictlySortedBy row_cmp (match_ordering n (new ∷ r ∷ rs) (new ∷ rs) (r ∷ put_row new rs))
  by_order Less l ih = (
    (
      l,
      all_weaker (λ q. row_cmp r q ≡ Less) (λ q. row_cmp new q ≡ Less)
          (λ q h. nat_list_cmp_total.trans new.id r.id q.id l h) rs s.0,
    ),
    s,
  )
  by_order Equal l ih = (
    all_weaker (λ q. row_cmp r q ≡ Less) (λ q. row_cmp new q ≡ Less)
        (λ q h. ap (λ i. text_cmp i q.id) (exact_bytes new.id r.id l) ∙ h) rs s.0,
    s.1,
  )
  by_order Greater l ih = (
    put_after r new rs
        (reverse_greater (row_cmp r new) (row_cmp new r) (nat_list_cmp_total.antisymm r.id new.id)
        (ap is_gt l)) s.0,
    ih,
  )
