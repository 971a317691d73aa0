-- Plans shared out among their operators, one operator after the other.
use Rattle.std.proofs.Common.{◌≡◌, ℕ, ◌+◌, ◌≤◌, Bool, true, false, cond, Option, Some, None, List, [], ◌∷◌, length, drop, refl, sym, ap, subst, ◌∙◌, arith, suc, Less, Equal, Greater, IsTrue, is_some, true≢false}
use Rattle.std.specs.Prelude.{◌↔◌}
use Rattle.std.specs.List.{AllByRecursion, filter, find, prefix_len}
use Rattle.std.specs.List.Sorted.{IsStrictlySortedBy}
use Rattle.std.specs.Option.{option_map}
use Rattle.std.specs.declared.cmp.Ordering.{Ordering}
use Rattle.std.specs.Ordering.{is_eq, ordering_then}
use Rattle.std.specs.Cmp.Lexicographic.{nat_list_cmp_total}
use Rattle.std.proofs.lemmas.Map.Lookups.{exact_bytes}
use Rattle.std.proofs.lemmas.List.{length-map}
use Rattle.sqlite_keyed.proofs.ListLemmas.{filter_none}
use Rattle.desk_rules.specs.Limits.{max_plans}
use Rattle.desk_store.specs.World.{Filed, Listed, text_cmp, listed_cmp, filed_cmp, is_by, rows_by, ceiling_of, IsListed}
use Rattle.desk_store.proofs.lemmas.Order.{is_equal, all_weaker}
use Rattle.row_codec.specs.Tables.{HaveOperatorsAndRoom}
use Rattle.row_codec.proofs.lemmas.Order.{turned}

-- a name among those of operators
abbrev pub has_name : List ℕ → List Listed → Bool
has_name o ls = is_some (find (λ l. is_eq (text_cmp o l.name)) ls)

abbrev HasOperator : List Listed → Filed → Type 0
HasOperator ls p = has_name p.operator ls ≡ true

is_some_mapped : (found : Option Listed) → is_some (option_map (λ l. l.ceiling) found) ≡ is_some found
is_some_mapped None = refl
is_some_mapped (Some l) = refl

listed_if : (ls : List Listed) (ps : List Filed) (p : Filed) → HasOperator ls p
    → IsListed (record { operators = ls; plans = ps }) p
unfolding ceiling_of
listed_if ls ps p h = is_some_mapped (find (λ l. is_eq (text_cmp p.operator l.name)) ls) ∙ h

pub if_listed : (ls : List Listed) (ps : List Filed) (p : Filed)
    → IsListed (record { operators = ls; plans = ps }) p → HasOperator ls p
unfolding ceiling_of
if_listed ls ps p h = sym (is_some_mapped (find (λ l. is_eq (text_cmp p.operator l.name)) ls)) ∙ h

-- what is shared, in words that speak of one list alone
pub record Shares (ls : List Listed) (ps : List Filed) : Type 0 where
  pub listed : AllByRecursion (HasOperator ls) ps
  pub few : (operator : List ℕ) → length (filter (is_by operator) ps) ≤ max_plans

pub count_is : (o : List ℕ) (ps : List Filed) → length (rows_by o ps) ≡ length (filter (is_by o) ps)
count_is o ps = length-map (filter (is_by o) ps) (λ p. p.row)

pub shares_if : (ls : List Listed) (ps : List Filed) → HaveOperatorsAndRoom ls ps → Shares ls ps
shares_if ls ps h = record {
  listed = all_weaker (IsListed (record { operators = ls; plans = ps })) (HasOperator ls)
      (if_listed ls ps) ps
      h.listed;
  few = λ o. subst (λ n. n ≤ max_plans) (count_is o ps) (h.few o);
}

pub shared_if : (ls : List Listed) (ps : List Filed) → Shares ls ps → HaveOperatorsAndRoom ls ps
shared_if ls ps h = record {
  listed = all_weaker (HasOperator ls) (IsListed (record { operators = ls; plans = ps }))
      (listed_if ls ps) ps
      h.listed;
  few = λ o. subst (λ n. n ≤ max_plans) (sym (count_is o ps)) (h.few o);
}

-- ---- the first plans are an operator's

-- what is left of plans after the first that are the operator's
abbrev pub rest_of : List ℕ → List Filed → List Filed
rest_of o [] = []
rest_of o (p ∷ ps) = cond (is_by o p) (rest_of o ps) (p ∷ ps)

pub dropped : (o : List ℕ) (ps : List Filed) → drop (prefix_len (is_by o) ps) ps ≡ rest_of o ps
dropped o [] = refl
dropped o (p ∷ ps) = by_test (is_by o p) (dropped o ps) where
  by_test : (b : Bool) → drop (prefix_len (is_by o) ps) ps ≡ rest_of o ps
      → drop (cond b (1 + prefix_len (is_by o) ps) 0) (p ∷ ps) ≡ cond b (rest_of o ps) (p ∷ ps)
  by_test true ih = let next : suc (prefix_len (is_by o) ps) ≡ 1 + prefix_len (is_by o) ps = omega arith
      in subst (λ k. drop k (p ∷ ps) ≡ rest_of o ps) next ih
  by_test false ih = refl

counted : (o : List ℕ) (ps : List Filed) → length (filter (is_by o) ps)
    ≡ prefix_len (is_by o) ps + length (filter (is_by o) (rest_of o ps))
counted o [] = refl
counted o (p ∷ ps) = by_test (is_by o p) refl (counted o ps) where
  by_test : (b : Bool) → is_by o p ≡ b → length (filter (is_by o) ps)
      ≡ prefix_len (is_by o) ps + length (filter (is_by o) (rest_of o ps))
      → length (cond b (p ∷ filter (is_by o) ps) (filter (is_by o) ps))
      ≡ cond b (1 + prefix_len (is_by o) ps) 0 + length
      (filter (is_by o) (cond b (rest_of o ps) (p ∷ ps)))
  by_test true e ih = omega (arith, ih)
  by_test false e ih = rw e (omega arith)

-- another operator's plans are all left
pub others_left : (o q : List ℕ) (ps : List Filed) → is_eq (text_cmp q o) ≡ false → filter (is_by q) ps
    ≡ filter (is_by q) (rest_of o ps)
others_left o q [] e = refl
others_left o q (p ∷ ps) e = by_test (is_by o p) refl (others_left o q ps e) where
  not_this : is_by o p ≡ true → is_by q p ≡ false
  not_this f = ap (λ n. is_eq (text_cmp q n)) (sym
      (exact_bytes o p.operator (is_equal (text_cmp o p.operator) f))) ∙ e

  by_test : (b : Bool) → is_by o p ≡ b → filter (is_by q) ps ≡ filter (is_by q) (rest_of o ps)
      → filter (is_by q) (p ∷ ps) ≡ filter (is_by q) (cond b (rest_of o ps) (p ∷ ps))
  by_test true f ih = ap (λ c. cond c (p ∷ filter (is_by q) ps) (filter (is_by q) ps)) (not_this f) ∙ ih
  by_test false f ih = refl

-- ---- names of operators in order

abbrev pub Above : List ℕ → Filed → Type 0
Above o p = text_cmp o p.operator ≡ Less

names_above : (o : List ℕ) (ls : List Listed) (p : Filed)
    → AllByRecursion (λ k. text_cmp o k.name ≡ Less) ls
    → HasOperator ls p → Above o p
names_above o [] p h e = cc
names_above o (k ∷ ks) p h e = by_test (is_eq (text_cmp p.operator k.name)) refl e
    (names_above o ks p h.1)
  where
    by_test : (b : Bool) → is_eq (text_cmp p.operator k.name) ≡ b
        → is_some (cond b (Some k) (find (λ l. is_eq (text_cmp p.operator l.name)) ks)) ≡ true
        → (HasOperator ks p → Above o p) → Above o p
    by_test true f g ih =
        ap (text_cmp o) (exact_bytes p.operator k.name (is_equal (text_cmp p.operator k.name) f)) ∙ h.0
    by_test false f g ih = ih g

pub not_by : (o : List ℕ) (p : Filed) → Above o p → is_by o p ≡ false
not_by o p h = ap is_eq h

none_left : (o : List ℕ) (ls : List Listed) (ps : List Filed)
    → AllByRecursion (λ k. text_cmp o k.name ≡ Less) ls → AllByRecursion (HasOperator ls) ps
    → filter (is_by o) ps ≡ []
none_left o ls ps h k =
    filter_none (is_by o) ps (all_weaker (HasOperator ls) (λ p. is_by o p ≡ false)
    (λ p e. not_by o p (names_above o ls p h e)) ps k)

-- a name among operators is the first's or among the others'
later_name : (l : Listed) (ls : List Listed) (p : Filed) → HasOperator (l ∷ ls) p → is_by l.name p
    ≡ false
    → HasOperator ls p
later_name l ls p h e = by_test (is_eq (text_cmp p.operator l.name)) (turned p.operator l.name ∙ e) h
  where
    by_test : (b : Bool) → b ≡ false
        → is_some (cond b (Some l) (find (λ k. is_eq (text_cmp p.operator k.name)) ls)) ≡ true
        → HasOperator ls p
    by_test true f g = absurd (true≢false f)
    by_test false f g = g

name_later : (l : Listed) (ls : List Listed) (p : Filed) → HasOperator ls p → HasOperator (l ∷ ls) p
name_later l ls p h = by_test (is_eq (text_cmp p.operator l.name)) where
  by_test : (b : Bool) → is_some (cond b (Some l) (find (λ k. is_eq (text_cmp p.operator k.name)) ls))
      ≡ true
  by_test true = refl
  by_test false = h

name_first : (l : Listed) (ls : List Listed) (p : Filed) → is_by l.name p ≡ true
    → HasOperator (l ∷ ls) p
name_first l ls p e =
    ap (λ b. is_some (cond b (Some l) (find (λ k. is_eq (text_cmp p.operator k.name)) ls)))
    (turned p.operator l.name ∙ e)

all_listed : (l : Listed) (ls : List Listed) (ps : List Filed)
    → AllByRecursion (HasOperator ls) (rest_of l.name ps) → AllByRecursion (HasOperator (l ∷ ls)) ps
all_listed l ls [] h = tt
all_listed l ls (p ∷ ps) h = by_test (is_by l.name p) refl h (all_listed l ls ps) where
  by_test : (b : Bool) → is_by l.name p ≡ b → AllByRecursion (HasOperator ls)
      (cond b (rest_of l.name ps) (p ∷ ps)) → (AllByRecursion (HasOperator ls) (rest_of l.name ps)
      → AllByRecursion (HasOperator (l ∷ ls)) ps)
      → AllByRecursion (HasOperator (l ∷ ls)) (p ∷ ps)
  by_test true e k ih = (name_first l ls p e, ih k)
  by_test false e k ih = all_weaker (HasOperator ls) (HasOperator (l ∷ ls)) (λ q. name_later l ls q)
      (p ∷ ps)
      k

-- plans after one that is above a name are above it
pub above_on : (o : List ℕ) (p q : Filed) → Above o p → filed_cmp p q ≡ Less → Above o q
above_on o p q h e = by_names (text_cmp p.operator q.operator) refl e where
  by_names : (n : Ordering) → text_cmp p.operator q.operator ≡ n
      → ordering_then n (text_cmp p.row.id q.row.id) ≡ Less → Above o q
  by_names Less f g = nat_list_cmp_total.trans o p.operator q.operator h f
  by_names Equal f g = ap (text_cmp o) (sym (exact_bytes p.operator q.operator f)) ∙ h
  by_names Greater f g = cc

left_listed : (l : Listed) (ls : List Listed) (ps : List Filed)
    → AllByRecursion (λ k. text_cmp l.name k.name ≡ Less) ls → IsStrictlySortedBy filed_cmp ps
    → AllByRecursion (HasOperator (l ∷ ls)) ps → AllByRecursion (HasOperator ls) (rest_of l.name ps)
unfolding IsStrictlySortedBy
left_listed l ls [] h s k = tt
left_listed l ls (p ∷ ps) h s k = by_test (is_by l.name p) refl (left_listed l ls ps h s.1 k.1) where
  here : is_by l.name p ≡ false → HasOperator ls p
  here e = later_name l ls p k.0 e

  on : is_by l.name p ≡ false → AllByRecursion (Above l.name) ps
  on e = all_weaker (λ q. filed_cmp p q ≡ Less) (Above l.name)
      (λ q. above_on l.name p q (names_above l.name ls p h (here e))) ps s.0

  each : (qs : List Filed) → AllByRecursion (Above l.name) qs → AllByRecursion (HasOperator (l ∷ ls)) qs
      → AllByRecursion (HasOperator ls) qs
  each [] a b = tt
  each (q ∷ qs) a b = (later_name l ls q b.0 (not_by l.name q a.0), each qs a.1 b.1)

  by_test : (b : Bool) → is_by l.name p ≡ b → AllByRecursion (HasOperator ls) (rest_of l.name ps)
      → AllByRecursion (HasOperator ls) (cond b (rest_of l.name ps) (p ∷ ps))
  by_test true e ih = ih
  by_test false e ih = (here e, each ps (on e) k.1)

pub rest_sorted : (o : List ℕ) (ps : List Filed) → IsStrictlySortedBy filed_cmp ps
    → IsStrictlySortedBy filed_cmp (rest_of o ps)
unfolding IsStrictlySortedBy
rest_sorted o [] s = tt
rest_sorted o (p ∷ ps) s = by_test (is_by o p) (rest_sorted o ps s.1) where
  by_test : (b : Bool) → IsStrictlySortedBy filed_cmp (rest_of o ps)
      → IsStrictlySortedBy filed_cmp (cond b (rest_of o ps) (p ∷ ps))
  by_test true ih = ih
  by_test false ih = s

-- ---- one operator, and then the others

module _ (l : Listed) (ls : List Listed) (ps : List Filed)
    (above : AllByRecursion (λ k. text_cmp l.name k.name ≡ Less) ls) where
  by_name : (q : List ℕ) → (is_eq (text_cmp q l.name) ≡ true
      → length (filter (is_by l.name) ps) ≤ max_plans)
      → (is_eq (text_cmp q l.name) ≡ false → length (filter (is_by q) (rest_of l.name ps)) ≤ max_plans)
      → length (filter (is_by q) ps) ≤ max_plans
  by_name q same other = by_test (is_eq (text_cmp q l.name)) refl where
    by_test : (b : Bool) → is_eq (text_cmp q l.name) ≡ b → length (filter (is_by q) ps) ≤ max_plans
    by_test true e = subst (λ n. length (filter (is_by n) ps) ≤ max_plans)
        (sym (exact_bytes q l.name (is_equal (text_cmp q l.name) e))) (same e)
    by_test false e = subst (λ xs. length xs ≤ max_plans) (sym (others_left l.name q ps e)) (other e)

  pub share_all : prefix_len (is_by l.name) ps ≤ max_plans → Shares ls (rest_of l.name ps)
      → Shares (l ∷ ls) ps
  share_all few h = record {
    listed = all_listed l ls ps h.listed;
    few = λ q. by_name q (λ e. omega (
      arith,
      few,
      counted l.name ps,
      ap length
          (none_left l.name ls (rest_of l.name ps) above h.listed),
    )) (λ e. h.few q);
  }

  pub share_rest : IsStrictlySortedBy filed_cmp ps → Shares (l ∷ ls) ps → Shares ls (rest_of l.name ps)
  share_rest s h = record { listed = listed; few = λ q. by_test q (is_eq (text_cmp q l.name)) refl }
    where
      listed : AllByRecursion (HasOperator ls) (rest_of l.name ps)
      listed = left_listed l ls ps above s h.listed

      by_test : (q : List ℕ) (b : Bool) → is_eq (text_cmp q l.name) ≡ b
          → length (filter (is_by q) (rest_of l.name ps)) ≤ max_plans
      by_test q true e = subst (λ n. length (filter (is_by n) (rest_of l.name ps)) ≤ max_plans)
          (sym (exact_bytes q l.name (is_equal (text_cmp q l.name) e)))
          (subst (λ xs. length xs ≤ max_plans) (sym
          (none_left l.name ls (rest_of l.name ps) above listed))
          (omega arith))
      by_test q false e = subst (λ xs. length xs ≤ max_plans) (others_left l.name q ps e) (h.few q)

  pub share_few : Shares (l ∷ ls) ps → prefix_len (is_by l.name) ps ≤ max_plans
  share_few h = omega (arith, counted l.name ps, h.few l.name)

-- ---- the walk

-- the plans that are left are shared among the operators that are left if all are
pub record AreToShare (ls : List Listed) (ps : List Filed) (others : List Listed)
    (left : List Filed) : Type 0
  where
    pub names : IsStrictlySortedBy listed_cmp others
    pub keys : IsStrictlySortedBy filed_cmp left
    pub same : HaveOperatorsAndRoom ls ps ↔ Shares others left

pub begin : (ls : List Listed) (ps : List Filed) → IsStrictlySortedBy listed_cmp ls
    → IsStrictlySortedBy filed_cmp ps → AreToShare ls ps ls ps
begin ls ps names keys = record {
  names = names;
  keys = keys;
  same = (shares_if ls ps, shared_if ls ps);
}

module _ (ls : List Listed) (ps : List Filed) (others later : List Listed) (l : Listed)
    (left more : List Filed) (count : ℕ) (h : AreToShare ls ps others left) (some : others ≡ l ∷ later)
    (count_of : count ≡ prefix_len (is_by l.name) left) where
  sorted : IsStrictlySortedBy listed_cmp (l ∷ later)
  sorted = subst (IsStrictlySortedBy listed_cmp) some h.names

  above : AllByRecursion (λ k. text_cmp l.name k.name ≡ Less) later
  unfolding IsStrictlySortedBy
  above = sorted.0

  later_sorted : IsStrictlySortedBy listed_cmp later
  unfolding IsStrictlySortedBy
  later_sorted = sorted.1

  all_there : HaveOperatorsAndRoom ls ps → Shares (l ∷ later) left
  all_there k = subst (λ ks. Shares ks left) some (h.same.0 k)

  pub goes_on : count ≤ max_plans → more ≡ drop count left → AreToShare ls ps later more
  goes_on few more_is = record {
    names = later_sorted;
    keys = subst (IsStrictlySortedBy filed_cmp) (sym rest_is) (rest_sorted l.name left h.keys);
    same = (
      λ k. subst (Shares later) (sym rest_is) (share_rest l later left above h.keys (all_there k)),
      λ k. h.same.1 (subst (λ ks. Shares ks left) (sym some)
          (share_all l later left above (subst (λ n. n ≤ max_plans) count_of few)
          (subst (Shares later) rest_is k))),
    );
  } where
    rest_is : more ≡ rest_of l.name left
    rest_is = more_is ∙ ap (λ n. drop n left) count_of ∙ dropped l.name left

  pub stops : (count ≤ max_plans → ⊥) → IsTrue false ↔ HaveOperatorsAndRoom ls ps
  stops many = (
    λ t. absurd (true≢false (sym t)),
    λ k. absurd (many (subst (λ n. n ≤ max_plans) (sym count_of)
        (share_few l later left above (all_there k)))),
  )

nobody : (ps : List Filed) → Shares [] ps → ps ≡ []
nobody [] h = refl
nobody (p ∷ ps) h = let none : false ≡ true = h.listed.0 in absurd (true≢false (sym none))

nothing : Shares [] []
nothing = record { listed = tt; few = λ o. omega arith }

pub ends : (ls : List Listed) (ps : List Filed) (others : List Listed) (left : List Filed)
    → AreToShare ls ps others left → others ≡ [] → (r : Bool) → (IsTrue r → left ≡ [])
    → (left ≡ [] → IsTrue r) → IsTrue r ↔ HaveOperatorsAndRoom ls ps
ends ls ps others left h none r to from = (
  λ t. h.same.1 (subst (λ ks. Shares ks left) (sym none) (subst (Shares []) (sym (to t)) nothing)),
  λ k. from (nobody left (subst (λ ks. Shares ks left) none (h.same.0 k))),
)
