-- What is counted of operators, one after the other, and the most that one has.
use Rattle.std.proofs.Common.{◌≡◌, ◌⊎◌, inl, inr, ℕ, ◌+◌, ◌≤◌, Bool, true, false, cond, List, [], ◌∷◌, length, take, drop, refl, sym, ap, subst, ◌∙◌, arith, suc, Less, Equal, Greater}
use Rattle.std.specs.List.{AllByRecursion, filter, prefix_len, sum_by}
use Rattle.std.specs.List.Sorted.{IsStrictlySortedBy}
use Rattle.std.specs.declared.cmp.Ordering.{Ordering}
use Rattle.std.specs.Ordering.{is_eq, ordering_then}
use Rattle.std.specs.Cmp.Lexicographic.{nat_list_cmp_total}
use Rattle.std.proofs.lemmas.Cmp.{tied_itself}
use Rattle.std.proofs.lemmas.Map.Lookups.{exact_bytes}
use Rattle.sqlite_keyed.proofs.ListLemmas.{filter_none}
use Rattle.desk_rules.specs.Limits.{max_plans}
use Rattle.desk_rules.specs.declared.plan.PlanRow.{PlanRow}
use Rattle.desk_store.specs.World.{Filed, text_cmp, filed_cmp, is_by, rows_by}
use Rattle.desk_store.proofs.lemmas.Order.{is_equal, all_weaker}
use Rattle.row_codec.specs.SpanBounds.{IsMostOf, operator_count}
use Rattle.row_codec.proofs.lemmas.Share.{Above, above_on, count_is, dropped, not_by, others_left, rest_of, rest_sorted}

-- ---- the first plans are all of their operator's

above_next : (p q : Filed) (n : Ordering) → text_cmp p.operator q.operator ≡ n
    → ordering_then n (text_cmp p.row.id q.row.id) ≡ Less → is_eq n ≡ false → Above p.operator q
above_next p q Less f g e = f
above_next p q Equal f g e = cc
above_next p q Greater f g e = cc

none_later : (p : Filed) (ps : List Filed) → IsStrictlySortedBy filed_cmp (p ∷ ps)
    → filter (is_by p.operator) (rest_of p.operator ps) ≡ []
unfolding IsStrictlySortedBy
none_later p [] s = refl
none_later p (q ∷ qs) s = by_test (is_by p.operator q) refl (none_later q qs s.1) where
  above : is_by p.operator q ≡ false → AllByRecursion (Above p.operator) (q ∷ qs)
  above e =
      let first = above_next p q (text_cmp p.operator q.operator) refl s.0.0 e in (
        first,
        all_weaker (λ r. filed_cmp q r ≡ Less) (Above p.operator)
            (λ r. above_on p.operator q r first) qs s.1.0,
      )

  by_test : (b : Bool) → is_by p.operator q ≡ b
      → filter (is_by q.operator) (rest_of q.operator qs) ≡ []
      → filter (is_by p.operator) (cond b (rest_of p.operator qs) (q ∷ qs)) ≡ []
  by_test true e ih = subst (λ n. filter (is_by n) (rest_of n qs) ≡ [])
      (sym (exact_bytes p.operator q.operator (is_equal (text_cmp p.operator q.operator) e)))
      ih
  by_test false e ih = filter_none (is_by p.operator) (q ∷ qs)
      (all_weaker (Above p.operator) (λ r. is_by p.operator r ≡ false) (not_by p.operator) (q ∷ qs)
      (above e))

own_first : (o : List ℕ) (ps : List Filed) → filter (is_by o) (rest_of o ps) ≡ []
    → filter (is_by o) ps ≡ take (prefix_len (is_by o) ps) ps
own_first o [] e = refl
own_first o (p ∷ ps) e = by_test (is_by o p) refl e (own_first o ps) where
  by_test : (b : Bool) → is_by o p ≡ b → filter (is_by o) (cond b (rest_of o ps) (p ∷ ps)) ≡ []
      → (filter (is_by o) (rest_of o ps) ≡ [] → filter (is_by o) ps ≡ take (prefix_len (is_by o) ps) ps)
      → cond b (p ∷ filter (is_by o) ps) (filter (is_by o) ps)
      ≡ take (cond b (1 + prefix_len (is_by o) ps) 0) (p ∷ ps)
  by_test true f e ih = let next : suc (prefix_len (is_by o) ps) ≡ 1 + prefix_len (is_by o) ps = omega arith
      in subst (λ k. p ∷ filter (is_by o) ps ≡ take k (p ∷ ps)) next (ap (λ qs. p ∷ qs) (ih e))
  by_test false f e ih = subst (λ b. cond b (p ∷ filter (is_by o) ps) (filter (is_by o) ps) ≡ []) f e

itself : (o : List ℕ) → is_eq (text_cmp o o) ≡ true
itself o = ap is_eq (tied_itself nat_list_cmp_total o)

-- ---- the walk

module _ (count : PlanRow → ℕ) where
  -- what is counted of plans, and of an operator's
  abbrev pub total : List Filed → ℕ
  total ps = sum_by (λ p. count p.row) ps

  abbrev pub own_total : List ℕ → List Filed → ℕ
  own_total o ps = operator_count count o ps

  -- of each operator all plans are left, or none, and then it has no more than the most so far, which one has
  pub record AreSummed (ps left : List Filed) (most : ℕ) : Type 0 where
    pub keys : IsStrictlySortedBy filed_cmp left
    pub few : (o : List ℕ) → length (filter (is_by o) left) ≤ max_plans
    pub each : (o : List ℕ) → (own_total o ps ≡ own_total o left)
        ⊎ ((own_total o left ≡ 0) × (own_total o ps ≤ most))
    pub one : (most ≡ 0) ⊎ ((o : List ℕ) × (own_total o ps ≡ most))

  pub begin : (ps : List Filed) → IsStrictlySortedBy filed_cmp ps
      → ((o : List ℕ) → length (rows_by o ps) ≤ max_plans) → AreSummed ps ps 0
  begin ps keys few = record {
    keys = keys;
    few = λ o. subst (λ n. n ≤ max_plans) (count_is o ps) (few o);
    each = λ o. inl refl;
    one = inl refl;
  }

  module _ (ps left later mine rest : List Filed) (p : Filed) (most own : ℕ) (h : AreSummed ps left most)
      (some : left ≡ p ∷ rest) (own_count : own ≡ prefix_len (is_by p.operator) rest)
      (mine_is : mine ≡ take (1 + own) left) (later_is : later ≡ drop (1 + own) left) where
    first_own : is_by p.operator p ≡ true
    first_own = itself p.operator

    all_of : 1 + own ≡ prefix_len (is_by p.operator) left
    all_of = ap (λ n. 1 + n) own_count ∙ sym (ap (prefix_len (is_by p.operator)) some
        ∙ ap (λ b. cond b (1 + prefix_len (is_by p.operator) rest) 0) first_own)

    rest_is : later ≡ rest_of p.operator left
    rest_is = later_is ∙ ap (λ n. drop n left) all_of ∙ dropped p.operator left

    sorted : IsStrictlySortedBy filed_cmp (p ∷ rest)
    sorted = subst (IsStrictlySortedBy filed_cmp) some h.keys

    none_left : filter (is_by p.operator) later ≡ []
    none_left = ap (filter (is_by p.operator)) (rest_is ∙ ap (rest_of p.operator) some
        ∙ ap (λ b. cond b (rest_of p.operator rest) (p ∷ rest)) first_own) ∙ none_later p rest sorted

    own_is : filter (is_by p.operator) left ≡ mine
    own_is = own_first p.operator left (ap (filter (is_by p.operator)) (sym rest_is) ∙ none_left)
        ∙ sym (mine_is ∙ ap (λ n. take n left) all_of)

    pub mine_few : length mine ≤ max_plans
    mine_few = subst (λ xs. length xs ≤ max_plans) own_is (h.few p.operator)

    others : (o : List ℕ) → is_eq (text_cmp o p.operator) ≡ false
        → filter (is_by o) left ≡ filter (is_by o) later
    others o e = others_left p.operator o left e ∙ ap (filter (is_by o)) (sym rest_is)

    module _ (new spans : ℕ) (spans_are : spans ≡ total mine) (no_less : most ≤ new) (mine_less : spans ≤ new)
        (which : (new ≡ most) ⊎ (new ≡ spans)) where
      theirs : (o : List ℕ) → (b : Bool) → is_eq (text_cmp o p.operator) ≡ b
          → (own_total o ps ≡ own_total o later)
          ⊎ ((own_total o later ≡ 0) × (own_total o ps ≤ new))
      theirs o true e = inr (ap total (subst (λ n. filter (is_by n) later ≡ []) (sym same) none_left), bound)
        where
          same : o ≡ p.operator
          same = exact_bytes o p.operator (is_equal (text_cmp o p.operator) e)

          is_sum : own_total o left ≡ total mine
          is_sum = ap total (subst (λ n. filter (is_by n) left ≡ mine) (sym same) own_is)

          bound : own_total o ps ≤ new
          bound = by_cases (h.each o) where
            by_cases : (own_total o ps ≡ own_total o left)
                ⊎ ((own_total o left ≡ 0) × (own_total o ps ≤ most)) → own_total o ps ≤ new
            by_cases (inl all) = omega (arith, all, is_sum, spans_are, mine_less)
            by_cases (inr done) = omega (arith, done.1, no_less)
      theirs o false e = by_cases (h.each o) where
        same : own_total o left ≡ own_total o later
        same = ap total (others o e)

        by_cases : (own_total o ps ≡ own_total o left)
            ⊎ ((own_total o left ≡ 0) × (own_total o ps ≤ most))
            → (own_total o ps ≡ own_total o later)
            ⊎ ((own_total o later ≡ 0) × (own_total o ps ≤ new))
        by_cases (inl all) = inl (all ∙ same)
        by_cases (inr done) = inr (sym same ∙ done.0, omega (arith, done.1, no_less))

      some_one : (new ≡ most) ⊎ (new ≡ spans)
          → (new ≡ 0) ⊎ ((o : List ℕ) × (own_total o ps ≡ new))
      some_one (inl old) = by_cases h.one where
        by_cases : (most ≡ 0) ⊎ ((o : List ℕ) × (own_total o ps ≡ most))
            → (new ≡ 0) ⊎ ((o : List ℕ) × (own_total o ps ≡ new))
        by_cases (inl none) = inl (old ∙ none)
        by_cases (inr has) = inr (has.0, has.1 ∙ sym old)
      some_one (inr fresh) = by_cases (h.each p.operator) where
        by_cases : (own_total p.operator ps ≡ own_total p.operator left)
            ⊎ ((own_total p.operator left ≡ 0) × (own_total p.operator ps ≤ most))
            → (new ≡ 0) ⊎ ((o : List ℕ) × (own_total o ps ≡ new))
        by_cases (inl all) = inr (p.operator, all ∙ ap total own_is ∙ sym (fresh ∙ spans_are))
        by_cases (inr done) = inl (fresh ∙ spans_are ∙ sym (ap total own_is) ∙ done.0)

      pub goes_on : AreSummed ps later new
      goes_on = record {
        keys = subst (IsStrictlySortedBy filed_cmp) (sym rest_is) (rest_sorted p.operator left h.keys);
        few = λ o. few_of o (is_eq (text_cmp o p.operator)) refl;
        each = λ o. theirs o (is_eq (text_cmp o p.operator)) refl;
        one = some_one which;
      } where
        few_of : (o : List ℕ) (b : Bool) → is_eq (text_cmp o p.operator) ≡ b
            → length (filter (is_by o) later) ≤ max_plans
        few_of o true e = subst (λ xs. length xs ≤ max_plans) (sym (subst (λ n. filter (is_by n) later ≡ [])
            (sym (exact_bytes o p.operator (is_equal (text_cmp o p.operator) e))) none_left)) (omega arith)
        few_of o false e = subst (λ xs. length xs ≤ max_plans) (others o e) (h.few o)

  pub ends : (ps left : List Filed) (most : ℕ) → AreSummed ps left most → left ≡ [] → IsMostOf count ps most
  ends ps left most h none = record { none_more = λ o. by_cases o (h.each o); one = h.one } where
    nothing : (o : List ℕ) → own_total o left ≡ 0
    nothing o = ap (λ xs. own_total o xs) none

    by_cases : (o : List ℕ) → (own_total o ps ≡ own_total o left)
        ⊎ ((own_total o left ≡ 0) × (own_total o ps ≤ most)) → own_total o ps ≤ most
    by_cases o (inl all) = omega (arith, all, nothing o)
    by_cases o (inr done) = done.1
