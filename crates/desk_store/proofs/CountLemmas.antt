-- The counts of plans that a store in memory keeps.
use Rattle.std.proofs.Common.{◌≡◌, ℕ, Bool, true, false, cond, List, [], ◌∷◌, length, map, Option, Some, None, refl, sym, ap, subst, ◌∙◌, Less, Equal, Greater}
use Rattle.std.specs.List.{AllByRecursion}
use Rattle.std.specs.Option.{option_map, unwrap_or}
use Rattle.std.specs.declared.cmp.Ordering.{Ordering}
use Rattle.std.specs.Ordering.{is_eq, ordering_reverse, match_ordering}
use Rattle.std.specs.Cmp.Lexicographic.{nat_list_cmp_total}
use Rattle.std.specs.BTreeMap.{insert_entry, is_at}
use Rattle.std.specs.Map.{lookup, set_value, keys_of}
use Rattle.std.specs.List.Sorted.{IsStrictlySortedBy}
use Rattle.std.proofs.lemmas.Map.Lookups.{exact_bytes}
use Rattle.desk_store.specs.declared.list.CeilingEntry.{CeilingEntry}
use Rattle.desk_store.specs.World.{Filed, text_cmp, rows_by, ceiling_of, PlanParts, listed_of, filed_all, world_in_lists, AreCounted, IsStore, with_count}
use Rattle.desk_store.proofs.lemmas.Order.{is_equal, all_weaker}
use Rattle.desk_store.proofs.lemmas.World.{unlisted_none}
use Rattle.desk_store.proofs.EntryLemmas.{Key}
use Rattle.desk_store.proofs.StoreLemmas.{ceiling_found}

-- the count of an operator that is found
found_count : (o : List ℕ) (es : List (List ℕ × CeilingEntry)) (ps : List Filed) (e : CeilingEntry)
    → AreCounted es ps → lookup (is_at (text_cmp o)) es ≡ Some e → e.plan_count ≡ length (rows_by o ps)
found_count o [] ps e h f = cc
found_count o (d ∷ es) ps e h f = by_test (is_eq (text_cmp o d.0)) refl f (found_count o es ps e h.1)
  where
    is : ◌≡◌ {A = Option CeilingEntry} (Some d.1) (Some e) → e ≡ d.1
    is g = cc

    by_test : (b : Bool) → is_eq (text_cmp o d.0) ≡ b
        → cond b (Some d.1) (lookup (is_at (text_cmp o)) es)
        ≡ Some e → (lookup (is_at (text_cmp o)) es ≡ Some e → e.plan_count ≡ length (rows_by o ps))
        → e.plan_count ≡ length (rows_by o ps)
    by_test true t g ih = ap (λ x. x.plan_count) (is g) ∙ h.0
        ∙ ap (λ n. length (rows_by n ps)) (sym (exact_bytes o d.0 (is_equal (text_cmp o d.0) t)))
    by_test false t g ih = ih g

-- an operator's count is how many plans it has, listed or not
pub count_is : (o : List ℕ) (es : List (List ℕ × CeilingEntry)) (plans : List (Key × PlanParts))
    → IsStore es plans → unwrap_or (option_map (λ e. e.plan_count) (lookup (is_at (text_cmp o)) es)) 0
    ≡ length (rows_by o (filed_all plans))
unfolding ceiling_of
count_is o es plans h = by_found (lookup (is_at (text_cmp o)) es) refl where
  by_found : (found : Option CeilingEntry) → lookup (is_at (text_cmp o)) es ≡ found
      → unwrap_or (option_map (λ e. e.plan_count) found) 0 ≡ length (rows_by o (filed_all plans))
  by_found None f = sym
      (ap length (unlisted_none o (world_in_lists es plans) h.0.world
      (sym (ceiling_found o es) ∙ ap (option_map (λ e. e.ceiling)) f)))
  by_found (Some e) f = found_count o es (filed_all plans) e h.1 f

unequal : (a b : List ℕ) → is_eq (text_cmp b a) ≡ false → is_eq (text_cmp a b) ≡ false
unequal a b e = ap is_eq (nat_list_cmp_total.antisymm a b) ∙ by_order (text_cmp b a) e where
  by_order : (n : Ordering) → is_eq n ≡ false → is_eq (ordering_reverse n) ≡ false
  by_order Less f = refl
  by_order Equal f = cc
  by_order Greater f = refl

-- the counts stay where the numbers of plans do
pub counts_stay : (es : List (List ℕ × CeilingEntry)) (ps qs : List Filed)
    → ((o : List ℕ) → length (rows_by o qs) ≡ length (rows_by o ps)) → AreCounted es ps
    → AreCounted es qs
counts_stay es ps qs same = all_weaker (λ e. e.1.plan_count ≡ length (rows_by e.0 ps))
    (λ e. e.1.plan_count ≡ length (rows_by e.0 qs)) (λ e h. h ∙ sym (same e.0)) es

-- and where the one that changes is replaced
pub count_replaced : (o : List ℕ) (n : ℕ) (es : List (List ℕ × CeilingEntry)) (ps qs : List Filed) → n
    ≡ length (rows_by o qs) → ((q : List ℕ) → is_eq (text_cmp q o) ≡ false → rows_by q qs
    ≡ rows_by q ps)
    → AreCounted es ps → AreCounted (with_count o n es) qs
count_replaced o n [] ps qs is same h = tt
count_replaced o n (e ∷ es) ps qs is same h =
    (by_test (is_eq (text_cmp o e.0)) refl, count_replaced o n es ps qs is same h.1) where
      new : CeilingEntry
      new = record e.1 { plan_count = n }

      by_test : (b : Bool) → is_eq (text_cmp o e.0) ≡ b → (cond b (e.0, new) e).1.plan_count
          ≡ length (rows_by (cond b (e.0, new) e).0 qs)
      by_test true t = is ∙ ap (λ m. length (rows_by m qs))
          (exact_bytes o e.0 (is_equal (text_cmp o e.0) t))
      by_test false t = h.0 ∙ sym (ap length (same e.0 (unequal e.0 o t)))

-- an operator enrolled with its count
pub count_enrolled : (o : List ℕ) (new : CeilingEntry) (es : List (List ℕ × CeilingEntry)) (ps : List Filed)
    → new.plan_count ≡ length (rows_by o ps) → AreCounted es ps
    → AreCounted (insert_entry text_cmp es o new) ps
count_enrolled o new [] ps is h = (is, tt)
count_enrolled o new (e ∷ es) ps is h = by_order (text_cmp o e.0) refl
    (count_enrolled o new es ps is h.1)
  where
    by_order : (n : Ordering) → text_cmp o e.0 ≡ n → AreCounted (insert_entry text_cmp es o new) ps
        → AreCounted (match_ordering n ((o, new) ∷ e ∷ es) ((e.0, new) ∷ es)
        (e ∷ insert_entry text_cmp es o new)) ps
    by_order Less l ih = (is, h)
    by_order Equal l ih = (is ∙ ap (λ m. length (rows_by m ps)) (exact_bytes o e.0 l), h.1)
    by_order Greater l ih = (h.0, ih)

-- a count replaced leaves the operators listed as they are
pub listed_same : (o : List ℕ) (n : ℕ) (es : List (List ℕ × CeilingEntry))
    → map listed_of (with_count o n es)
    ≡ map listed_of es
listed_same o n [] = refl
listed_same o n (e ∷ es) = λ k. by_test (is_eq (text_cmp o e.0)) k ∷ listed_same o n es k where
  by_test : (b : Bool) → listed_of (cond b (e.0, record e.1 { plan_count = n }) e) ≡ listed_of e
  by_test true = refl
  by_test false = refl

less_is_not : (n : Ordering) → n ≡ Less → is_eq n ≡ false
less_is_not Less e = refl
less_is_not Equal e = cc
less_is_not Greater e = cc

none_later : (o : List ℕ) (n : ℕ) (es : List (List ℕ × CeilingEntry))
    → AllByRecursion (λ k. text_cmp o k ≡ Less) (keys_of es) → with_count o n es ≡ es
none_later o n [] h = refl
none_later o n (e ∷ es) h = λ k. cond (less_is_not (text_cmp o e.0) h.0 k)
    (e.0, record e.1 { plan_count = n }) e ∷ none_later o n es h.1 k

-- what is written through a look-up of the operator
pub count_written : (o : List ℕ) (n : ℕ) (found : CeilingEntry) (es : List (List ℕ × CeilingEntry))
    → IsStrictlySortedBy text_cmp (keys_of es) → lookup (is_at (text_cmp o)) es ≡ Some found
    → set_value (is_at (text_cmp o)) es (record found { plan_count = n }) ≡ with_count o n es
unfolding IsStrictlySortedBy
count_written o n found [] s f = cc
count_written o n found (e ∷ es) s f = by_test (is_eq (text_cmp o e.0)) refl f
    (count_written o n found es s.1) where
      left : List (List ℕ × CeilingEntry)
      left = set_value (is_at (text_cmp o)) es (record found { plan_count = n })

      is : ◌≡◌ {A = Option CeilingEntry} (Some e.1) (Some found) → found ≡ e.1
      is g = cc

      by_test : (b : Bool) → is_eq (text_cmp o e.0) ≡ b
          → cond b (Some e.1) (lookup (is_at (text_cmp o)) es)
          ≡ Some found → (lookup (is_at (text_cmp o)) es ≡ Some found → left ≡ with_count o n es)
          → cond b ((e.0, record found { plan_count = n }) ∷ es) (e ∷ left)
          ≡ cond (is_eq (text_cmp o e.0)) (e.0, record e.1 { plan_count = n }) e ∷ with_count o n es
      by_test true t g ih =
          let after = subst (λ m. AllByRecursion (λ j. text_cmp m j ≡ Less) (keys_of es))
          (sym (exact_bytes o e.0 (is_equal (text_cmp o e.0) t))) s.0 in
          ap (λ d. (e.0, record d { plan_count = n }) ∷ es) (is g)
          ∙ (λ k. cond (sym t k) (e.0, record e.1 { plan_count = n }) e
          ∷ sym (none_later o n es after) k)
      by_test false t g ih = λ k. cond (sym t k) (e.0, record e.1 { plan_count = n }) e ∷ ih g k

pub count_unwritten : (o : List ℕ) (n : ℕ) (es : List (List ℕ × CeilingEntry))
    → lookup (is_at (text_cmp o)) es
    ≡ None → es ≡ with_count o n es
count_unwritten o n [] f = refl
count_unwritten o n (e ∷ es) f = by_test (is_eq (text_cmp o e.0)) refl f (count_unwritten o n es) where
  by_test : (b : Bool) → is_eq (text_cmp o e.0) ≡ b → cond b (Some e.1) (lookup (is_at (text_cmp o)) es)
      ≡ None → (lookup (is_at (text_cmp o)) es ≡ None → es ≡ with_count o n es) → e ∷ es
      ≡ cond (is_eq (text_cmp o e.0)) (e.0, record e.1 { plan_count = n }) e ∷ with_count o n es
  by_test true t g ih = cc
  by_test false t g ih = λ k. cond (sym t k) (e.0, record e.1 { plan_count = n }) e ∷ ih g k
