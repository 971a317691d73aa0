-- The operators of a roll that have a ceiling are those of its world, in the same order.
use Rattle.std.proofs.Common.{◌≡◌, ℕ, Bool, true, false, cond, List, [], ◌∷◌, ◌++◌, Option, Some, None, refl, sym, ap, ◌∙◌, Less, Equal, Greater}
use Rattle.std.specs.List.{AllByRecursion, find}
use Rattle.std.specs.List.Sorted.{IsStrictlySortedBy}
use Rattle.std.specs.Option.{option_and_then, option_map}
use Rattle.std.specs.declared.cmp.Ordering.{Ordering}
use Rattle.std.specs.Ordering.{is_eq, ordering_reverse}
use Rattle.std.specs.Cmp.Lexicographic.{nat_list_cmp_total}
use Rattle.std.specs.Map.{keys_of}
use Rattle.std.proofs.lemmas.Cmp.{tied_itself}
use Rattle.std.proofs.lemmas.List.{append-nil, append_assoc}
use Rattle.std.proofs.lemmas.Map.Lookups.{exact_bytes}
use Rattle.desk_store.specs.World.{Filed, Listed, listed_cmp, text_cmp}
use Rattle.operator_index.specs.declared.account.OperatorEntry.{OperatorEntry}
use Rattle.operator_index.specs.Roll.{Accounts, AreAccountsOf, account_in, ceiling_in, listed_in, listed_if_enrolled}

abbrev ceiling_listed : List ℕ → List Listed → Option ℕ
ceiling_listed name ls = option_map (λ l. l.ceiling) (find (λ l. is_eq (text_cmp name l.name)) ls)

itself : (o : List ℕ) → is_eq (text_cmp o o) ≡ true
itself o = ap is_eq (tied_itself nat_list_cmp_total o)

same_text : (a b : List ℕ) → is_eq (text_cmp a b) ≡ true → a ≡ b
same_text a b e = exact_bytes a b (equal (text_cmp a b) e) where
  equal : (n : Ordering) → is_eq n ≡ true → n ≡ Equal
  equal Less e = cc
  equal Equal e = refl
  equal Greater e = cc

-- the first of a list, and one that it isn't
here : (l : Listed) (ls : List Listed) → ceiling_listed l.name (l ∷ ls) ≡ Some l.ceiling
here l ls = ap (λ t. option_map (λ (k : Listed). k.ceiling)
    (cond t (Some l) (find (λ (k : Listed). is_eq (text_cmp l.name k.name)) ls))) (itself l.name)

past : (o : List ℕ) (l : Listed) (ls : List Listed) → is_eq (text_cmp o l.name) ≡ false
    → ceiling_listed o (l ∷ ls) ≡ ceiling_listed o ls
past o l ls e = ap (λ t. option_map (λ (k : Listed). k.ceiling)
    (cond t (Some l) (find (λ (k : Listed). is_eq (text_cmp o k.name)) ls))) e

-- a name below all others has no ceiling
abbrev AreAbove : List ℕ → List Listed → Type 0
AreAbove o ls = AllByRecursion (λ l. text_cmp o l.name ≡ Less) ls

none_above : (o : List ℕ) (ls : List Listed) → AreAbove o ls → ceiling_listed o ls ≡ None
none_above o [] h = refl
none_above o (l ∷ ls) h = past o l ls (ap is_eq h.0) ∙ none_above o ls h.1

lower : (o p : List ℕ) (ls : List Listed) → text_cmp o p ≡ Less → AreAbove p ls → AreAbove o ls
lower o p [] e h = tt
lower o p (l ∷ ls) e h = (nat_list_cmp_total.trans o p l.name e h.0, lower o p ls e h.1)

-- ---- two lists that ascend and have the same ceilings

no_ceiling : {n : ℕ} → Some n ≡ None → {A : Type 0} → A
no_ceiling e = absurd (none_is e) where
  none_is : {n : ℕ} → Some n ≡ None → ⊥
  none_is e = cc

module _ (a b : Listed) (xs ys : List Listed)
    (same : (o : List ℕ) → ceiling_listed o (a ∷ xs) ≡ ceiling_listed o (b ∷ ys))
    (sa : IsStrictlySortedBy listed_cmp (a ∷ xs)) (sb : IsStrictlySortedBy listed_cmp (b ∷ ys)) where
  above_a : AreAbove a.name xs
  unfolding IsStrictlySortedBy
  above_a = sa.0

  above_b : AreAbove b.name ys
  unfolding IsStrictlySortedBy
  above_b = sb.0

  not_below : text_cmp a.name b.name ≡ Less → ⊥
  not_below e = no_ceiling (sym (here a xs) ∙ same a.name ∙ none_above a.name (b ∷ ys)
      (e, lower a.name b.name ys e above_b))

  not_above : text_cmp b.name a.name ≡ Less → ⊥
  not_above e = no_ceiling (sym (here b ys) ∙ sym (same b.name) ∙ none_above b.name (a ∷ xs)
      (e, lower b.name a.name xs e above_a))

  same_name : a.name ≡ b.name
  same_name = go (text_cmp a.name b.name) refl where
    go : (n : Ordering) → text_cmp a.name b.name ≡ n → a.name ≡ b.name
    go Less e = absurd (not_below e)
    go Equal e = exact_bytes a.name b.name e
    go Greater e = absurd (not_above (nat_list_cmp_total.antisymm b.name a.name ∙ ap ordering_reverse e))

  same_ceiling : a.ceiling ≡ b.ceiling
  same_ceiling = both (sym (here a xs) ∙ same a.name
      ∙ ap (λ o. ceiling_listed o (b ∷ ys)) same_name ∙ here b ys)
    where
      both : {m n : ℕ} → Some m ≡ Some n → m ≡ n
      both e = cc

  same_first : a ≡ b
  same_first = λ i. record { name = same_name i; ceiling = same_ceiling i }

  same_rest : (o : List ℕ) → ceiling_listed o xs ≡ ceiling_listed o ys
  same_rest o = go (is_eq (text_cmp o a.name)) refl where
    go : (t : Bool) → is_eq (text_cmp o a.name) ≡ t → ceiling_listed o xs ≡ ceiling_listed o ys
    go true e =
        let is : o ≡ a.name = same_text o a.name e in
        ap (λ p. ceiling_listed p xs) is ∙ none_above a.name xs above_a
        ∙ sym (ap (λ p. ceiling_listed p ys) (is ∙ same_name) ∙ none_above b.name ys above_b)
    go false e = sym (past o a xs e) ∙ same o
        ∙ past o b ys (ap (λ p. is_eq (text_cmp o p)) (sym same_name) ∙ e)

same_lists : (xs ys : List Listed) → ((o : List ℕ) → ceiling_listed o xs ≡ ceiling_listed o ys)
    → IsStrictlySortedBy listed_cmp xs → IsStrictlySortedBy listed_cmp ys → xs ≡ ys
unfolding IsStrictlySortedBy
same_lists [] [] same sa sb = refl
same_lists [] (b ∷ ys) same sa sb = absurd (no_ceiling (sym (here b ys) ∙ sym (same b.name)))
same_lists (a ∷ xs) [] same sa sb = absurd (no_ceiling (sym (here a xs) ∙ same a.name))
same_lists (a ∷ xs) (b ∷ ys) same sa sb =
    λ i. same_first a b xs ys same sa sb i ∷ same_lists xs ys (same_rest a b xs ys same sa sb) sa.1 sb.1 i

-- ---- accounts that ascend

abbrev Ascend : Accounts → Type 0
Ascend accounts = IsStrictlySortedBy text_cmp (keys_of accounts)

with_above : (o p : List ℕ) (n : Option ℕ) (ls : List Listed) → text_cmp o p ≡ Less → AreAbove o ls
    → AreAbove o (listed_if_enrolled p n ls)
with_above o p None ls e h = h
with_above o p (Some n) ls e h = (e, h)

above : (o : List ℕ) (accounts : Accounts) → AllByRecursion (λ p. text_cmp o p ≡ Less) (keys_of accounts)
    → AreAbove o (listed_in accounts)
unfolding listed_in
above o [] h = tt
above o (a ∷ accounts) h = with_above o a.0 a.1.ceiling (listed_in accounts) h.0 (above o accounts h.1)

listed_ascend : (accounts : Accounts) → Ascend accounts → IsStrictlySortedBy listed_cmp (listed_in accounts)
unfolding IsStrictlySortedBy listed_in
listed_ascend [] s = tt
listed_ascend (a ∷ accounts) s =
    go a.1.ceiling (above a.0 accounts s.0) (listed_ascend accounts s.1) where
      go : (n : Option ℕ) → AreAbove a.0 (listed_in accounts)
          → IsStrictlySortedBy listed_cmp (listed_in accounts)
          → IsStrictlySortedBy listed_cmp (listed_if_enrolled a.0 n (listed_in accounts))
      go None h t = t
      go (Some n) h t = (h, t)

of_test : (t : Bool) (a : OperatorEntry) (found : Option OperatorEntry)
    → option_and_then (λ (b : OperatorEntry). b.ceiling) (cond t (Some a) found)
    ≡ cond t a.ceiling (option_and_then (λ (b : OperatorEntry). b.ceiling) found)
of_test true a found = refl
of_test false a found = refl

with_first : (o p : List ℕ) (n : Option ℕ) (t : Bool) (ls : List Listed) → is_eq (text_cmp o p) ≡ t
    → AreAbove p ls → ceiling_listed o (listed_if_enrolled p n ls) ≡ cond t n (ceiling_listed o ls)
with_first o p None true ls e h =
    ap (λ q. ceiling_listed q ls) (same_text o p e) ∙ none_above p ls h
with_first o p (Some n) true ls e h = ap (λ t. option_map (λ (k : Listed). k.ceiling)
    (cond t (Some one) (find (λ (k : Listed). is_eq (text_cmp o k.name)) ls))) e where
      one : Listed
      one = record { name = p; ceiling = n }
with_first o p None false ls e h = refl
with_first o p (Some n) false ls e h = past o (record { name = p; ceiling = n }) ls e

listed_ceilings : (o : List ℕ) (accounts : Accounts) → Ascend accounts
    → ceiling_listed o (listed_in accounts) ≡ ceiling_in o accounts
unfolding IsStrictlySortedBy listed_in
listed_ceilings o [] s = refl
listed_ceilings o (a ∷ accounts) s =
    with_first o a.0 a.1.ceiling (is_eq (text_cmp o a.0)) (listed_in accounts) refl (above a.0 accounts s.0)
    ∙ ap (cond (is_eq (text_cmp o a.0)) a.1.ceiling) (listed_ceilings o accounts s.1)
    ∙ sym (of_test (is_eq (text_cmp o a.0)) a.1 (account_in o accounts))

pub listed_are : (ls : List Listed) (ps : List Filed) (accounts : Accounts) → Ascend accounts
    → AreAccountsOf ls ps accounts → IsStrictlySortedBy listed_cmp ls → listed_in accounts ≡ ls
listed_are ls ps accounts s h ascend =
    same_lists (listed_in accounts) ls (λ o. listed_ceilings o accounts s ∙ h.ceilings o)
    (listed_ascend accounts s) ascend

-- the first of the accounts that are left
pub listed_first : (before all : List Listed) (o : List ℕ) (a : OperatorEntry) (rest : Accounts)
    → before ++ listed_in ((o, a) ∷ rest) ≡ all
    → (before ++ listed_if_enrolled o a.ceiling []) ++ listed_in rest ≡ all
unfolding listed_in
listed_first before all o a rest so_far =
    append_assoc before (listed_if_enrolled o a.ceiling []) (listed_in rest)
    ∙ ap (λ ls. before ++ ls) (by_ceiling a.ceiling) ∙ so_far where
      by_ceiling : (n : Option ℕ) → listed_if_enrolled o n [] ++ listed_in rest ≡ listed_if_enrolled o n (listed_in rest)
      by_ceiling None = refl
      by_ceiling (Some n) = refl

-- none is left
pub all_listed : (before all : List Listed) (left : Accounts) → left ≡ [] → before ++ listed_in left ≡ all
    → before ≡ all
unfolding listed_in
all_listed before all left none so_far =
    sym (append-nil before) ∙ ap (λ es. before ++ listed_in es) (sym none) ∙ so_far
