-- The rows of a world ascend in each table, so a table's rows in that order are one list.
use Rattle.std.proofs.Common.{◌≡◌, ℕ, pos, zero, suc, ◌+◌, ◌<◌, List, [], ◌∷◌, ◌++◌, drop, map, sym, ap, ◌∙◌, arith, Less, is_lt, IsPermutation, IsSorted}
use Rattle.std.specs.List.{AllByRecursion}
use Rattle.std.specs.List.Sorted.{IsStrictlySortedBy}
use Rattle.std.specs.Ordering.{ordering_then, ordering_reverse, int_cmp}
use Rattle.std.proofs.lemmas.Cmp.{tied_itself}
use Rattle.std.proofs.lemmas.Bool.Decides.{nat_tests}
use Rattle.sqlite_value.specs.declared.value.Value.{Value}
use Rattle.sqlite_value.specs.declared.value.Value.TheVariants.{Int, Text}
use Rattle.sqlite_value.specs.Order.{Row, row_cmp}
use Rattle.sqlite_value.proofs.OrderLemmas.{row_cmp_total, value_cmp_total, value_cmp-Text, value_cmp-Int}
use Rattle.sqlite_trees.specs.Tree.{IsAscending}
use Rattle.sqlite_keyed.proofs.ListLemmas.{all_map, all_weaker, ascending-append}
use Rattle.sqlite_keyed.proofs.SortLemmas.{sorted_unique}
use Rattle.volume4d.specs.Volume.{Block}
use Rattle.desk_store.specs.World.{Filed, Listed, text_cmp, listed_cmp, filed_cmp, IsPlan}
use Rattle.row_codec.specs.Tables.{id_text, row_of_operator, row_of_plan, plan_rows, row_of_volume, volume_rows_from, area_rows, volume_rows}
use Rattle.row_codec.proofs.lemmas.Id.{text_order, then_then}
use Rattle.row_codec.proofs.lemmas.Order.{after_key}

-- a row comes before another
abbrev pub Below : Row → Row → Type 0
Below r s = row_cmp r s ≡ Less

after_equal : (x : Value) (r s : Row) → row_cmp (x ∷ r) (x ∷ s) ≡ row_cmp r s
after_equal x r s = ap (λ o. ordering_then o (row_cmp r s)) (tied_itself value_cmp_total x)

-- rows with the keys of two plans are ordered as the plans, and then by the other columns
by_key : (p q : Filed) (r s : Row) → IsPlan p.row → IsPlan q.row
    → row_cmp (Text p.operator ∷ Text (id_text p.row.id) ∷ r)
    (Text q.operator ∷ Text (id_text q.row.id) ∷ s)
    ≡ ordering_then (filed_cmp p q) (row_cmp r s)
by_key p q r s hp hq =
    (λ i. ordering_then (value_cmp-Text p.operator q.operator i)
    (ordering_then ((value_cmp-Text (id_text p.row.id) (id_text q.row.id)
    ∙ text_order p.row.id q.row.id hp.id hq.id) i) (row_cmp r s)))
    ∙ then_then (text_cmp p.operator q.operator) (text_cmp p.row.id q.row.id) (row_cmp r s)

key_less : (p q : Filed) (r s : Row) → IsPlan p.row → IsPlan q.row → filed_cmp p q ≡ Less
    → Below (Text p.operator ∷ Text (id_text p.row.id) ∷ r)
    (Text q.operator ∷ Text (id_text q.row.id) ∷ s)
key_less p q r s hp hq e = by_key p q r s hp hq ∙ ap (λ o. ordering_then o (row_cmp r s)) e

place_less : (p : Filed) (n m : ℕ) (r s : Row) → n < m
    → Below (Text p.operator ∷ Text (id_text p.row.id) ∷ Int (pos n) ∷ r)
    (Text p.operator ∷ Text (id_text p.row.id) ∷ Int (pos m) ∷ s)
place_less p n m r s h =
    after_equal (Text p.operator) (Text (id_text p.row.id) ∷ Int (pos n) ∷ r)
    (Text (id_text p.row.id) ∷ Int (pos m) ∷ s)
    ∙ after_equal (Text (id_text p.row.id)) (Int (pos n) ∷ r) (Int (pos m) ∷ s)
    ∙ ap (λ o. ordering_then o (row_cmp r s)) (value_cmp-Int (pos n) (pos m) ∙ ints) where
      ints : int_cmp (pos n) (pos m) ≡ Less
      ints = grind (arith, nat_tests, h)

-- operators
operator_less : (l k : Listed) → listed_cmp l k ≡ Less → Below (row_of_operator l) (row_of_operator k)
operator_less l k e =
    ap (λ o. ordering_then o (row_cmp (Int (pos l.ceiling) ∷ []) (Int (pos k.ceiling) ∷ [])))
    (value_cmp-Text l.name k.name ∙ e)

pub operators_ascend : (ls : List Listed) → IsStrictlySortedBy listed_cmp ls
    → IsAscending Below (map row_of_operator ls)
unfolding IsStrictlySortedBy
operators_ascend [] s = tt
operators_ascend (l ∷ ls) s = (
  all_map (Below (row_of_operator l)) row_of_operator ls
      (all_weaker (λ k. listed_cmp l k ≡ Less) (λ k. Below (row_of_operator l) (row_of_operator k))
      (operator_less l) ls s.0),
  operators_ascend ls s.1,
)

-- plans
abbrev ArePlans : List Filed → Type 0
ArePlans ps = AllByRecursion (λ p. IsPlan p.row) ps

plans_after : (p : Filed) (qs : List Filed) → IsPlan p.row → ArePlans qs
    → AllByRecursion (λ q. filed_cmp p q ≡ Less) qs → AllByRecursion (Below (row_of_plan p)) (plan_rows qs)
plans_after p [] hp h s = tt
plans_after p (q ∷ qs) hp h s = (
  key_less p q (after_key (row_of_plan p)) (after_key (row_of_plan q)) hp h.0 s.0,
  plans_after p qs hp h.1
      s.1,
)

pub plans_ascend : (ps : List Filed) → ArePlans ps → IsStrictlySortedBy filed_cmp ps
    → IsAscending Below (plan_rows ps)
unfolding IsStrictlySortedBy
plans_ascend [] h s = tt
plans_ascend (p ∷ ps) h s = (plans_after p ps h.0 h.1 s.0, plans_ascend ps h.1 s.1)

-- volumes
places_after : (p : Filed) (n m : ℕ) (v : Block) (us : List Block) → n < m
    → AllByRecursion (Below (row_of_volume p n v)) (volume_rows_from p m us)
places_after p n m v [] h = tt
places_after p n m v (u ∷ us) h = (
  place_less p n m (drop 1 (after_key (row_of_volume p n v))) (drop 1 (after_key (row_of_volume p m u))) h,
  places_after p n (m + 1) v us (omega arith),
)

places_ascend : (p : Filed) (n : ℕ) (vs : List Block) → IsAscending Below (volume_rows_from p n vs)
places_ascend p n [] = tt
places_ascend p n (v ∷ vs) = (places_after p n (n + 1) v vs (omega arith), places_ascend p (n + 1) vs)

one_after : (p q : Filed) (n m : ℕ) (v : Block) (us : List Block) → IsPlan p.row → IsPlan q.row
    → filed_cmp p q ≡ Less → AllByRecursion (Below (row_of_volume p n v)) (volume_rows_from q m us)
one_after p q n m v [] hp hq e = tt
one_after p q n m v (u ∷ us) hp hq e = (
  key_less p q (after_key (row_of_volume p n v)) (after_key (row_of_volume q m u)) hp hq e,
  one_after p q n
      (m + 1) v us hp hq e,
)

all_append : (P : Row → Type 0) (xs ys : List Row) → AllByRecursion P xs → AllByRecursion P ys
    → AllByRecursion P (xs ++ ys)
all_append P [] ys h k = k
all_append P (x ∷ xs) ys h k = (h.0, all_append P xs ys h.1 k)

volume_after : (p : Filed) (n : ℕ) (v : Block) (qs : List Filed) → IsPlan p.row → ArePlans qs
    → AllByRecursion (λ q. filed_cmp p q ≡ Less) qs
    → AllByRecursion (Below (row_of_volume p n v)) (volume_rows qs)
volume_after p n v [] hp h s = tt
volume_after p n v (q ∷ qs) hp h s = all_append (Below (row_of_volume p n v)) (area_rows q) _
    (one_after p q n 0 v q.row.area hp h.0 s.0) (volume_after p n v qs hp h.1 s.1)

volumes_after : (p : Filed) (n : ℕ) (vs : List Block) (qs : List Filed) → IsPlan p.row → ArePlans qs
    → AllByRecursion (λ q. filed_cmp p q ≡ Less) qs
    → AllByRecursion (λ r. AllByRecursion (Below r) (volume_rows qs)) (volume_rows_from p n vs)
volumes_after p n [] qs hp h s = tt
volumes_after p n (v ∷ vs) qs hp h s =
    (volume_after p n v qs hp h s, volumes_after p (n + 1) vs qs hp h s)

pub volumes_ascend : (ps : List Filed) → ArePlans ps → IsStrictlySortedBy filed_cmp ps
    → IsAscending Below (volume_rows ps)
unfolding IsStrictlySortedBy
volumes_ascend [] h s = tt
volumes_ascend (p ∷ ps) h s =
    ascending-append Below (area_rows p) (volume_rows ps) (places_ascend p 0 p.row.area)
    (volumes_ascend ps h.1 s.1) (volumes_after p 0 p.row.area ps h.0 h.1 s.0)

-- rows in ascending order are sorted
pub sorted_if_ascending : (rows : List Row) → IsAscending Below rows → IsSorted row_cmp rows
sorted_if_ascending [] up k d low high = absurd (omega (arith, high))
sorted_if_ascending (r ∷ []) up k d low high = absurd (omega (arith, high))
sorted_if_ascending (r ∷ s ∷ rows) up zero d low high =
    ap is_lt (row_cmp_total.antisymm s r ∙ ap ordering_reverse up.0.0)
sorted_if_ascending (r ∷ s ∷ rows) up (suc k) d low high =
    rw Rattle.std.proofs.Common.add-one (rw Rattle.std.proofs.Common.add-one at
    (sorted_if_ascending (s ∷ rows) up.1 k d (omega arith) (omega (arith, high))))

-- two lists of the same rows that both ascend are one
pub one_order : (xs ys : List Row) → IsAscending Below xs → IsAscending Below ys → IsPermutation xs ys
    → xs
    ≡ ys
one_order xs ys up on same =
    sym (sorted_unique row_cmp row_cmp_total xs ys up same (sorted_if_ascending ys on))
