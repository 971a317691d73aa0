-- The entries of a store in memory, as plans in order.
use Rattle.std.proofs.Common.{◌≡◌, ℕ, List, [], ◌∷◌, refl, sym, ap, ◌∙◌, Less, Equal, Greater}
use Rattle.std.specs.List.{AllByRecursion}
use Rattle.std.specs.declared.cmp.Ordering.{Ordering}
use Rattle.std.specs.Ordering.{ordering_then, match_ordering}
use Rattle.std.specs.List.Sorted.{IsStrictlySortedBy}
use Rattle.std.specs.BTreeMap.{insert_entry}
use Rattle.std.specs.Map.{keys_of}
use Rattle.std.proofs.lemmas.Map.Lookups.{exact_bytes}
use Rattle.desk_store.specs.World.{text_cmp, rows_by, filed_cmp, PlanParts, row_of, filed_of, filed_all}
use Rattle.desk_store.specs.Changes.{put_row, put_filed, filed_by, replaced}
use Rattle.desk_store.proofs.lemmas.Order.{inserted}

abbrev pub Key : Type 0
Key = List ℕ × List ℕ

abbrev pub key_cmp : Key → Key → Ordering
key_cmp a b = ordering_then (text_cmp a.0 b.0) (text_cmp a.1 b.1)

all_filed : (e : Key × PlanParts) (es : List (Key × PlanParts))
    → AllByRecursion (λ k. key_cmp e.0 k ≡ Less) (keys_of es)
    → AllByRecursion (λ p. filed_cmp (filed_of e) p ≡ Less) (filed_all es)
all_filed e [] h = tt
all_filed e (d ∷ es) h = (h.0, all_filed e es h.1)

-- plans are in order where their keys are
pub filed_sorted : (es : List (Key × PlanParts)) → IsStrictlySortedBy key_cmp (keys_of es)
    → IsStrictlySortedBy filed_cmp (filed_all es)
unfolding IsStrictlySortedBy
filed_sorted [] s = tt
filed_sorted (e ∷ es) s = (all_filed e es s.0, filed_sorted es s.1)

key_is : (o i : List ℕ) (k : Key) → key_cmp (o, i) k ≡ Equal → k ≡ (o, i)
key_is o i k e = by_order (text_cmp o k.0) refl e where
  by_order : (n : Ordering) → text_cmp o k.0 ≡ n → ordering_then n (text_cmp i k.1) ≡ Equal → k ≡ (o, i)
  by_order Less l f = cc
  by_order Equal l f = λ j. (sym (exact_bytes o k.0 l) j, sym (exact_bytes i k.1 f) j)
  by_order Greater l f = cc

-- an entry put among entries is a plan put among plans
put_entry : (o i : List ℕ) (v : PlanParts) (es : List (Key × PlanParts))
    → filed_all (insert_entry key_cmp es (o, i) v) ≡ put_filed (filed_by o (row_of i v)) (filed_all es)
put_entry o i v [] = refl
put_entry o i v (e ∷ es) = by_order (key_cmp (o, i) e.0) refl (put_entry o i v es) where
  by_order : (n : Ordering) → key_cmp (o, i) e.0 ≡ n → filed_all (insert_entry key_cmp es (o, i) v)
      ≡ put_filed (filed_by o (row_of i v)) (filed_all es)
      → filed_all (match_ordering n (((o, i), v) ∷ e ∷ es) ((e.0, v) ∷ es)
      (e ∷ insert_entry key_cmp es (o, i) v)) ≡ match_ordering n
      (filed_by o (row_of i v) ∷ filed_of e ∷ filed_all es) (filed_by o (row_of i v) ∷ filed_all es)
      (filed_of e ∷ put_filed (filed_by o (row_of i v)) (filed_all es))
  by_order Less l ih = refl
  by_order Equal l ih = ap (λ k. filed_of (k, v) ∷ filed_all es) (key_is o i e.0 l)
  by_order Greater l ih = ap (λ ps. filed_of e ∷ ps) ih

-- one more entry is one more row of the operator
pub entry_inserted : (o i : List ℕ) (v : PlanParts) (es : List (Key × PlanParts))
    → IsStrictlySortedBy key_cmp (keys_of es) → filed_all (insert_entry key_cmp es (o, i) v)
    ≡ replaced o (put_row (row_of i v) (rows_by o (filed_all es))) (filed_all es)
entry_inserted o i v es s = put_entry o i v es ∙ inserted o (row_of i v) (filed_all es) (filed_sorted es s)
