-- The places of plans' volumes.
use Rattle.std.proofs.Common.{◌≡◌, ℕ, ◌+◌, ◌≤◌, ◌<◌, Bool, true, false, cond, ◌&&◌, List, [], ◌∷◌, ◌++◌, Option, Some, None, is_some, length, take, get_or, refl, sym, ap, subst, ◌∙◌, arith, IsPermutation, Less, Equal, Greater}
use Rattle.std.specs.List.{filter}
use Rattle.std.specs.declared.cmp.Ordering.{Ordering}
use Rattle.std.specs.Ordering.{is_eq, ordering_then}
use Rattle.std.specs.Cmp.Lexicographic.{nat_list_cmp_total}
use Rattle.std.specs.Global.{Vec}
use Rattle.std.proofs.lemmas.Cmp.{tied_itself}
use Rattle.std.proofs.lemmas.List.{take_more}
use Rattle.std.proofs.lemmas.Map.Lookups.{exact_bytes}
use Rattle.desk_store.specs.World.{text_cmp}
use Rattle.desk_store.proofs.lemmas.Order.{is_equal}
use Rattle.live_index.specs.declared.near.PlanKey.{PlanKey}
use Rattle.live_index.specs.declared.places.Places.{Places}
use Rattle.live_index.specs.declared.volume.LiveVolume.{LiveVolume}
use Rattle.live_index.specs.Live.{ArePlaced, count_of, is_of_other_plan, is_volume_of, key_of, AreNoFewer, OthersAreNoFewer, HasOneMore, Lists, key_cmp, length_or_none, list_of, places_at, places_in}
use Rattle.live_index.proofs.LeftLemmas.{count_less, none_of}
use Rattle.live_index.proofs.lemmas.Lists.{IsPermutation-filter}
use Rattle.std.proofs.lemmas.List.Sorted.{IsPermutation-append_comm, length_permutation as length_permuted}

-- ---- keys

then_eq : (n m : Ordering) → is_eq (ordering_then n m) ≡ (is_eq n && is_eq m)
then_eq Less m = refl
then_eq Equal m = refl
then_eq Greater m = refl

both : (a b : Bool) → (a && b) ≡ true → (a ≡ true) × (b ≡ true)
both true b e = (refl, e)
both false b e = cc

same_text : (a b : List ℕ) → is_eq (text_cmp a b) ≡ true → a ≡ b
same_text a b e = exact_bytes a b (is_equal (text_cmp a b) e)

same_key : (k q : PlanKey) → is_eq (key_cmp k q) ≡ true → k ≡ q
same_key k q e =
    let parts = both (is_eq (text_cmp k.operator q.operator)) (is_eq (text_cmp k.id q.id))
    (sym (then_eq (text_cmp k.operator q.operator) (text_cmp k.id q.id)) ∙ e) in
    λ i. record {
      operator = same_text k.operator q.operator parts.0 i;
      id = same_text k.id q.id parts.1 i;
    }

-- ---- a list that is written

abbrev pub AreWritten : PlanKey → Lists → Lists → Option (Vec ℕ) → Type 0
AreWritten k old new b = (q : PlanKey) → list_of q new ≡ cond (is_eq (key_cmp k q)) b (list_of q old)

pub grown : (k : PlanKey) (old new : Lists) (b : Option (Vec ℕ)) → AreWritten k old new b
    → places_in k old ≤ length_or_none b → AreNoFewer old new
grown k old new b writes more q = go (is_eq (key_cmp k q)) refl (writes q) where
  go : (t : Bool) → is_eq (key_cmp k q) ≡ t → list_of q new ≡ cond t b (list_of q old)
      → places_in q old ≤ places_in q new
  go true e is = subst (λ n. places_in q old ≤ n) (sym (ap length_or_none is))
      (subst (λ r. places_in r old ≤ length_or_none b) (same_key k q e) more)
  go false e is = subst (λ n. places_in q old ≤ n) (sym (ap length_or_none is)) (omega arith)

pub others_stay : (k : PlanKey) (old new : Lists) (b : Option (Vec ℕ)) → AreWritten k old new b
    → OthersAreNoFewer k old new
others_stay k old new b writes q e =
    subst (λ n. places_in q old ≤ n)
    (sym (ap length_or_none (writes q ∙ ap (λ t. cond t b (list_of q old)) e))) (omega arith)

itself : (k : PlanKey) → is_eq (key_cmp k k) ≡ true
itself k =
    then_eq (text_cmp k.operator k.operator) (text_cmp k.id k.id)
    ∙ ap (λ n. is_eq n && is_eq (text_cmp k.id k.id)) (tied_itself nat_list_cmp_total k.operator)
    ∙ ap is_eq (tied_itself nat_list_cmp_total k.id)

-- a list that is taken out is there no more
pub gone : (k : PlanKey) (old new : Lists) → AreWritten k old new None → list_of k new ≡ None
gone k old new writes = writes k ∙ ap (λ t. cond t None (list_of k old)) (itself k)

pub absent : (x : Option (Vec ℕ)) → false ≡ is_some x → x ≡ None
absent None e = refl
absent (Some v) e = cc

-- ---- as many as there are volumes

-- one more volume, of which a place is added
pub placed_added : (old new : Places) (live : LiveVolume) (xs ys : List LiveVolume)
    → ArePlaced old xs → AreNoFewer old.plans.entries new.plans.entries
    → HasOneMore (key_of live) old.plans.entries new.plans.entries → IsPermutation (live ∷ xs) ys
    → ArePlaced new ys
placed_added old new live xs ys placed kept added same o id =
    subst (λ n. n ≤ places_at o id new) (sym counted) (go (is_volume_of o id live) refl) where
      counted : count_of o id ys ≡ count_of o id (live ∷ xs)
      counted = length_permuted (filter (is_volume_of o id) (live ∷ xs)) (filter (is_volume_of o id) ys)
          (IsPermutation-filter (is_volume_of o id) (live ∷ xs) ys same)

      key : PlanKey
      key = record { operator = o; id = id }

      go : (t : Bool) → is_volume_of o id live ≡ t
          → length (cond t (live ∷ filter (is_volume_of o id) xs) (filter (is_volume_of o id) xs))
          ≤ places_at o id new
      go true e =
          let parts = both (is_eq (text_cmp id live.id)) (is_eq (text_cmp o live.operator)) e in
          let mine : key_of live ≡ key = λ i. record {
            operator = sym (same_text o live.operator parts.1) i;
            id = sym (same_text id live.id parts.0) i;
          } in
          let more = subst (λ k. HasOneMore k old.plans.entries new.plans.entries) mine added in
          let before = placed o id in omega (arith, more, before)
      go false e = let more = kept key in let before = placed o id in omega (arith, more, before)

pub placed_more : (old new : Places) (lives : List LiveVolume) (i : ℕ) (live : LiveVolume)
    → i < length lives → live ≡ get_or lives i live → ArePlaced old (take i lives)
    → AreNoFewer old.plans.entries new.plans.entries
    → HasOneMore (key_of live) old.plans.entries new.plans.entries → ArePlaced new (take (i + 1) lives)
placed_more old new lives i live below is placed kept added =
    placed_added old new live (take i lives) (take (i + 1) lives) placed kept added
    (subst (IsPermutation (live ∷ take i lives))
    (ap (λ l. take i lives ++ l ∷ []) is ∙ sym (take_more lives i live below))
    (IsPermutation-append_comm (live ∷ []) (take i lives)))

-- a plan's volumes are out, and its places are forgotten
pub placed_without : (old new : Places) (key : PlanKey) (xs ys : List LiveVolume) → ArePlaced old xs
    → OthersAreNoFewer key old.plans.entries new.plans.entries
    → ys ≡ filter (is_of_other_plan key.operator key.id) xs → ArePlaced new ys
placed_without old new key xs ys placed others is o id =
    subst (λ vs. count_of o id vs ≤ places_at o id new) (sym is) (go (is_eq (key_cmp key other)) refl) where
      other : PlanKey
      other = record { operator = o; id = id }

      go : (t : Bool) → is_eq (key_cmp key other) ≡ t
          → count_of o id (filter (is_of_other_plan key.operator key.id) xs) ≤ places_at o id new
      go true e =
          let none : count_of o id (filter (is_of_other_plan key.operator key.id) xs) ≡ 0 =
          subst (λ k. count_of o id (filter (is_of_other_plan k.operator k.id) xs) ≡ 0) (sym (same_key key other e))
          (none_of o id xs) in omega (arith, none)
      go false e =
          let less = count_less o id (is_of_other_plan key.operator key.id) xs in
          let before = placed o id in
          let more = others other e in omega (arith, less, before, more)

-- the same volumes in another order
pub placed_still : (old new : Places) (xs ys : List LiveVolume) → ArePlaced old xs
    → AreNoFewer old.plans.entries new.plans.entries → IsPermutation xs ys → ArePlaced new ys
placed_still old new xs ys placed kept same o id =
    let count = length_permuted (filter (is_volume_of o id) xs) (filter (is_volume_of o id) ys)
    (IsPermutation-filter (is_volume_of o id) xs ys same) in
    let before = placed o id in
    let more = kept (record { operator = o; id = id }) in omega (arith, count, before, more)
