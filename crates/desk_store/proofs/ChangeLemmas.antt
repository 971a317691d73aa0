-- Closing a plan, and taking plans out: what of the lists of a store in memory changes.
use Rattle.std.proofs.Common.{◌≡◌, ℕ, Bool, true, false, ◌&&◌, cond, not, List, [], ◌∷◌, map, Some, None, refl, sym, ap, subst, ◌∙◌, Less, Equal, Greater}
use Rattle.std.specs.List.{filter, AllByRecursion}
use Rattle.std.specs.declared.cmp.Ordering.{Ordering}
use Rattle.std.specs.Ordering.{ordering_then, is_eq}
use Rattle.std.specs.BTreeMap.{is_at}
use Rattle.std.specs.Map.{lookup, set_value, keys_of}
use Rattle.std.specs.List.Sorted.{IsStrictlySortedBy}
use Rattle.std.proofs.lemmas.Map.Lookups.{exact_bytes}
use Rattle.desk_rules.specs.declared.plan.PlanRow.{PlanRow}
use Rattle.desk_store.specs.declared.list.CeilingEntry.{CeilingEntry}
use Rattle.desk_store.specs.World.{Filed, World, text_cmp, filed_cmp, rows_by, plans_of, is_own, PlanParts, row_of, closed_parts, listed_of, filed_of, filed_all, world_in_lists, is_one_of, without}
use Rattle.desk_store.specs.Changes.{replaced, with_plans, closed, close_row, clear_rows}
use Rattle.desk_store.proofs.lemmas.Change.{stays, close_filed, cleared_plans, closed_plans}
use Rattle.desk_store.proofs.EntryLemmas.{Key, key_cmp, filed_sorted}

filter_filed : (o : List ℕ) (ids : List (List ℕ)) (es : List (Key × PlanParts))
    → filed_all (filter (λ e. not (is_one_of o ids e.0)) es) ≡ filter (stays o ids) (filed_all es)
filter_filed o ids [] = refl
filter_filed o ids (e ∷ es) = by_test (stays o ids (filed_of e)) (filter_filed o ids es) where
  by_test : (b : Bool) → filed_all (filter (λ d. not (is_one_of o ids d.0)) es)
      ≡ filter (stays o ids) (filed_all es) → filed_all
      (cond b (e ∷ filter (λ d. not (is_one_of o ids d.0)) es)
      (filter (λ d. not (is_one_of o ids d.0)) es))
      ≡ cond b (filed_of e ∷ filter (stays o ids) (filed_all es)) (filter (stays o ids) (filed_all es))
  by_test true ih = ap (λ ps. filed_of e ∷ ps) ih
  by_test false ih = ih

-- the plans of an operator and of ids taken out
pub cleared : (o : List ℕ) (ids : List (List ℕ)) (es kept : List (Key × PlanParts))
    → IsStrictlySortedBy filed_cmp (filed_all es) → kept ≡ without o ids es → filed_all kept
    ≡ replaced o (clear_rows ids (rows_by o (filed_all es))) (filed_all es)
cleared o ids es kept sorted e = ap filed_all e ∙ filter_filed o ids es
    ∙ cleared_plans o ids (filed_all es) sorted

-- the plan of an operator and of an id closed
closed_among : (o id : List ℕ) (es : List (Key × PlanParts)) → IsStrictlySortedBy key_cmp (keys_of es)
    → map (close_filed o id) (filed_all es) ≡ replaced o (close_row id (rows_by o (filed_all es)))
    (filed_all es)
closed_among o id es sorted = closed_plans o id (filed_all es) (filed_sorted es sorted)

own_at : (n m : Ordering) → is_eq (ordering_then n m) ≡ (is_eq n && is_eq m)
own_at Less m = refl
own_at Equal m = refl
own_at Greater m = refl

-- a key that the look-up passes by is not that of the operator and the id
passed_by : (o id : List ℕ) (e : Key × PlanParts) (b : Bool) → is_at (key_cmp (o, id)) e.0 ≡ b
    → is_own o id (filed_of e) ≡ b
passed_by o id e b h = sym (own_at (text_cmp o e.0.0) (text_cmp id e.0.1)) ∙ h

less_is_not : (n : Ordering) → n ≡ Less → is_eq n ≡ false
less_is_not Less e = refl
less_is_not Equal e = cc
less_is_not Greater e = cc

none_later : (o id : List ℕ) (es : List (Key × PlanParts))
    → AllByRecursion (λ k. key_cmp (o, id) k ≡ Less) (keys_of es)
    → map (close_filed o id) (filed_all es)
    ≡ filed_all es
none_later o id [] h = refl
none_later o id (e ∷ es) h =
    λ k. cond (passed_by o id e false (less_is_not (key_cmp (o, id) e.0) h.0) k)
    (record { operator = e.0.0; row = closed (row_of e.0.1 e.1) }) (filed_of e)
    ∷ none_later o id es h.1 k

key_is : (o id : List ℕ) (k : Key) → is_at (key_cmp (o, id)) k ≡ true → k ≡ (o, id)
key_is o id k e = by_orders (text_cmp o k.0) (text_cmp id k.1) refl refl e where
  by_orders : (n m : Ordering) → text_cmp o k.0 ≡ n → text_cmp id k.1 ≡ m → is_eq (ordering_then n m)
      ≡ true
      → k ≡ (o, id)
  by_orders Less m p q f = cc
  by_orders Equal Less p q f = cc
  by_orders Equal Equal p q f = λ j. (sym (exact_bytes o k.0 p) j, sym (exact_bytes id k.1 q) j)
  by_orders Equal Greater p q f = cc
  by_orders Greater m p q f = cc

written : (o id : List ℕ) (plan : PlanParts) (es : List (Key × PlanParts))
    → IsStrictlySortedBy key_cmp (keys_of es) → lookup (is_at (key_cmp (o, id))) es ≡ Some plan
    → filed_all (set_value (is_at (key_cmp (o, id))) es (closed_parts plan))
    ≡ map (close_filed o id) (filed_all es)
unfolding IsStrictlySortedBy
written o id plan [] s found = refl
written o id plan (e ∷ es) s found = by_test (is_at (key_cmp (o, id)) e.0) refl found
    (written o id plan es s.1) where
      left : List (Key × PlanParts)
      left = set_value (is_at (key_cmp (o, id))) es (closed_parts plan)

      here : Filed
      here = record { operator = e.0.0; row = closed (row_of e.0.1 e.1) }

      by_test : (b : Bool) → is_at (key_cmp (o, id)) e.0 ≡ b
          → cond b (Some e.1) (lookup (is_at (key_cmp (o, id))) es) ≡ Some plan
          → (lookup (is_at (key_cmp (o, id))) es ≡ Some plan → filed_all left
          ≡ map (close_filed o id) (filed_all es))
          → filed_all (cond b ((e.0, closed_parts plan) ∷ es) (e ∷ left))
          ≡ close_filed o id (filed_of e) ∷ map (close_filed o id) (filed_all es)
      by_test true h f ih =
          let is : plan ≡ e.1 = cc in
          let after = subst (λ k. AllByRecursion (λ j. key_cmp k j ≡ Less) (keys_of es))
          (key_is o id e.0 h) s.0
          in
          ap (λ p. filed_of (e.0, closed_parts p) ∷ filed_all es) is
          ∙ (λ k. cond (sym (passed_by o id e true h) k) here (filed_of e)
          ∷ sym (none_later o id es after) k)
      by_test false h f ih = λ k. cond (sym (passed_by o id e false h) k) here (filed_of e) ∷ ih f k

unwritten : (o id : List ℕ) (es : List (Key × PlanParts)) → lookup (is_at (key_cmp (o, id))) es ≡ None
    → filed_all es ≡ map (close_filed o id) (filed_all es)
unwritten o id [] none = refl
unwritten o id (e ∷ es) none = by_test (is_at (key_cmp (o, id)) e.0) refl none (unwritten o id es) where
  here : Filed
  here = record { operator = e.0.0; row = closed (row_of e.0.1 e.1) }

  by_test : (b : Bool) → is_at (key_cmp (o, id)) e.0 ≡ b
      → cond b (Some e.1) (lookup (is_at (key_cmp (o, id))) es) ≡ None
      → (lookup (is_at (key_cmp (o, id))) es ≡ None → filed_all es
      ≡ map (close_filed o id) (filed_all es))
      → filed_all (e ∷ es) ≡ close_filed o id (filed_of e) ∷ map (close_filed o id) (filed_all es)
  by_test true h f ih = cc
  by_test false h f ih = λ k. cond (sym (passed_by o id e false h) k) here (filed_of e) ∷ ih f k

-- a plan that is found is closed
pub found_closed : (o id : List ℕ) (plan : PlanParts) (es more : List (Key × PlanParts))
    → IsStrictlySortedBy key_cmp (keys_of es) → lookup (is_at (key_cmp (o, id))) es ≡ Some plan → more
    ≡ set_value (is_at (key_cmp (o, id))) es (closed_parts plan) → filed_all more
    ≡ replaced o (close_row id (rows_by o (filed_all es))) (filed_all es)
found_closed o id plan es more sorted found e = ap filed_all e ∙ written o id plan es sorted found
    ∙ closed_among o id es sorted

-- where none is found, none is to be closed
pub none_closed : (o id : List ℕ) (es more : List (Key × PlanParts))
    → IsStrictlySortedBy key_cmp (keys_of es)
    → lookup (is_at (key_cmp (o, id))) es ≡ None → more ≡ es → filed_all more
    ≡ replaced o (close_row id (rows_by o (filed_all es))) (filed_all es)
none_closed o id es more sorted none e = ap filed_all e ∙ unwritten o id es none
    ∙ closed_among o id es sorted

-- the world when an operator's plans have changed
pub changed : (f : List PlanRow → List PlanRow) (old : World) (ops counted : List (List ℕ × CeilingEntry))
    (plans more : List (Key × PlanParts)) (o : List ℕ) → world_in_lists ops plans ≡ old
    → map listed_of counted
    ≡ map listed_of ops → filed_all more ≡ replaced o (f (rows_by o (filed_all plans)))
    (filed_all plans)
    → world_in_lists counted more ≡ with_plans old o (f (plans_of o old))
unfolding with_plans
changed f old ops counted plans more o is same e = (λ k. record { operators = same k; plans = e k })
    ∙ ap change is where
      change : World → World
      change w = record w { plans = replaced o (f (plans_of o w)) w.plans }
