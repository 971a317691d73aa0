-- What the lists of a store in memory say of its world.
use Rattle.std.proofs.Common.{◌≡◌, ℕ, Bool, true, false, cond, List, [], ◌∷◌, ◌++◌, map, Option, Some, None, refl, sym, ap, ◌∙◌, Less, Equal, Greater}
use Rattle.std.specs.List.{filter, find}
use Rattle.std.specs.Option.{option_map}
use Rattle.std.specs.declared.cmp.Ordering.{Ordering}
use Rattle.std.specs.Ordering.{ordering_then, is_eq, match_ordering}
use Rattle.std.specs.BTreeMap.{insert_entry, is_at}
use Rattle.std.specs.Map.{lookup, keys_of}
use Rattle.std.specs.List.Sorted.{IsStrictlySortedBy}
use Rattle.std.proofs.lemmas.List.{append_assoc}
use Rattle.std.proofs.lemmas.Map.Lookups.{exact_bytes}
use Rattle.desk_rules.specs.declared.plan.PlanRow.{PlanRow}
use Rattle.desk_rules.specs.Outcome.{states_in, states_of}
use Rattle.desk_store.specs.declared.list.CeilingEntry.{CeilingEntry}
use Rattle.desk_store.specs.World.{Filed, Listed, World, text_cmp, rows_by, plans_of, is_by, stored_of, has_id, PlanParts, row_of, kept_states, listed_of, filed_of, filed_all, world_in_lists}
use Rattle.desk_store.specs.Changes.{list_operator, put_row, replaced, with_operator, with_plans}
use Rattle.desk_store.proofs.EntryLemmas.{Key, key_cmp, entry_inserted}

-- the ceiling that a look-up finds
pub ceiling_found : (o : List ℕ) (es : List (List ℕ × CeilingEntry))
    → option_map (λ e. e.ceiling) (lookup (is_at (text_cmp o)) es)
    ≡ option_map (λ l. l.ceiling) (find (λ l. is_eq (text_cmp o l.name)) (map listed_of es))
ceiling_found o [] = refl
ceiling_found o (e ∷ es) = by_test (is_eq (text_cmp o e.0)) (ceiling_found o es) where
  by_test : (b : Bool) → option_map (λ d. d.ceiling) (lookup (is_at (text_cmp o)) es)
      ≡ option_map (λ l. l.ceiling) (find (λ l. is_eq (text_cmp o l.name)) (map listed_of es))
      → option_map (λ d. d.ceiling) (cond b (Some e.1) (lookup (is_at (text_cmp o)) es))
      ≡ option_map (λ l. l.ceiling) (cond b (Some (listed_of e))
      (find (λ l. is_eq (text_cmp o l.name)) (map listed_of es)))
  by_test true ih = refl
  by_test false ih = ih

-- the plan that a look-up finds
pub plan_found : (o id : List ℕ) (es : List (Key × PlanParts))
    → option_map (row_of id) (lookup (is_at (key_cmp (o, id))) es)
    ≡ stored_of id (rows_by o (filed_all es))
unfolding stored_of
plan_found o id [] = refl
plan_found o id (e ∷ es) = by_operator (text_cmp o e.0.0) (plan_found o id es) where
  rest : List PlanRow
  rest = rows_by o (filed_all es)

  by_id : (i : Ordering) → text_cmp id e.0.1 ≡ i → option_map (row_of id)
      (lookup (is_at (key_cmp (o, id))) es) ≡ find (has_id id) rest
      → option_map (row_of id) (cond (is_eq i) (Some e.1) (lookup (is_at (key_cmp (o, id))) es))
      ≡ cond (is_eq i) (Some (row_of e.0.1 e.1)) (find (has_id id) rest)
  by_id Less l ih = ih
  by_id Equal l ih = λ k. Some (row_of (exact_bytes id e.0.1 l k) e.1)
  by_id Greater l ih = ih

  by_operator : (n : Ordering) → option_map (row_of id) (lookup (is_at (key_cmp (o, id))) es)
      ≡ find (has_id id) rest → option_map (row_of id)
      (cond (is_eq (ordering_then n (text_cmp id e.0.1))) (Some e.1)
      (lookup (is_at (key_cmp (o, id))) es))
      ≡ find (has_id id) (map (λ p. p.row) (cond (is_eq n)
      (filed_of e ∷ filter (λ p. is_eq (text_cmp o p.operator)) (filed_all es))
      (filter (λ p. is_eq (text_cmp o p.operator)) (filed_all es))))
  by_operator Less ih = ih
  by_operator Equal ih = by_id (text_cmp id e.0.1) refl ih
  by_operator Greater ih = ih

-- its states
pub states_found : (o id : List ℕ) (es : List (Key × PlanParts))
    → option_map kept_states (lookup (is_at (key_cmp (o, id))) es)
    ≡ states_of (stored_of id (rows_by o (filed_all es)))
states_found o id es = of_row (lookup (is_at (key_cmp (o, id))) es) ∙ ap states_of (plan_found o id es) where
  of_row : (found : Option PlanParts) → option_map kept_states found
      ≡ option_map states_in (option_map (row_of id) found)
  of_row None = refl
  of_row (Some plan) = refl

-- one more operator
operator_inserted : (o : List ℕ) (new : CeilingEntry) (es : List (List ℕ × CeilingEntry))
    → map listed_of (insert_entry text_cmp es o new) ≡ list_operator o new.ceiling (map listed_of es)
operator_inserted o new [] = refl
operator_inserted o new (e ∷ es) = by_order (text_cmp o e.0) refl (operator_inserted o new es) where
  rest : List Listed
  rest = map listed_of es

  first : Listed
  first = record { name = o; ceiling = new.ceiling }

  by_order : (n : Ordering) → text_cmp o e.0 ≡ n → map listed_of (insert_entry text_cmp es o new)
      ≡ list_operator o new.ceiling rest → map listed_of
      (match_ordering n ((o, new) ∷ e ∷ es) ((e.0, new) ∷ es) (e ∷ insert_entry text_cmp es o new))
      ≡ match_ordering n (first ∷ listed_of e ∷ rest) (first ∷ rest)
      (listed_of e ∷ list_operator o new.ceiling rest)
  by_order Less l ih = refl
  by_order Equal l ih = λ k. record { name = sym (exact_bytes o e.0 l) k; ceiling = new.ceiling } ∷ rest
  by_order Greater l ih = ap (λ ls. listed_of e ∷ ls) ih

-- enrolling is listing
pub enrolled : (old : World) (ops more : List (List ℕ × CeilingEntry)) (plans : List (Key × PlanParts))
    (o : List ℕ) (new : CeilingEntry) → world_in_lists ops plans ≡ old → more ≡ insert_entry text_cmp ops o new
    → world_in_lists more plans ≡ with_operator old o new.ceiling
unfolding with_operator
enrolled old ops more plans o new is e =
    ap (λ es. world_in_lists es plans) e
    ∙ (λ k. record { operators = operator_inserted o new ops k; plans = filed_all plans })
    ∙ ap listed is where
      listed : World → World
      listed w = record w { operators = list_operator o new.ceiling w.operators }

-- storing is putting the row among the operator's
pub stored : (old : World) (ops counted : List (List ℕ × CeilingEntry))
    (plans more : List (Key × PlanParts))
    (o id : List ℕ) (plan : PlanParts) → world_in_lists ops plans ≡ old → map listed_of counted
    ≡ map listed_of ops
    → IsStrictlySortedBy key_cmp (keys_of plans) → more ≡ insert_entry key_cmp plans (o, id) plan
    → world_in_lists counted more ≡ with_plans old o (put_row (row_of id plan) (plans_of o old))
unfolding with_plans
stored old ops counted plans more o id plan is same sorted e =
    ap (world_in_lists counted) e
    ∙ (λ k. record { operators = same k; plans = entry_inserted o id plan plans sorted k })
    ∙ ap put is where
      put : World → World
      put w = record w { plans = replaced o (put_row (row_of id plan) (plans_of o w)) w.plans }

-- the step of a loop that lists an operator's rows: its own is added, another's is not
pub row_added : (o : List ℕ) (p : Filed) (ps : List Filed) (rows more all : List PlanRow) → is_by o p
    ≡ true
    → more ≡ rows ++ p.row ∷ [] → rows ++ rows_by o (p ∷ ps) ≡ all → more ++ rows_by o ps ≡ all
row_added o p ps rows more all mine e so_far =
    ap (λ rs. rs ++ rows_by o ps) e ∙ append_assoc rows (p.row ∷ []) (rows_by o ps)
    ∙ sym (ap (λ b. rows ++ map (λ q. q.row) (cond b (p ∷ filter (is_by o) ps) (filter (is_by o) ps)))
    mine)
    ∙ so_far

pub row_passed : (o : List ℕ) (p : Filed) (ps : List Filed) (rows all : List PlanRow) → is_by o p
    ≡ false
    → rows ++ rows_by o (p ∷ ps) ≡ all → rows ++ rows_by o ps ≡ all
row_passed o p ps rows all theirs so_far =
    sym (ap (λ b. rows ++ map (λ q. q.row) (cond b (p ∷ filter (is_by o) ps) (filter (is_by o) ps)))
    theirs)
    ∙ so_far
