-- The roll before a change and after it, with proofs.
use Rattle.std.proofs.Common.{◌≡◌, ℕ, ◌+◌, Bool, true, false, cond, not, List, [], ◌∷◌, ◌++◌, map, Option, Some, None, refl, sym, ap, subst, ◌∙◌, Less, Equal, Greater}
use Rattle.std.specs.List.{filter, find}
use Rattle.std.specs.Option.{is_some, option_and_then, option_map}
use Rattle.std.specs.declared.cmp.Ordering.{Ordering}
use Rattle.std.specs.Ordering.{is_eq, match_ordering, ordering_reverse}
use Rattle.std.specs.Cmp.Lexicographic.{nat_list_cmp_total}
use Rattle.std.proofs.lemmas.Cmp.{tied_itself}
use Rattle.std.proofs.lemmas.List.Sums.{sum_by-cons}
use Rattle.std.proofs.lemmas.Map.Lookups.{exact_bytes}
use Rattle.desk_rules.specs.declared.plan.PlanRow.{PlanRow}
use Rattle.desk_rules.specs.Outcome.{states_in, states_of}
use Rattle.desk_store.specs.World as world
use Rattle.desk_store.specs.World.{Filed, Listed, World, text_cmp, ceiling_of, plans_of, rows_by, is_by, stored_of}
use Rattle.desk_store.specs.Changes as changes
use Rattle.desk_store.specs.Changes.{closed, close_row, clear_rows, list_operator, put_row, with_operator, with_plans, changed_by}
use Rattle.desk_store.proofs.lemmas.Order.{is_equal}
use Rattle.desk_store.proofs.lemmas.World.{own_replaced, others_kept}
use Rattle.desk_store.specs.declared.change.Change.{Change}
use Rattle.desk_store.specs.declared.change.Change.TheVariants.{Enrol, Put, Close, Clear}
use Rattle.operator_index.specs.declared.account.PlanState.{PlanState}
use Rattle.operator_index.specs.declared.account.OperatorEntry.{OperatorEntry}
use Rattle.operator_index.specs.Roll.{Accounts, AreAccountsOf, account_in, ceiling_after, ceiling_in, close_if, state_has_any_id, total_beside, counted_unless, changed_operator, or_else, plans_after, plans_in, plans_or_none, put_state, state_has_id, state_of}

-- ---- names

unequal : (a b : List ℕ) → is_eq (text_cmp b a) ≡ false → is_eq (text_cmp a b) ≡ false
unequal a b e = ap is_eq (nat_list_cmp_total.antisymm a b) ∙ by_order (text_cmp b a) e where
  by_order : (n : Ordering) → is_eq n ≡ false → is_eq (ordering_reverse n) ≡ false
  by_order Less f = refl
  by_order Equal f = cc
  by_order Greater f = refl

itself : (o : List ℕ) → is_eq (text_cmp o o) ≡ true
itself o = ap is_eq (tied_itself nat_list_cmp_total o)

same_text : (a b : List ℕ) → is_eq (text_cmp a b) ≡ true → a ≡ b
same_text a b e = exact_bytes a b (is_equal (text_cmp a b) e)

-- ---- an account that is written

abbrev ceiling_listed : List ℕ → List Listed → Option ℕ
ceiling_listed name ls = option_map (λ l. l.ceiling) (find (λ l. is_eq (text_cmp name l.name)) ls)

abbrev ceiling_at : Option OperatorEntry → Option ℕ
ceiling_at found = option_and_then (λ a. a.ceiling) found

abbrev or_this : Option ℕ → ℕ → ℕ
or_this None n = n
or_this (Some m) n = m

-- the accounts where one has a new value
pub record AreWritten (o : List ℕ) (old new : Accounts) (b : OperatorEntry) : Type 0 where
  pub each : (q : List ℕ) → account_in q new ≡ cond (is_eq (text_cmp o q)) (Some b) (account_in q old)

pub written : (o : List ℕ) (old new : Accounts) (b : OperatorEntry) (ls more : List Listed) (ps qs : List Filed)
    → AreWritten o old new b → AreAccountsOf ls ps old → b.ceiling ≡ ceiling_listed o more
    → ((q : List ℕ) → is_eq (text_cmp o q) ≡ false → ceiling_listed q more ≡ ceiling_listed q ls)
    → b.plans.items ≡ map state_of (rows_by o qs)
    → ((q : List ℕ) → is_eq (text_cmp o q) ≡ false → rows_by q qs ≡ rows_by q ps) → AreAccountsOf more qs new
written o old new b ls more ps qs writes h ceiling ceilings plans others = record {
  ceilings = λ q. of_ceilings q (is_eq (text_cmp o q)) refl (writes.each q);
  states = λ q. of_plans q (is_eq (text_cmp o q)) refl (writes.each q);
} where
  of_ceilings : (q : List ℕ) (t : Bool) → is_eq (text_cmp o q) ≡ t
      → account_in q new ≡ cond t (Some b) (account_in q old) → ceiling_in q new ≡ ceiling_listed q more
  of_ceilings q true e is = ap ceiling_at is ∙ ceiling ∙ ap (λ n. ceiling_listed n more) (same_text o q e)
  of_ceilings q false e is = ap ceiling_at is ∙ h.ceilings q ∙ sym (ceilings q e)

  of_plans : (q : List ℕ) (t : Bool) → is_eq (text_cmp o q) ≡ t
      → account_in q new ≡ cond t (Some b) (account_in q old)
      → plans_in q new ≡ map state_of (rows_by q qs)
  of_plans q true e is = ap plans_or_none is ∙ plans ∙ ap (λ n. map state_of (rows_by n qs)) (same_text o q e)
  of_plans q false e is = ap plans_or_none is ∙ h.states q ∙ ap (map state_of) (sym (others q e))

-- what an account that is there has
pub there : (o : List ℕ) (accounts : Accounts) (a : OperatorEntry) (ls : List Listed) (ps : List Filed)
    → Some a ≡ account_in o accounts → AreAccountsOf ls ps accounts
    → (a.ceiling ≡ ceiling_listed o ls) × (a.plans.items ≡ map state_of (rows_by o ps))
there o accounts a ls ps is h = (ap ceiling_at is ∙ h.ceilings o, ap plans_or_none is ∙ h.states o)

-- the same operators and plans
pub written_same : (o : List ℕ) (old new : Accounts) (b : OperatorEntry) (ls : List Listed) (ps : List Filed)
    → AreWritten o old new b → AreAccountsOf ls ps old → b.ceiling ≡ ceiling_in o old
    → b.plans.items ≡ plans_in o old → AreAccountsOf ls ps new
written_same o old new b ls ps writes h ceiling plans =
    written o old new b ls ls ps ps writes h (ceiling ∙ h.ceilings o) (λ q e. refl) (plans ∙ h.states o)
    (λ q e. refl)

-- ---- one operator more, and one plan more

find_after : (q : List ℕ) (ls : List Listed) (l : Listed)
    → ceiling_listed q (ls ++ l ∷ []) ≡ cond (is_eq (text_cmp q l.name))
    (Some (or_this (ceiling_listed q ls) l.ceiling)) (ceiling_listed q ls)
find_after q [] l = go (is_eq (text_cmp q l.name)) where
  go : (b : Bool) → option_map (λ (k : Listed). k.ceiling) (cond b (Some l) None)
      ≡ cond b (Some l.ceiling) None
  go true = refl
  go false = refl
find_after q (k ∷ ls) l = go (is_eq (text_cmp q k.name)) (is_eq (text_cmp q l.name)) (find_after q ls l) where
  go : (b c : Bool) → ceiling_listed q (ls ++ l ∷ [])
      ≡ cond c (Some (or_this (ceiling_listed q ls) l.ceiling)) (ceiling_listed q ls)
      → option_map (λ (m : Listed). m.ceiling)
      (cond b (Some k) (find (λ (m : Listed). is_eq (text_cmp q m.name)) (ls ++ l ∷ [])))
      ≡ cond c (Some (or_this (option_map (λ (m : Listed). m.ceiling)
      (cond b (Some k) (find (λ (m : Listed). is_eq (text_cmp q m.name)) ls))) l.ceiling))
      (option_map (λ (m : Listed). m.ceiling)
      (cond b (Some k) (find (λ (m : Listed). is_eq (text_cmp q m.name)) ls)))
  go true true ih = refl
  go true false ih = refl
  go false c ih = ih

or_else_is : (n : Option ℕ) (ceiling : ℕ) → or_else n ceiling ≡ Some (or_this n ceiling)
or_else_is None ceiling = refl
or_else_is (Some n) ceiling = refl

pub listed_more : (o : List ℕ) (ceiling : ℕ) (old new : Accounts) (a b : OperatorEntry) (ls : List Listed)
    (ps : List Filed) → AreWritten o old new b → Some a ≡ account_in o old → AreAccountsOf ls ps old
    → b.ceiling ≡ or_else a.ceiling ceiling → b.plans.items ≡ a.plans.items
    → AreAccountsOf (ls ++ record { name = o; ceiling = ceiling } ∷ []) ps new
listed_more o ceiling old new a b ls ps writes was h is same =
    let had = there o old a ls ps was h in
    written o old new b ls (ls ++ one ∷ []) ps ps writes h
    (is ∙ ap (λ n. or_else n ceiling) had.0 ∙ or_else_is (ceiling_listed o ls) ceiling
    ∙ sym (find_after o ls one ∙ ap (λ t. cond t (Some (or_this (ceiling_listed o ls) ceiling))
    (ceiling_listed o ls)) (itself o)))
    (λ q e. find_after q ls one ∙ ap (λ t. cond t (Some (or_this (ceiling_listed q ls) ceiling))
    (ceiling_listed q ls)) (unequal q o e))
    (same ∙ had.1) (λ q e. refl) where
      one : Listed
      one = record { name = o; ceiling = ceiling }

rows_after : (q : List ℕ) (ps : List Filed) (p : Filed)
    → rows_by q (ps ++ p ∷ []) ≡ cond (is_by q p) (rows_by q ps ++ p.row ∷ []) (rows_by q ps)
rows_after q [] p = go (is_by q p) where
  go : (b : Bool) → map (λ (r : Filed). r.row) (cond b (p ∷ []) []) ≡ cond b (p.row ∷ []) []
  go true = refl
  go false = refl
rows_after q (r ∷ ps) p = go (is_by q r) (is_by q p) (rows_after q ps p) where
  go : (b c : Bool) → rows_by q (ps ++ p ∷ []) ≡ cond c (rows_by q ps ++ p.row ∷ []) (rows_by q ps)
      → map (λ (s : Filed). s.row)
      (cond b (r ∷ filter (is_by q) (ps ++ p ∷ [])) (filter (is_by q) (ps ++ p ∷ [])))
      ≡ cond c
      (map (λ (s : Filed). s.row) (cond b (r ∷ filter (is_by q) ps) (filter (is_by q) ps)) ++ p.row ∷ [])
      (map (λ (s : Filed). s.row) (cond b (r ∷ filter (is_by q) ps) (filter (is_by q) ps)))
  go true true ih = ap (λ rows. r.row ∷ rows) ih
  go true false ih = ap (λ rows. r.row ∷ rows) ih
  go false c ih = ih

mapped_after : (rows : List PlanRow) (row : PlanRow)
    → map state_of (rows ++ row ∷ []) ≡ map state_of rows ++ state_of row ∷ []
mapped_after [] row = refl
mapped_after (r ∷ rows) row = ap (λ ss. state_of r ∷ ss) (mapped_after rows row)

pub filed_more : (p : Filed) (old new : Accounts) (a b : OperatorEntry) (ls : List Listed) (ps : List Filed)
    → AreWritten p.operator old new b → Some a ≡ account_in p.operator old → AreAccountsOf ls ps old
    → b.ceiling ≡ a.ceiling → b.plans.items ≡ a.plans.items ++ state_of p.row ∷ []
    → AreAccountsOf ls (ps ++ p ∷ []) new
filed_more p old new a b ls ps writes was h same is =
    let o = p.operator in
    let had = there o old a ls ps was h in
    written o old new b ls ls ps (ps ++ p ∷ []) writes h (same ∙ had.0) (λ q e. refl)
    (is ∙ ap (λ ss. ss ++ state_of p.row ∷ []) had.1 ∙ sym (mapped_after (rows_by o ps) p.row)
    ∙ ap (map state_of) (sym (rows_after o ps p
    ∙ ap (λ t. cond t (rows_by o ps ++ p.row ∷ []) (rows_by o ps)) (itself o))))
    (λ q e. rows_after q ps p ∙ ap (λ t. cond t (rows_by q ps ++ p.row ∷ []) (rows_by q ps)) (unequal q o e))

-- ---- changes

put_states : (row : PlanRow) (rows : List PlanRow) → put_state (state_of row) (map state_of rows)
    ≡ map state_of (put_row row rows)
put_states row [] = refl
put_states row (r ∷ rows) = go (text_cmp row.id r.id) (put_states row rows) where
  go : (n : Ordering) → put_state (state_of row) (map state_of rows) ≡ map state_of (put_row row rows)
      → match_ordering n (state_of row ∷ state_of r ∷ map state_of rows) (state_of row ∷ map state_of rows)
      (state_of r ∷ put_state (state_of row) (map state_of rows))
      ≡ map state_of (match_ordering n (row ∷ r ∷ rows) (row ∷ rows) (r ∷ put_row row rows))
  go Less ih = refl
  go Equal ih = refl
  go Greater ih = ap (λ ss. state_of r ∷ ss) ih

close_states : (id : List ℕ) (rows : List PlanRow) → map (close_if id) (map state_of rows)
    ≡ map state_of (close_row id rows)
close_states id [] = refl
close_states id (r ∷ rows) = λ i. go (is_eq (text_cmp id r.id)) i ∷ close_states id rows i where
  go : (b : Bool) → cond b (state_of (closed r)) (state_of r) ≡ state_of (cond b (closed r) r)
  go true = refl
  go false = refl

clear_states : (ids : List (List ℕ)) (rows : List PlanRow)
    → filter (λ s. not (state_has_any_id ids s)) (map state_of rows) ≡ map state_of (clear_rows ids rows)
clear_states ids [] = refl
clear_states ids (r ∷ rows) = go (not (changes.is_named ids r)) (clear_states ids rows) where
  go : (b : Bool)
      → filter (λ s. not (state_has_any_id ids s)) (map state_of rows) ≡ map state_of (clear_rows ids rows)
      → cond b (state_of r ∷ filter (λ s. not (state_has_any_id ids s)) (map state_of rows))
      (filter (λ s. not (state_has_any_id ids s)) (map state_of rows))
      ≡ map state_of (cond b (r ∷ clear_rows ids rows) (clear_rows ids rows))
  go true ih = ap (λ ss. state_of r ∷ ss) ih
  go false ih = ih

listed_own : (o : List ℕ) (ceiling : ℕ) (ls : List Listed)
    → ceiling_listed o (list_operator o ceiling ls) ≡ Some ceiling
listed_own o ceiling [] = ap (λ t. option_map (λ (l : Listed). l.ceiling) (cond t (Some one) None)) (itself o)
  where
    one : Listed
    one = record { name = o; ceiling = ceiling }
listed_own o ceiling (l ∷ ls) = go (text_cmp o l.name) refl (listed_own o ceiling ls) where
  one : Listed
  one = record { name = o; ceiling = ceiling }

  mine : (more : List Listed) → ceiling_listed o (one ∷ more) ≡ Some ceiling
  mine more = ap (λ t. option_map (λ (k : Listed). k.ceiling)
      (cond t (Some one) (find (λ (k : Listed). is_eq (text_cmp o k.name)) more))) (itself o)

  go : (n : Ordering) → text_cmp o l.name ≡ n → ceiling_listed o (list_operator o ceiling ls) ≡ Some ceiling
      → ceiling_listed o (match_ordering n (one ∷ l ∷ ls) (one ∷ ls) (l ∷ list_operator o ceiling ls))
      ≡ Some ceiling
  go Less e ih = mine (l ∷ ls)
  go Equal e ih = mine ls
  go Greater e ih = ap (λ t. option_map (λ (k : Listed). k.ceiling)
      (cond (is_eq t) (Some l)
      (find (λ (k : Listed). is_eq (text_cmp o k.name)) (list_operator o ceiling ls)))) e
      ∙ ih

listed_others : (o : List ℕ) (ceiling : ℕ) (q : List ℕ) (ls : List Listed) → is_eq (text_cmp q o) ≡ false
    → ceiling_listed q (list_operator o ceiling ls) ≡ ceiling_listed q ls
listed_others o ceiling q [] e = ap (λ t. option_map (λ (l : Listed). l.ceiling) (cond t (Some one) None)) e
  where
    one : Listed
    one = record { name = o; ceiling = ceiling }
listed_others o ceiling q (l ∷ ls) e = go (text_cmp o l.name) refl (listed_others o ceiling q ls e) where
  one : Listed
  one = record { name = o; ceiling = ceiling }

  passed : (more : List Listed) → ceiling_listed q (one ∷ more) ≡ ceiling_listed q more
  passed more = ap (λ t. option_map (λ (k : Listed). k.ceiling)
      (cond t (Some one) (find (λ (k : Listed). is_eq (text_cmp q k.name)) more))) e

  go : (n : Ordering) → text_cmp o l.name ≡ n
      → ceiling_listed q (list_operator o ceiling ls) ≡ ceiling_listed q ls
      → ceiling_listed q (match_ordering n (one ∷ l ∷ ls) (one ∷ ls) (l ∷ list_operator o ceiling ls))
      ≡ ceiling_listed q (l ∷ ls)
  go Less f ih = passed (l ∷ ls)
  go Equal f ih = passed ls ∙ sym (ap (λ t. option_map (λ (k : Listed). k.ceiling)
      (cond t (Some l) (find (λ (k : Listed). is_eq (text_cmp q k.name)) ls)))
      (ap (λ n. is_eq (text_cmp q n)) (sym (exact_bytes o l.name f)) ∙ e))
  go Greater f ih = either (is_eq (text_cmp q l.name)) ih where
    either : (b : Bool) → ceiling_listed q (list_operator o ceiling ls) ≡ ceiling_listed q ls
        → option_map (λ (k : Listed). k.ceiling)
        (cond b (Some l) (find (λ (k : Listed). is_eq (text_cmp q k.name)) (list_operator o ceiling ls)))
        ≡ option_map (λ (k : Listed). k.ceiling)
        (cond b (Some l) (find (λ (k : Listed). is_eq (text_cmp q k.name)) ls))
    either true ih = refl
    either false ih = ih

same_operators : (o : List ℕ) (rows : List PlanRow) (w : World)
    → w.operators ≡ (with_plans w o rows).operators
unfolding with_plans
same_operators o rows w = refl

-- an account whose plans are replaced
replaced_plans : (o : List ℕ) (rows : List PlanRow) (w : World) (old new : Accounts) (a b : OperatorEntry)
    → AreWritten o old new b → Some a ≡ account_in o old → AreAccountsOf w.operators w.plans old
    → b.ceiling ≡ a.ceiling → b.plans.items ≡ map state_of rows
    → AreAccountsOf (with_plans w o rows).operators (with_plans w o rows).plans new
replaced_plans o rows w old new a b writes was h same is =
    subst (λ ls. AreAccountsOf ls (with_plans w o rows).plans new) listed
    (written o old new b w.operators w.operators w.plans (with_plans w o rows).plans writes h
    (same ∙ (there o old a w.operators w.plans was h).0) (λ q e. refl)
    (is ∙ ap (map state_of) (sym (own_replaced o rows w))) (λ q e. others_kept q o rows w (unequal q o e)))
  where
    listed : w.operators ≡ (with_plans w o rows).operators
    listed = same_operators o rows w

pub followed : (change : Change) (w : World) (old new : Accounts) (a b : OperatorEntry)
    → AreWritten (changed_operator change) old new b → Some a ≡ account_in (changed_operator change) old
    → AreAccountsOf w.operators w.plans old → b.ceiling ≡ ceiling_after change a.ceiling
    → b.plans.items ≡ plans_after change a.plans.items
    → AreAccountsOf (changed_by change w).operators (changed_by change w).plans new
unfolding changed_by with_operator
followed (Enrol o ceiling) w old new a b writes was h is plans =
    written o old new b w.operators (list_operator o ceiling w.operators) w.plans w.plans writes h
    (is ∙ sym (listed_own o ceiling w.operators))
    (λ q e. listed_others o ceiling q w.operators (unequal q o e))
    (plans ∙ (there o old a w.operators w.plans was h).1) (λ q e. refl)
followed (Put o row) w old new a b writes was h is plans =
    replaced_plans o (put_row row (plans_of o w)) w old new a b writes was h is
    (plans ∙ ap (put_state (state_of row)) (there o old a w.operators w.plans was h).1
    ∙ put_states row (plans_of o w))
followed (Close o id) w old new a b writes was h is plans =
    replaced_plans o (close_row id (plans_of o w)) w old new a b writes was h is
    (plans ∙ ap (map (close_if id)) (there o old a w.operators w.plans was h).1
    ∙ close_states id (plans_of o w))
followed (Clear o ids) w old new a b writes was h is plans =
    replaced_plans o (clear_rows ids.items (plans_of o w)) w old new a b writes was h is
    (plans ∙ ap (filter (λ s. not (state_has_any_id ids.items s))) (there o old a w.operators w.plans was h).1
    ∙ clear_states ids.items (plans_of o w))

-- ---- what is read

pub ceiling_is : (o : List ℕ) (w : World) (accounts : Accounts) → AreAccountsOf w.operators w.plans accounts
    → ceiling_in o accounts ≡ ceiling_of o w
unfolding ceiling_of
ceiling_is o w accounts h = h.ceilings o

pub absent : (found : Option OperatorEntry) → false ≡ is_some found → found ≡ None
absent None e = refl
absent (Some a) e = cc

pub states_found : (id : List ℕ) (rows : List PlanRow)
    → option_map (λ s. s.states) (find (state_has_id id) (map state_of rows)) ≡ states_of (stored_of id rows)
unfolding stored_of
states_found id [] = refl
states_found id (r ∷ rows) = go (is_eq (text_cmp id r.id)) (states_found id rows) where
  go : (b : Bool) → option_map (λ s. s.states) (find (state_has_id id) (map state_of rows))
      ≡ option_map states_in (find (world.has_id id) rows)
      → option_map (λ (s : PlanState). s.states)
      (cond b (Some (state_of r)) (find (state_has_id id) (map state_of rows)))
      ≡ option_map states_in (cond b (Some r) (find (world.has_id id) rows))
  go true ih = refl
  go false ih = ih

pub counted : (kept : PlanState → ℕ) (count : PlanRow → ℕ) (id : List ℕ)
    → ((r : PlanRow) → kept (state_of r) ≡ count r) → (rows : List PlanRow)
    → total_beside kept id (map state_of rows) ≡ world.count_beside count id rows
unfolding world.count_beside
counted kept count id same [] = refl
counted kept count id same (r ∷ rows) =
    sum_by-cons (counted_unless kept id) (state_of r) (map state_of rows)
    ∙ ap (λ n. counted_unless kept id (state_of r) + n) (counted kept count id same rows)
    ∙ ap (λ k. cond (world.has_id id r) 0 k + world.count_beside count id rows) (same r)
