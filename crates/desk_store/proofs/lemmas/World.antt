-- What a change of one operator's plans does to what each operator owns, with its proof.
use Rattle.std.proofs.Common.{◌≡◌, ℕ, suc, ◌+◌, ◌≤◌, Bool, true, false, true≢false, cond, not, List, [], ◌∷◌, ◌++◌, length, map, Option, Some, None, inl, inr, refl, sym, ap, subst, ◌∙◌, arith, Less, Equal, Greater}
use Rattle.std.specs.Prelude.{IsSome, is_some, IfSome}
use Rattle.std.specs.List.{filter, find, AllByRecursion}
use Rattle.std.specs.List.Sorted.{IsStrictlySortedBy}
use Rattle.std.specs.Option.{option_map}
use Rattle.std.specs.declared.cmp.Ordering.{Ordering}
use Rattle.std.specs.Ordering.{ordering_reverse, is_eq, is_lt, is_gt, match_ordering}
use Rattle.std.proofs.lemmas.List.Kept.{IsStrictlySortedBy-filter}
use Rattle.std.proofs.lemmas.List.{length-map}
use Rattle.std.proofs.lemmas.Cmp.{tied_itself}
use Rattle.std.specs.Cmp.Lexicographic.{nat_list_cmp_total}
use Rattle.std.proofs.lemmas.Map.Lookups.{exact_bytes}
use Rattle.desk_rules.specs.declared.plan.PlanRow.{PlanRow}
use Rattle.desk_rules.specs.declared.words.Usage.TheVariants as usage
use Rattle.desk_rules.specs.Limits.{max_plans, max_priority}
use Rattle.desk_store.specs.declared.change.Change.{Change}
use Rattle.desk_store.specs.declared.change.Change.TheVariants.{Enrol, Put, Close, Clear}
use Rattle.desk_store.specs.World.{Filed, Listed, World, text_cmp, listed_cmp, row_cmp, rows_by, plans_of, is_by, has_id, stored_of, ceiling_of, IsListed, IsWorld}
use Rattle.desk_store.specs.Changes.{put_row, closed, close_row, is_named, clear_rows, list_operator, replaced, filed_by, is_before, is_after, with_plans, with_operator, HasRoom, changed_by, IsFitting}
use Rattle.desk_store.proofs.lemmas.Order.{is_equal, all_weaker, all_filter, all_append, all_map, all_any, sorted_map, parts, replaced_sorted, name_of, rows_sorted, put_sorted}

rows_by-append : (o : List ℕ) (ps qs : List Filed) → rows_by o (ps ++ qs) ≡ rows_by o ps ++ rows_by o qs
rows_by-append o [] qs = refl
rows_by-append o (p ∷ ps) qs = by_test (is_by o p) (rows_by-append o ps qs) where
  by_test : (b : Bool) → rows_by o (ps ++ qs) ≡ rows_by o ps ++ rows_by o qs
      → map (λ r. r.row) (cond b (p ∷ filter (is_by o) (ps ++ qs)) (filter (is_by o) (ps ++ qs)))
      ≡ map (λ r. r.row) (cond b (p ∷ filter (is_by o) ps) (filter (is_by o) ps)) ++ rows_by o qs
  by_test true ih = ap (λ rs. p.row ∷ rs) ih
  by_test false ih = ih

cond_nil : (b : Bool) → ◌≡◌ {A = List PlanRow} [] (cond b [] [])
cond_nil true = refl
cond_nil false = refl

-- of plans of which a test by the operator's name keeps some, an operator's are all kept or none
rows_by-filter :
    (o : List ℕ) (keeps : List ℕ → Bool) (ps : List Filed)
    → rows_by o (filter (λ p. keeps p.operator) ps) ≡ cond (keeps o) (rows_by o ps) []
rows_by-filter o keeps [] = cond_nil (keeps o)
rows_by-filter o keeps (p ∷ ps) =
    by_test (keeps p.operator) (is_by o p) (rows_by-filter o keeps ps)
    (λ f. sym (ap keeps (name_of o p f))) refl where
      kept : List Filed
      kept = filter (λ q. keeps q.operator) ps

      by_test : (t : Bool) (n : Bool) → rows_by o kept ≡ cond (keeps o) (rows_by o ps) []
          → (n ≡ true → t ≡ keeps o) → is_by o p ≡ n
          → rows_by o (cond t (p ∷ kept) kept)
          ≡ cond (keeps o) (map (λ q. q.row) (cond n (p ∷ filter (is_by o) ps) (filter (is_by o) ps))) []
      by_test true true ih same e = let k = same refl in rw (e, ← k) (ap (λ rs. p.row ∷ rs) (rw (← k) at ih))
      by_test false true ih same e = let k = same refl in rw (← k) (rw (← k) at ih)
      by_test true false ih same e = rw e ih
      by_test false false ih same e = ih

rows_by-filed :
    (o q : List ℕ) (rows : List PlanRow)
    → rows_by o (map (filed_by q) rows) ≡ cond (is_eq (text_cmp o q)) rows []
rows_by-filed o q [] = cond_nil (is_eq (text_cmp o q))
rows_by-filed o q (r ∷ rs) = by_test (is_eq (text_cmp o q)) (rows_by-filed o q rs) where
  by_test : (b : Bool) → rows_by o (map (filed_by q) rs) ≡ cond b rs []
      → map (λ p. p.row) (cond b (filed_by q r ∷ filter (is_by o) (map (filed_by q) rs))
      (filter (is_by o) (map (filed_by q) rs))) ≡ cond b (r ∷ rs) []
  by_test true ih = ap (λ xs. r ∷ xs) ih
  by_test false ih = ih

rows_of_parts : (o q : List ℕ) (rows : List PlanRow) (ps : List Filed)
    → rows_by o (filter (is_before q) ps ++ (map (filed_by q) rows ++ filter (is_after q) ps))
    ≡ cond (is_gt (text_cmp q o)) (rows_by o ps) []
    ++ (cond (is_eq (text_cmp o q)) rows [] ++ cond (is_lt (text_cmp q o)) (rows_by o ps) [])
rows_of_parts o q rows ps =
    rows_by-append o (filter (is_before q) ps) _
    ∙ ap (λ xs. xs ++ rows_by o (map (filed_by q) rows ++ filter (is_after q) ps))
    (rows_by-filter o (λ n. is_gt (text_cmp q n)) ps)
    ∙ ap (λ xs. cond (is_gt (text_cmp q o)) (rows_by o ps) [] ++ xs)
    (rows_by-append o (map (filed_by q) rows) _
    ∙ ap (λ xs. xs ++ rows_by o (filter (is_after q) ps)) (rows_by-filed o q rows)
    ∙ ap (λ xs. cond (is_eq (text_cmp o q)) rows [] ++ xs) (rows_by-filter o (λ n. is_lt (text_cmp q n)) ps))

append_none : (xs : List PlanRow) → xs ++ [] ≡ xs
append_none [] = refl
append_none (x ∷ xs) = ap (λ ys. x ∷ ys) (append_none xs)

-- the operator then owns the new plans
pub own_replaced : (o : List ℕ) (rows : List PlanRow) (w : World) → plans_of o (with_plans w o rows) ≡ rows
unfolding with_plans
own_replaced o rows w = rows_of_parts o o rows w.plans
    ∙ by_tie (text_cmp o o) (tied_itself nat_list_cmp_total o) where
      by_tie : (n : Ordering) → n ≡ Equal
          → cond (is_gt n) (rows_by o w.plans) []
          ++ (cond (is_eq n) rows [] ++ cond (is_lt n) (rows_by o w.plans) []) ≡ rows
      by_tie Less e = cc
      by_tie Equal e = append_none rows
      by_tie Greater e = cc

-- every other operator owns what it did
pub others_kept :
    (o q : List ℕ) (rows : List PlanRow) (w : World) → is_eq (text_cmp o q) ≡ false
    → plans_of o (with_plans w q rows) ≡ plans_of o w
unfolding with_plans
others_kept o q rows w e = rows_of_parts o q rows w.plans
    ∙ ap (λ n. cond (is_gt n) (rows_by o w.plans) []
    ++ (cond (is_eq (text_cmp o q)) rows [] ++ cond (is_lt n) (rows_by o w.plans) []))
    (nat_list_cmp_total.antisymm q o) ∙ by_order (text_cmp o q) e where
      by_order : (n : Ordering) → is_eq n ≡ false
          → cond (is_gt (ordering_reverse n)) (rows_by o w.plans) []
          ++ (cond (is_eq n) rows [] ++ cond (is_lt (ordering_reverse n)) (rows_by o w.plans) [])
          ≡ rows_by o w.plans
      by_order Less f = append_none (rows_by o w.plans)
      by_order Equal f = cc
      by_order Greater f = refl

-- a ceiling is found for each operator that is listed, and of no other
listed_found :
    (name q : List ℕ) (ceiling : ℕ) (ls : List Listed)
    → is_some (find (λ l. is_eq (text_cmp q l.name)) ls) ≡ true
    → is_some (find (λ l. is_eq (text_cmp q l.name)) (list_operator name ceiling ls)) ≡ true
listed_found name q ceiling [] h = cc
listed_found name q ceiling (l ∷ ls) h =
    by_order (text_cmp name l.name) refl (is_eq (text_cmp q l.name)) refl
    (listed_found name q ceiling ls) h where
      test : Listed → Bool
      test k = is_eq (text_cmp q k.name)

      new : Listed
      new = record { name = name; ceiling = ceiling }

      either :
          (a b : Bool) (x y : Option Listed) → is_some (cond b (Some l) y) ≡ true
          → is_some (cond a (Some new) (cond b (Some l) y)) ≡ true
      either true b x y e = refl
      either false b x y e = e

      by_order : (n : Ordering) → text_cmp name l.name ≡ n → (b : Bool) → test l ≡ b
          → (is_some (find test ls) ≡ true → is_some (find test (list_operator name ceiling ls)) ≡ true)
          → is_some (cond b (Some l) (find test ls)) ≡ true
          → is_some (find test (match_ordering n (new ∷ l ∷ ls) (new ∷ ls)
          (l ∷ list_operator name ceiling ls)))
          ≡ true
      by_order Less m b e ih f = either (test new) (test l) (Some l) (find test ls) (rw e f)
      by_order Equal m true e ih f = rw (ap test_name (exact_bytes name l.name m) ∙ e) refl where
        test_name : List ℕ → Bool
        test_name n = is_eq (text_cmp q n)
      by_order Equal m false e ih f = rw (ap test_name (exact_bytes name l.name m) ∙ e) f where
        test_name : List ℕ → Bool
        test_name n = is_eq (text_cmp q n)
      by_order Greater m true e ih f = rw e refl
      by_order Greater m false e ih f = rw e (ih f)

is_some_mapped : (found : Option Listed) → is_some (option_map (λ l. l.ceiling) found) ≡ is_some found
is_some_mapped None = refl
is_some_mapped (Some l) = refl

-- who is listed stays so
listed_still :
    (name q : List ℕ) (ceiling : ℕ) (w : World) → IsSome (ceiling_of q w)
    → IsSome (ceiling_of q (with_operator w name ceiling))
unfolding ceiling_of with_operator
listed_still name q ceiling w h =
    is_some_mapped (find (λ l. is_eq (text_cmp q l.name)) (list_operator name ceiling w.operators))
    ∙ listed_found name q ceiling w.operators
    (sym (is_some_mapped (find (λ l. is_eq (text_cmp q l.name)) w.operators)) ∙ h)

-- operators stay in order when one is listed
list_after :
    (m name : List ℕ) (ceiling : ℕ) (ls : List Listed) → text_cmp m name ≡ Less
    → AllByRecursion (λ l. text_cmp m l.name ≡ Less) ls
    → AllByRecursion (λ l. text_cmp m l.name ≡ Less) (list_operator name ceiling ls)
list_after m name ceiling [] l h = (l, tt)
list_after m name ceiling (k ∷ ks) l h =
    by_order (text_cmp name k.name) (list_after m name ceiling ks l h.1) where
      by_order :
          (n : Ordering) → AllByRecursion (λ j. text_cmp m j.name ≡ Less) (list_operator name ceiling ks)
          → AllByRecursion (λ j. text_cmp m j.name ≡ Less)
          (match_ordering n (record { name = name; ceiling = ceiling } ∷ k ∷ ks)
          (record { name = name; ceiling = ceiling } ∷ ks) (k ∷ list_operator name ceiling ks))
      by_order Less ih = (l, h)
      by_order Equal ih = (l, h.1)
      by_order Greater ih = (h.0, ih)

list_sorted :
    (name : List ℕ) (ceiling : ℕ) (ls : List Listed) → IsStrictlySortedBy listed_cmp ls
    → IsStrictlySortedBy listed_cmp (list_operator name ceiling ls)
unfolding IsStrictlySortedBy
list_sorted name ceiling [] s = (tt, tt)
list_sorted name ceiling (l ∷ ls) s =
    by_order (text_cmp name l.name) refl (list_sorted name ceiling ls s.1) where
      by_order : (n : Ordering) → text_cmp name l.name ≡ n
          → IsStrictlySortedBy listed_cmp (list_operator name ceiling ls)
          → IsStrictlySortedBy listed_cmp
          (match_ordering n (record { name = name; ceiling = ceiling } ∷ l ∷ ls)
          (record { name = name; ceiling = ceiling } ∷ ls) (l ∷ list_operator name ceiling ls))
      by_order Less m ih = (
        (
          m,
          all_weaker (λ k. listed_cmp l k ≡ Less) (λ k. text_cmp name k.name ≡ Less)
              (λ k h. nat_list_cmp_total.trans name l.name k.name m h) ls s.0,
        ),
        s,
      )
      by_order Equal m ih = (
        all_weaker (λ k. listed_cmp l k ≡ Less) (λ k. text_cmp name k.name ≡ Less)
            (λ k h. ap (λ n. text_cmp n k.name) (exact_bytes name l.name m) ∙ h) ls s.0,
        s.1,
      )
      by_order Greater m ih = (
        list_after l.name name ceiling ls (nat_list_cmp_total.antisymm l.name name
            ∙ ap ordering_reverse m) s.0,
        ih,
      )

-- their ceilings stay within the limit
list_within :
    (name : List ℕ) (ceiling : ℕ) (ls : List Listed) → ceiling ≤ max_priority
    → AllByRecursion (λ l. l.ceiling ≤ max_priority) ls
    → AllByRecursion (λ l. l.ceiling ≤ max_priority) (list_operator name ceiling ls)
list_within name ceiling [] low h = (low, tt)
list_within name ceiling (l ∷ ls) low h =
    by_order (text_cmp name l.name) (list_within name ceiling ls low h.1) where
      by_order :
          (n : Ordering) → AllByRecursion (λ k. k.ceiling ≤ max_priority) (list_operator name ceiling ls)
          → AllByRecursion (λ k. k.ceiling ≤ max_priority)
          (match_ordering n (record { name = name; ceiling = ceiling } ∷ l ∷ ls)
          (record { name = name; ceiling = ceiling } ∷ ls) (l ∷ list_operator name ceiling ls))
      by_order Less ih = (low, h)
      by_order Equal ih = (low, h.1)
      by_order Greater ih = (h.0, ih)

-- enrolling keeps what every world is
enrol_kept :
    (name : List ℕ) (ceiling : ℕ) (w : World) → IsWorld w → ceiling ≤ max_priority
    → IsWorld (with_operator w name ceiling)
unfolding with_operator
enrol_kept name ceiling w h low = record {
  operators = list_sorted name ceiling w.operators h.operators;
  plans = h.plans;
  listed = all_weaker (IsListed w) (IsListed (with_operator w name ceiling))
      (λ p. listed_still name p.operator ceiling w) w.plans h.listed;
  rows = h.rows;
  ceilings = list_within name ceiling w.operators low h.ceilings;
  priorities = h.priorities;
}

rows_within :
    (o : List ℕ) (rows : List PlanRow) (w : World) → IsWorld w → length rows ≤ max_plans → (q : List ℕ)
    → length (plans_of q (with_plans w o rows)) ≤ max_plans
rows_within o rows w h few q = by_name (is_eq (text_cmp q o)) refl where
  same : is_eq (text_cmp q o) ≡ true → o ≡ q
  same e = sym (exact_bytes q o (is_equal (text_cmp q o) e))

  by_name : (b : Bool) → is_eq (text_cmp q o) ≡ b → length (plans_of q (with_plans w o rows)) ≤ max_plans
  by_name true e = subst (λ n. length (plans_of n (with_plans w o rows)) ≤ max_plans) (same e)
      (rw (own_replaced o rows w) few)
  by_name false e = rw (others_kept q o rows w e) (h.rows q)

-- what holds of each plan once an operator's are replaced
all_replaced :
    (P : Filed → Type 0) (o : List ℕ) (rows : List PlanRow) (ps : List Filed) → AllByRecursion P ps
    → AllByRecursion (λ r. P (filed_by o r)) rows → AllByRecursion P (replaced o rows ps)
all_replaced P o rows ps h k =
    all_append P (filter (is_before o) ps) _ (all_filter P (is_before o) ps h)
    (all_append P (map (filed_by o) rows) _ (all_map P (filed_by o) rows k) (all_filter P (is_after o) ps h))

-- rows of a listed operator that are in order and within the limits keep what every world is
plans_kept :
    (o : List ℕ) (rows : List PlanRow) (w : World) → IsWorld w → IsSome (ceiling_of o w)
    → IsStrictlySortedBy row_cmp rows → length rows ≤ max_plans
    → AllByRecursion (λ r. r.priority ≤ max_priority) rows → IsWorld (with_plans w o rows)
unfolding with_plans ceiling_of
plans_kept o rows w h listed sorted few low = record {
  operators = h.operators;
  plans = replaced_sorted o rows w.plans sorted h.plans;
  listed = all_replaced (IsListed w) o rows w.plans h.listed
      (all_any (λ r. IsSome (ceiling_of o w)) (λ r. listed) rows);
  rows = rows_within o rows w h few;
  ceilings = h.ceilings;
  priorities = all_replaced (λ p. p.row.priority ≤ max_priority) o rows w.plans h.priorities low;
}

own_within :
    (o : List ℕ) (w : World) → IsWorld w → AllByRecursion (λ r. r.priority ≤ max_priority) (plans_of o w)
own_within o w h = all_map (λ r. r.priority ≤ max_priority) (λ p. p.row) (filter (is_by o) w.plans)
    (all_filter (λ p. p.row.priority ≤ max_priority) (is_by o) w.plans h.priorities)

-- a row at the most is more
length-put_row : (row : PlanRow) (rows : List PlanRow) → length (put_row row rows) ≤ length rows + 1
length-put_row row [] = omega arith
length-put_row row (r ∷ rs) = by_order (text_cmp row.id r.id) (length-put_row row rs) where
  by_order :
      (n : Ordering) → length (put_row row rs) ≤ length rs + 1
      → length (match_ordering n (row ∷ r ∷ rs) (row ∷ rs) (r ∷ put_row row rs)) ≤ length (r ∷ rs) + 1
  by_order Less ih = omega arith
  by_order Equal ih = omega arith
  by_order Greater ih = omega arith

none_found :
    (id : List ℕ) (rows : List PlanRow) → AllByRecursion (λ r. text_cmp id r.id ≡ Less) rows
    → find (has_id id) rows ≡ None
none_found id [] h = refl
none_found id (r ∷ rs) h = rw h.0 (none_found id rs h.1)

-- a row in place of the one of its id is none more
pub length-put_stored :
    (row : PlanRow) (rows : List PlanRow) → IsStrictlySortedBy row_cmp rows → IsSome (stored_of row.id rows)
    → length (put_row row rows) ≡ length rows
unfolding IsStrictlySortedBy stored_of
length-put_stored row [] s h = cc
length-put_stored row (r ∷ rs) s h =
    by_order (text_cmp row.id r.id) refl h (length-put_stored row rs s.1) where
      later : text_cmp row.id r.id ≡ Less → find (has_id row.id) rs ≡ None
      later l = none_found row.id rs
          (all_weaker (λ q. row_cmp r q ≡ Less) (λ q. text_cmp row.id q.id ≡ Less)
          (λ q k. nat_list_cmp_total.trans row.id r.id q.id l k) rs s.0)

      absent : find (has_id row.id) rs ≡ None → is_some (find (has_id row.id) rs) ≡ true → ⊥
      absent e f = true≢false (sym f ∙ ap is_some e)

      by_order :
          (n : Ordering) → text_cmp row.id r.id ≡ n
          → is_some (cond (is_eq n) (Some r) (find (has_id row.id) rs)) ≡ true
          → (is_some (find (has_id row.id) rs) ≡ true → length (put_row row rs) ≡ length rs)
          → length (match_ordering n (row ∷ r ∷ rs) (row ∷ rs) (r ∷ put_row row rs)) ≡ length (r ∷ rs)
      by_order Less l f ih = absurd (absent (later l) f)
      by_order Equal l f ih = refl
      by_order Greater l f ih = ap suc (ih f)

room_within :
    (o : List ℕ) (row : PlanRow) (w : World) → IsWorld w → HasRoom w o row.id
    → length (put_row row (plans_of o w)) ≤ max_plans
room_within o row w h (inl stored) =
    omega (arith, length-put_stored row (plans_of o w) (rows_sorted o w.plans h.plans) stored, h.rows o)
room_within o row w h (inr room) = omega (arith, length-put_row row (plans_of o w), room)

put_low :
    (row : PlanRow) (rows : List PlanRow) → row.priority ≤ max_priority
    → AllByRecursion (λ r. r.priority ≤ max_priority) rows
    → AllByRecursion (λ r. r.priority ≤ max_priority) (put_row row rows)
put_low row [] low h = (low, tt)
put_low row (r ∷ rs) low h = by_order (text_cmp row.id r.id) (put_low row rs low h.1) where
  by_order : (n : Ordering) → AllByRecursion (λ q. q.priority ≤ max_priority) (put_row row rs)
      → AllByRecursion (λ q. q.priority ≤ max_priority)
      (match_ordering n (row ∷ r ∷ rs) (row ∷ rs) (r ∷ put_row row rs))
  by_order Less ih = (low, h)
  by_order Equal ih = (low, h.1)
  by_order Greater ih = (h.0, ih)

abbrev closed_if : List ℕ → PlanRow → PlanRow
closed_if id r = cond (has_id id r) (closed r) r

close_same :
    (id : List ℕ) (r : PlanRow) → ((closed_if id r).id ≡ r.id) × ((closed_if id r).priority ≡ r.priority)
close_same id r = by_test (has_id id r) where
  by_test : (b : Bool) → ((cond b (closed r) r).id ≡ r.id) × ((cond b (closed r) r).priority ≡ r.priority)
  by_test true = (refl, refl)
  by_test false = (refl, refl)

-- those that a test keeps are no more
pub fewer : (p : PlanRow → Bool) (rows : List PlanRow) → length (filter p rows) ≤ length rows
fewer p [] = omega arith
fewer p (r ∷ rs) = by_test (p r) (fewer p rs) where
  by_test :
      (b : Bool) → length (filter p rs) ≤ length rs
      → length (cond b (r ∷ filter p rs) (filter p rs)) ≤ length (r ∷ rs)
  by_test true ih = omega (arith, ih)
  by_test false ih = omega (arith, ih)

-- a change that fits keeps what every world is
pub kept : (change : Change) (w : World) → IsWorld w → IsFitting change w → IsWorld (changed_by change w)
unfolding changed_by IsFitting
kept (Enrol operator ceiling) w h fits = enrol_kept operator ceiling w h fits
kept (Put operator row) w h fits =
    plans_kept operator (put_row row (plans_of operator w)) w h fits.2
    (put_sorted row (plans_of operator w) (rows_sorted operator w.plans h.plans))
    (room_within operator row w h fits.0) (put_low row (plans_of operator w) fits.1 (own_within operator w h))
kept (Close operator id) w h fits =
    plans_kept operator (close_row id (plans_of operator w)) w h fits.0
    (sorted_map row_cmp row_cmp (closed_if id)
    (λ r q e. (λ i. text_cmp ((close_same id r).0 i) ((close_same id q).0 i)) ∙ e) (plans_of operator w)
    (rows_sorted operator w.plans h.plans))
    (omega (arith, length-map (plans_of operator w) (closed_if id), h.rows operator))
    (all_map (λ r. r.priority ≤ max_priority) (closed_if id) (plans_of operator w)
    (all_weaker (λ r. r.priority ≤ max_priority) (λ r. (closed_if id r).priority ≤ max_priority)
    (λ r k. omega (arith, (close_same id r).1, k)) (plans_of operator w) (own_within operator w h)))
kept (Clear operator ids) w h fits =
    plans_kept operator (clear_rows ids.items (plans_of operator w)) w h fits.0
    (IsStrictlySortedBy-filter row_cmp (λ r. not (is_named ids.items r)) (plans_of operator w)
    (rows_sorted operator w.plans h.plans))
    (omega (arith, fewer (λ r. not (is_named ids.items r)) (plans_of operator w), h.rows operator))
    (all_filter (λ r. r.priority ≤ max_priority) (λ r. not (is_named ids.items r)) (plans_of operator w)
    (own_within operator w h))

close_none :
    (id : List ℕ) (rows : List PlanRow) → AllByRecursion (λ r. text_cmp id r.id ≡ Less) rows
    → close_row id rows ≡ rows
close_none id [] h = refl
close_none id (r ∷ rs) h = rw h.0 (ap (λ qs. r ∷ qs) (close_none id rs h.1))

-- closing a row that is closed leaves rows in order as they are
pub close_closed :
    (id : List ℕ) (rows : List PlanRow) (row : PlanRow) → IsStrictlySortedBy row_cmp rows
    → stored_of id rows ≡ Some row → row.usage ≡ usage.Closed → close_row id rows ≡ rows
unfolding IsStrictlySortedBy stored_of
close_closed id [] row s e shut = cc
close_closed id (r ∷ rs) row s e shut = by_order (text_cmp id r.id) refl e (close_closed id rs row s.1) where
  later : text_cmp id r.id ≡ Equal → AllByRecursion (λ q. text_cmp id q.id ≡ Less) rs
  later l = all_weaker (λ q. row_cmp r q ≡ Less) (λ q. text_cmp id q.id ≡ Less)
      (λ q k. ap (λ i. text_cmp i q.id) (exact_bytes id r.id l) ∙ k) rs s.0

  is : ◌≡◌ {A = Option PlanRow} (Some r) (Some row) → r ≡ row
  is f = cc

  same : r ≡ row → closed r ≡ r
  same f = λ k. record r { usage = sym (ap (λ q. q.usage) f ∙ shut) k }

  by_order :
      (n : Ordering) → text_cmp id r.id ≡ n → cond (is_eq n) (Some r) (find (has_id id) rs) ≡ Some row
      → (find (has_id id) rs ≡ Some row → row.usage ≡ usage.Closed → close_row id rs ≡ rs)
      → cond (is_eq n) (closed r) r ∷ close_row id rs ≡ r ∷ rs
  by_order Less l f ih = ap (λ qs. r ∷ qs) (ih f shut)
  by_order Equal l f ih = λ k. same (is f) k ∷ close_none id rs (later l) k
  by_order Greater l f ih = ap (λ qs. r ∷ qs) (ih f shut)

-- an operator's plans replaced by themselves
pub replaced_by_own : (o : List ℕ) (w : World) → IsWorld w → with_plans w o (plans_of o w) ≡ w
unfolding with_plans
replaced_by_own o w h = ap (λ ps. record w { plans = ps }) (sym (parts o w.plans h.plans))

-- an operator that is not listed has no plans
pub unlisted_none : (o : List ℕ) (w : World) → IsWorld w → ceiling_of o w ≡ None → plans_of o w ≡ []
unlisted_none o w h none = none_by w.plans h.listed where
  unlisted : (p : Filed) → IsListed w p → is_by o p ≡ true → ⊥
  unlisted p there own = true≢false (sym there ∙ ap (λ n. is_some (ceiling_of n w)) (sym (name_of o p own))
      ∙ ap is_some none)

  none_by : (ps : List Filed) → AllByRecursion (IsListed w) ps → rows_by o ps ≡ []
  none_by [] all = refl
  none_by (p ∷ ps) all = by_test (is_by o p) refl (none_by ps all.1) where
    by_test :
        (b : Bool) → is_by o p ≡ b → rows_by o ps ≡ []
        → map (λ q. q.row) (cond b (p ∷ filter (is_by o) ps) (filter (is_by o) ps)) ≡ []
    by_test true e ih = absurd (unlisted p all.0 e)
    by_test false e ih = ih

-- a ceiling that is found is within the limit
found_within :
    (o : List ℕ) (ls : List Listed) → AllByRecursion (λ l. l.ceiling ≤ max_priority) ls
    → IfSome (option_map (λ l. l.ceiling) (find (λ l. is_eq (text_cmp o l.name)) ls)) (λ n. n ≤ max_priority)
found_within o [] h = tt
found_within o (l ∷ ls) h = by_test (is_eq (text_cmp o l.name)) (found_within o ls h.1) where
  by_test : (b : Bool) → IfSome (option_map (λ k. k.ceiling) (find (λ k. is_eq (text_cmp o k.name)) ls))
      (λ n. n ≤ max_priority) → IfSome
      (option_map (λ k. k.ceiling) (cond b (Some l) (find (λ k. is_eq (text_cmp o k.name)) ls)))
      (λ n. n ≤ max_priority)
  by_test true ih = h.0
  by_test false ih = ih

pub ceiling_within : (o : List ℕ) (w : World) → IsWorld w → IfSome (ceiling_of o w) (λ n. n ≤ max_priority)
unfolding ceiling_of
ceiling_within o w h = found_within o w.operators h.ceilings
