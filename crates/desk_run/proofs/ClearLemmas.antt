-- Clears: the ids found are those of the plans that are taken out.
use Rattle.std.proofs.Common.{◌≡◌, ◌≤◌, ◌<◌, ◌+◌, ◌^◌, ℕ, Bool, true, false, cond, not, ◌||◌, List, [], ◌∷◌, ◌++◌, length, map, take, get_or, Some, None, refl, sym, ap, subst, ◌∙◌, arith, Less, Equal, Greater}
use Rattle.std.specs.Prelude.{IsSome, is_some, Option}
use Rattle.std.specs.List.{filter, find, list_any, AllByRecursion}
use Rattle.std.specs.List.Sorted.{IsStrictlySortedBy}
use Rattle.std.specs.declared.cmp.Ordering.{Ordering}
use Rattle.std.specs.Ordering.{is_eq, ordering_reverse}
use Rattle.std.specs.Cmp.Lexicographic.{nat_list_cmp_total}
use Rattle.std.proofs.lemmas.Cmp.{tied_itself}
use Rattle.std.proofs.lemmas.List.{take_more, map-append, length-map}
use Rattle.std.proofs.lemmas.List.Elements.{filter-append, All-from_recursion}
use Rattle.std.proofs.lemmas.List.Kept.{IsStrictlySortedBy-filter}
use Rattle.std.proofs.lemmas.Map.Keys.{IsDistinct-from_sorted}
use Rattle.std.proofs.Math.Bool.{or-false}
use Rattle.volume4d.specs.declared.slab.Slab.{Slab}
use Rattle.volume4d.specs.Volume.{Point, Block, block_has}
use Rattle.volume4d.specs.Slab.{slabs_have}
use Rattle.desk_rules.specs.Conflict.{AreSlabsOf}
use Rattle.desk_rules.specs.declared.plan.PlanRow.{PlanRow}
use Rattle.desk_rules.specs.declared.reply.Reply.TheVariants as reply
use Rattle.desk_rules.specs.Limits.{max_plans}
use Rattle.desk_rules.specs.Outcome as said
use Rattle.desk_store.specs.declared.change.Change.{Change}
use Rattle.desk_store.specs.declared.change.Change.TheVariants as change
use Rattle.desk_store.specs.Changes.{parts_in, clear, changed_by, IsFitting, is_named, clear_rows, with_plans, AreStored, AreDistinct}
use Rattle.desk_store.specs.World.{World, text_cmp, row_cmp, has_id, ceiling_of, plans_of, stored_of}
use Rattle.desk_store.proofs.lemmas.Order.{all_weaker, all_filter, all_map, sorted_map}
use Rattle.desk_store.proofs.lemmas.World.{fewer}
use Rattle.desk_run.specs.Verdicts.{replied, is_in, clear_ruling}
use Rattle.desk_run.specs.declared.pending.Pending.{Pending}
use Rattle.desk_run.specs.Calls.{ids_in, IsClearing, IsPendingAs}

-- an operator's plans ascend by id, and no two have one id
abbrev pub AreInOrder : List PlanRow → Type 0
AreInOrder rows = IsStrictlySortedBy row_cmp rows

-- an extent's ids, plan by plan
ids_append : (extent : Block) (rows : List PlanRow) (row : PlanRow)
    → ids_in extent (rows ++ row ∷ []) ≡ ids_in extent rows
    ++ map (λ r. r.id) (cond (is_in extent row) (row ∷ []) [])
ids_append extent rows row =
    ap (map (λ r. r.id)) (filter-append (is_in extent) rows (row ∷ []))
    ∙ map-append (λ r. r.id) (filter (is_in extent) rows) _

next_ids : (extent : Block) (rows : List PlanRow) (n : ℕ) (row : PlanRow) → n < length rows → row
    ≡ get_or rows n row
    → ids_in extent (take (n + 1) rows)
    ≡ ids_in extent (take n rows) ++ map (λ r. r.id) (cond (is_in extent row) (row ∷ []) [])
next_ids extent rows n row below is =
    ap (ids_in extent) (take_more rows n row below ∙ ap (λ r. take n rows ++ r ∷ []) (sym is))
    ∙ ids_append extent (take n rows) row

append_none : (xs : List (List ℕ)) → xs ++ [] ≡ xs
append_none [] = refl
append_none (x ∷ xs) = ap (λ ys. x ∷ ys) (append_none xs)

pub id_added : (extent : Block) (rows : List PlanRow) (n : ℕ) (row : PlanRow) (ids : List (List ℕ))
    → n < length rows
    → row ≡ get_or rows n row → is_in extent row ≡ true → ids ≡ ids_in extent (take n rows)
    → ids ++ row.id ∷ [] ≡ ids_in extent (take (n + 1) rows)
id_added extent rows n row ids below is there so_far =
    ap (λ xs. xs ++ row.id ∷ []) so_far
    ∙ ap (λ b. ids_in extent (take n rows) ++ map (λ r. r.id) (cond b (row ∷ []) [])) (sym there)
    ∙ sym (next_ids extent rows n row below is)

pub id_passed : (extent : Block) (rows : List PlanRow) (n : ℕ) (row : PlanRow) (ids : List (List ℕ))
    → n < length rows
    → row ≡ get_or rows n row → is_in extent row ≡ false → ids ≡ ids_in extent (take n rows)
    → ids ≡ ids_in extent (take (n + 1) rows)
id_passed extent rows n row ids below is there so_far =
    so_far
    ∙ sym (append_none (ids_in extent (take n rows)))
    ∙ ap (λ b. ids_in extent (take n rows) ++ map (λ r. r.id) (cond b (row ∷ []) [])) (sym there)
    ∙ sym (next_ids extent rows n row below is)

-- the ids of the plans that a test takes
abbrev ids_by : (PlanRow → Bool) → List PlanRow → List (List ℕ)
ids_by takes rows = map (λ r. r.id) (filter takes rows)

own_id : (row : PlanRow) → has_id row.id row ≡ true
own_id row = ap is_eq (tied_itself nat_list_cmp_total row.id)

is_less : (n : Ordering) → n ≡ Less → is_eq n ≡ false
is_less Less e = refl
is_less Equal e = cc
is_less Greater e = cc

is_greater : (n : Ordering) → n ≡ Greater → is_eq n ≡ false
is_greater Less e = cc
is_greater Equal e = cc
is_greater Greater e = refl

-- a plan before others has none of their ids
unnamed : (takes : PlanRow → Bool) (row : PlanRow) (rows : List PlanRow)
    → AllByRecursion (λ r. row_cmp row r ≡ Less) rows
    → is_named (ids_by takes rows) row ≡ false
unnamed takes row [] all = refl
unnamed takes row (r ∷ rs) all = by_test (takes r) (unnamed takes row rs all.1) where
  other : has_id r.id row ≡ false
  other = is_greater (text_cmp r.id row.id) (nat_list_cmp_total.antisymm r.id row.id
      ∙ ap ordering_reverse all.0)

  by_test : (b : Bool) → is_named (ids_by takes rs) row ≡ false
      → is_named (map (λ s. s.id) (cond b (r ∷ filter takes rs) (filter takes rs))) row ≡ false
  by_test true ih = rw other ih
  by_test false ih = ih

-- a plan is named where the test takes it
abbrev IsNamedRight : (PlanRow → Bool) → List (List ℕ) → PlanRow → Type 0
IsNamedRight takes ids r = is_named ids r ≡ takes r

named_right : (takes : PlanRow → Bool) (rows : List PlanRow) → IsStrictlySortedBy row_cmp rows
    → AllByRecursion (IsNamedRight takes (ids_by takes rows)) rows
unfolding IsStrictlySortedBy
named_right takes [] s = tt
named_right takes (r ∷ rs) s = by_test (takes r) refl (named_right takes rs s.1) where
  passed : (q : PlanRow) → row_cmp r q ≡ Less → IsNamedRight takes (ids_by takes rs) q
      → IsNamedRight takes (r.id ∷ ids_by takes rs) q
  passed q l h = rw (is_less (text_cmp r.id q.id) l) h

  both : (rows : List PlanRow) → AllByRecursion (λ q. row_cmp r q ≡ Less) rows
      → AllByRecursion (IsNamedRight takes (ids_by takes rs)) rows
      → AllByRecursion (IsNamedRight takes (r.id ∷ ids_by takes rs)) rows
  both [] l h = tt
  both (q ∷ qs) l h = (passed q l.0 h.0, both qs l.1 h.1)

  by_test : (b : Bool) → takes r ≡ b → AllByRecursion (IsNamedRight takes (ids_by takes rs)) rs
      → AllByRecursion (IsNamedRight takes (map (λ q. q.id)
      (cond b (r ∷ filter takes rs) (filter takes rs))))
      (r ∷ rs)
  by_test true e ih = (rw (own_id r, e) refl, both rs s.0 ih)
  by_test false e ih = (unnamed takes r rs s.0 ∙ sym e, ih)

-- so those that are left are those that it doesn't take
same_left : (f g : PlanRow → Bool) (rows : List PlanRow) → AllByRecursion (λ r. f r ≡ g r) rows
    → filter (λ r. not (f r)) rows ≡ filter (λ r. not (g r)) rows
same_left f g [] all = refl
same_left f g (r ∷ rs) all =
    ap (λ b. cond (not b) (r ∷ filter (λ q. not (f q)) rs) (filter (λ q. not (f q)) rs)) all.0
    ∙ ap (λ left. cond (not (g r)) (r ∷ left) left) (same_left f g rs all.1)

cleared_is : (takes : PlanRow → Bool) (rows : List PlanRow) → IsStrictlySortedBy row_cmp rows
    → clear_rows (ids_by takes rows) rows ≡ filter (λ r. not (takes r)) rows
cleared_is takes rows s = same_left (is_named (ids_by takes rows)) takes rows (named_right takes rows s)

-- each plan is found by its id
found_with : (r : PlanRow) (rows : List PlanRow) (q : PlanRow) → is_some (find (has_id q.id) rows)
    ≡ true
    → is_some (find (has_id q.id) (r ∷ rows)) ≡ true
found_with r rows q h = by_test (has_id q.id r) where
  by_test : (b : Bool) → is_some (cond b (Some r) (find (has_id q.id) rows)) ≡ true
  by_test true = refl
  by_test false = h

each_found : (rows : List PlanRow) → AllByRecursion (λ r. is_some (find (has_id r.id) rows) ≡ true) rows
each_found [] = tt
each_found (r ∷ rs) = (
  rw (own_id r) refl,
  all_weaker (λ q. is_some (find (has_id q.id) rs) ≡ true)
      (λ q. is_some (find (has_id q.id) (r ∷ rs)) ≡ true)
      (found_with r rs) rs (each_found rs),
)

are_stored : (takes : PlanRow → Bool) (rows : List PlanRow) → AreStored (ids_by takes rows) rows
unfolding stored_of
are_stored takes rows =
    All-from_recursion (λ id. IsSome (stored_of id rows)) (ids_by takes rows)
    (all_map (λ id. IsSome (stored_of id rows)) (λ r. r.id) (filter takes rows)
    (all_filter (λ r. IsSome (stored_of r.id rows)) takes rows (each_found rows)))

are_distinct : (takes : PlanRow → Bool) (rows : List PlanRow) → IsStrictlySortedBy row_cmp rows
    → AreDistinct (ids_by takes rows)
are_distinct takes rows s =
    IsDistinct-from_sorted text_cmp (ids_by takes rows)
    (sorted_map row_cmp text_cmp (λ r. r.id) (λ a b h. h) (filter takes rows)
    (IsStrictlySortedBy-filter row_cmp takes rows s))

-- whether any plan is taken
none_taken : (takes : PlanRow → Bool) (rows : List PlanRow) → filter takes rows ≡ []
    → list_any takes rows
    ≡ false
none_taken takes [] e = refl
none_taken takes (r ∷ rs) e = by_test (takes r) (none_taken takes rs) e where
  by_test : (b : Bool) → (filter takes rs ≡ [] → list_any takes rs ≡ false)
      → cond b (r ∷ filter takes rs) (filter takes rs) ≡ [] → (b || list_any takes rs) ≡ false
  by_test true ih h = cc
  by_test false ih h = ih h

some_taken : (takes : PlanRow → Bool) (rows : List PlanRow) → 0 < length (filter takes rows)
    → list_any takes rows ≡ true
some_taken takes [] e = absurd (omega (arith, e))
some_taken takes (r ∷ rs) e = by_test (takes r) (some_taken takes rs) e where
  by_test : (b : Bool) → (0 < length (filter takes rs) → list_any takes rs ≡ true)
      → 0 < length (cond b (r ∷ filter takes rs) (filter takes rs)) → (b || list_any takes rs) ≡ true
  by_test true ih h = refl
  by_test false ih h = ih h

no_ids : (takes : PlanRow → Bool) (rows : List PlanRow) → length (ids_by takes rows) ≡ 0
    → filter takes rows
    ≡ []
no_ids takes rows e = by_rows (filter takes rows) (sym (length-map (filter takes rows) (λ r. r.id)) ∙ e)
  where
    by_rows : (taken : List PlanRow) → length taken ≡ 0 → taken ≡ []
    by_rows [] h = refl
    by_rows (r ∷ taken) h = absurd (omega (arith, h))

-- the slabs of an extent, as those of an area of one volume
pub slabs_alone : (extent : Block) (given slabs : List Slab) → given ≡ slabs
    → ((x : Point) → slabs_have slabs x ≡ block_has extent x) → AreSlabsOf given (extent ∷ [])
slabs_alone extent given slabs same h x =
    ap (λ s. slabs_have s x) same ∙ h x ∙ sym (or-false (block_has extent x))

-- nothing is pending where no plan is taken out
pub none_cleared : (w : World) (o : List ℕ) (extent : Block) (ids : List (List ℕ))
    → ids ≡ ids_in extent (plans_of o w) → length ids ≡ 0
    → IsPendingAs w o (clear_ruling (plans_of o w) extent)
    (record { reply = reply.Cleared 0; change = None })
none_cleared w o extent ids is none =
    let rows = plans_of o w in
    let taken : filter (is_in extent) rows ≡ [] =
    no_ids (is_in extent) rows (ap length (sym is) ∙ none) in
    let any : list_any (is_in extent) rows ≡ false = none_taken (is_in extent) rows taken in
    record {
      reported = ap (λ xs. replied (said.cleared (length xs))) taken;
      change_is = rw any refl;
      left = rw any refl;
      fits = tt;
    }

-- a change that is a clear leaves the plans that aren't taken, and a store takes it
clear_made : (w : World) (o : List ℕ) (takes : PlanRow → Bool) (c : Change) → parts_in c
    ≡ clear o (ids_by takes (plans_of o w))
    → AreInOrder (plans_of o w) → IsSome (ceiling_of o w)
    → (changed_by c w ≡ with_plans w o (filter (λ r. not (takes r)) (plans_of o w))) × IsFitting c w
unfolding changed_by IsFitting
clear_made w o takes (change.Enrol operator ceiling) e s listed = cc
clear_made w o takes (change.Put operator row) e s listed = cc
clear_made w o takes (change.Close operator id) e s listed = cc
clear_made w o takes (change.Clear operator ids) e s listed =
    let rows = plans_of o w in
    let name : operator ≡ o = cc in
    let which : ids.items ≡ ids_by takes rows = cc in (
      (λ i. with_plans w (name i) (clear_rows (which i) (plans_of (name i) w)))
          ∙ ap (with_plans w o) (cleared_is takes rows s),
      rw (name, which) (listed, are_stored takes rows, are_distinct takes rows s),
    )

pub some_cleared : (w : World) (o : List ℕ) (extent : Block) (ids : List (List ℕ)) (count : ℕ)
    (c : Change)
    → ids ≡ ids_in extent (plans_of o w) → 0 < length ids → parts_in c ≡ clear o ids
    → (length ids < 2 ^ 32 → count ≡ length ids) → AreInOrder (plans_of o w)
    → length (plans_of o w) ≤ max_plans
    → IsSome (ceiling_of o w)
    → IsPendingAs w o (clear_ruling (plans_of o w) extent)
    (record { reply = reply.Cleared count; change = Some c })
some_cleared w o extent ids count c is some parts counted s few listed =
    let rows = plans_of o w in
    let taken = filter (is_in extent) rows in
    let size : length ids ≡ length taken = ap length is ∙ length-map taken (λ r. r.id) in
    let less : length taken ≤ length rows = fewer (is_in extent) rows in
    let any : list_any (is_in extent) rows ≡ true =
    some_taken (is_in extent) rows (subst (λ n. 0 < n) size some) in
    let made = clear_made w o (is_in extent) c (parts ∙ ap (clear o) is) s listed in
    record {
      reported = ap (λ n. replied (said.cleared n)) (sym (counted (omega (arith, size, less, few)) ∙ size));
      change_is = rw any refl;
      left = rw any made.0;
      fits = made.1;
    }

-- an operator's plans are few, and those that an extent meets no more
few_ids : (w : World) (o : List ℕ) (extent : Block) → length (plans_of o w) ≤ max_plans
    → length (ids_in extent (plans_of o w)) < 2 ^ 32
few_ids w o extent few =
    let rows = plans_of o w in
    let size : length (ids_in extent rows) ≡ length (filter (is_in extent) rows) =
    length-map (filter (is_in extent) rows) (λ r. r.id) in
    omega (arith, size, fewer (is_in extent) rows, few)

-- what clears the plans that share a point with an extent is ready
pub clearing_ready : (w : World) (o : List ℕ) (extent : Block) (p : Pending)
    → IsClearing o (ids_in extent (plans_of o w)) p
    → AreInOrder (plans_of o w) → length (plans_of o w) ≤ max_plans → IsSome (ceiling_of o w)
    → IsPendingAs w o (clear_ruling (plans_of o w) extent) p
clearing_ready w o extent p h s few listed = by_change p.change h where
  ids : List (List ℕ)
  ids = ids_in extent (plans_of o w)

  reported : p.reply ≡ reply.Cleared (length ids)
  reported = h.reported (few_ids w o extent few)

  by_change : (c : Option Change) → IsClearing o ids (record { reply = p.reply; change = c })
      → IsPendingAs w o (clear_ruling (plans_of o w) extent) (record { reply = p.reply; change = c })
  by_change None k =
      subst (λ r. IsPendingAs w o (clear_ruling (plans_of o w) extent)
      (record { reply = r; change = None }))
      (sym (reported ∙ ap (λ xs. reply.Cleared (length xs)) k.asked))
      (none_cleared w o extent ids refl (ap length k.asked))
  by_change (Some c) k =
      subst (λ r. IsPendingAs w o (clear_ruling (plans_of o w) extent)
      (record { reply = r; change = Some c }))
      (sym reported)
      (some_cleared w o extent ids (length ids) c refl k.asked.0 k.asked.1 (λ _. refl) s few listed)
