-- What a store in memory always is, is kept.
use Rattle.std.proofs.Common.{◌≡◌, ℕ, ◌+◌, ◌≤◌, Bool, true, false, cond, not, List, [], ◌∷◌, length, Option, Some, None, refl, sym, ap, subst, ◌∙◌, arith, Less, Equal, Greater}
use Rattle.std.specs.Prelude.{IsSome, is_some}
use Rattle.std.specs.List.{find}
use Rattle.std.specs.Option.{option_map, unwrap_or}
use Rattle.std.specs.declared.cmp.Ordering.{Ordering}
use Rattle.std.specs.Ordering.{is_eq, match_ordering}
use Rattle.std.specs.BTreeMap.{insert_entry, is_at}
use Rattle.std.specs.Map.{lookup, keys_of}
use Rattle.std.specs.List.Sorted.{IsStrictlySortedBy}
use Rattle.std.proofs.lemmas.Map.Lookups.{exact_bytes}
use Rattle.std.proofs.lemmas.List.{length-map}
use Rattle.desk_rules.specs.declared.plan.PlanRow.{PlanRow}
use Rattle.desk_rules.specs.Limits.{max_plans}
use Rattle.desk_store.specs.declared.change.Change.{Change}
use Rattle.desk_store.specs.declared.change.Change.TheVariants.{Put, Close}
use Rattle.desk_store.specs.declared.list.CeilingEntry.{CeilingEntry}
use Rattle.desk_store.specs.World.{World, text_cmp, rows_by, plans_of, stored_of, has_id, IsPlan, IsContent, PlanParts, parts_of, row_of, filed_all, world_in_lists, AreCounted, IsStore, with_count, without}
use Rattle.desk_store.specs.Changes.{put_row, closed, close_row, is_named, clear_rows, with_plans, changed_by, IsFitting}
use Rattle.desk_store.proofs.lemmas.Order.{is_equal, rows_sorted}
use Rattle.desk_store.proofs.lemmas.World.{own_replaced, others_kept, fewer, length-put_stored}
use Rattle.desk_store.proofs.lemmas.Content.{put_content, close_content, clear_content}
use Rattle.desk_store.proofs.EntryLemmas.{Key, key_cmp}
use Rattle.desk_store.proofs.StoreLemmas.{plan_found, stored}
use Rattle.desk_store.proofs.ChangeLemmas.{cleared}
use Rattle.desk_store.proofs.CountLemmas.{count_is, counts_stay, count_replaced, listed_same}

pub kept_by : (change : Change) (before old after : World) → before ≡ old → IsContent before
    → (IsContent old → IsContent (changed_by change old)) → after ≡ changed_by change old → IsContent after
kept_by change before old after same h keeps e = subst IsContent (sym e) (keeps (subst IsContent same h))

-- the counts where an operator's number of plans stays
same_counts : (old : World) (ops : List (List ℕ × CeilingEntry)) (plans more : List (Key × PlanParts))
    (o : List ℕ) (rows : List PlanRow) → world_in_lists ops plans ≡ old → world_in_lists ops more
    ≡ with_plans old o rows
    → length rows ≡ length (plans_of o old) → AreCounted ops (filed_all plans)
    → AreCounted ops (filed_all more)
same_counts old ops plans more o rows is after count =
    counts_stay ops (filed_all plans) (filed_all more)
    (λ q. ap (λ w. length (plans_of q w)) after ∙ by_name q (is_eq (text_cmp q o)) refl
    ∙ sym (ap (λ w. length (plans_of q w)) is)) where
      by_name : (q : List ℕ) (b : Bool) → is_eq (text_cmp q o) ≡ b
          → length (plans_of q (with_plans old o rows))
          ≡ length (plans_of q old)
      by_name q true e = subst (λ n. length (plans_of n (with_plans old o rows))
          ≡ length (plans_of n old))
          (sym (exact_bytes q o (is_equal (text_cmp q o) e)))
          (ap length (own_replaced o rows old) ∙ count)
      by_name q false e = ap length (others_kept q o rows old e)

-- and where it changes
new_counts : (old : World) (ops : List (List ℕ × CeilingEntry)) (plans more : List (Key × PlanParts))
    (o : List ℕ) (n : ℕ) (rows : List PlanRow) → world_in_lists ops plans ≡ old
    → world_in_lists (with_count o n ops) more
    ≡ with_plans old o rows → n ≡ length rows → AreCounted ops (filed_all plans)
    → AreCounted (with_count o n ops) (filed_all more)
new_counts old ops plans more o n rows is after count =
    count_replaced o n ops (filed_all plans) (filed_all more)
    (count ∙ sym (ap (λ w. length (plans_of o w)) after ∙ ap length (own_replaced o rows old)))
    (λ q e. ap (plans_of q) after ∙ others_kept q o rows old e ∙ sym (ap (plans_of q) is))

-- a row in place of one
pub put_again : (old : World) (ops : List (List ℕ × CeilingEntry)) (plans more : List (Key × PlanParts))
    (o : List ℕ) (row : PlanRow) (found : Option PlanParts) → world_in_lists ops plans ≡ old
    → IsStore ops plans
    → IsFitting (Put o row) old → IsPlan row → IsStrictlySortedBy key_cmp (keys_of plans) → more
    ≡ insert_entry key_cmp plans (o, row.id) (parts_of row) → found
    ≡ lookup (is_at (key_cmp (o, row.id))) plans → is_some found ≡ true
    → (world_in_lists ops more ≡ changed_by (Put o row) old) × IsStore ops more
unfolding changed_by
put_again old ops plans more o row found is h fits within sorted e f there = (
  after,
  (
    kept_by (Put o row) (world_in_lists ops plans) old (world_in_lists ops more) is h.0
        (λ content. put_content o row old content fits within) after,
    same_counts
        old ops plans more o (put_row row (plans_of o old)) is after count h.1,
  ),
) where
  after : world_in_lists ops more ≡ with_plans old o (put_row row (plans_of o old))
  after = stored old ops ops plans more o row.id (parts_of row) is refl sorted e

  some : (r : Option PlanParts) → is_some r ≡ true → is_some (option_map (row_of row.id) r) ≡ true
  some None g = cc
  some (Some p) g = refl

  is_stored : IsSome (stored_of row.id (plans_of o old))
  is_stored = ap (λ w. is_some (stored_of row.id (plans_of o w))) (sym is)
      ∙ ap is_some (sym (plan_found o row.id plans) ∙ ap (option_map (row_of row.id)) (sym f))
      ∙ some found there

  count : length (put_row row (plans_of o old)) ≡ length (plans_of o old)
  count = length-put_stored row (plans_of o old) (rows_sorted o old.plans
      (subst IsContent is h.0).world.plans)
      is_stored

length-put_absent : (row : PlanRow) (rows : List PlanRow) → stored_of row.id rows ≡ None
    → length (put_row row rows) ≡ length rows + 1
unfolding stored_of
length-put_absent row [] none = refl
length-put_absent row (r ∷ rs) none = by_order (text_cmp row.id r.id) refl none
    (length-put_absent row rs)
  where
    by_order : (n : Ordering) → text_cmp row.id r.id ≡ n
        → cond (is_eq n) (Some r) (find (has_id row.id) rs)
        ≡ None → (find (has_id row.id) rs ≡ None → length (put_row row rs) ≡ length rs + 1)
        → length (match_ordering n (row ∷ r ∷ rs) (row ∷ rs) (r ∷ put_row row rs)) ≡ length (r ∷ rs) + 1
    by_order Less l f ih = omega arith
    by_order Equal l f ih = cc
    by_order Greater l f ih = omega (arith, ih f)

-- a row more
pub put_first : (old : World) (ops : List (List ℕ × CeilingEntry)) (plans more : List (Key × PlanParts))
    (o : List ℕ) (row : PlanRow) (found : Option PlanParts) (count : ℕ) → world_in_lists ops plans ≡ old
    → IsStore ops plans → IsFitting (Put o row) old → IsPlan row
    → IsStrictlySortedBy key_cmp (keys_of plans) → more
    ≡ insert_entry key_cmp plans (o, row.id) (parts_of row) → found
    ≡ lookup (is_at (key_cmp (o, row.id))) plans → is_some found ≡ false → count
    ≡ unwrap_or (option_map (λ e. e.plan_count) (lookup (is_at (text_cmp o)) ops)) 0
    → (world_in_lists (with_count o (count + 1) ops) more ≡ changed_by (Put o row) old)
    × IsStore (with_count o (count + 1) ops) more
unfolding changed_by
put_first old ops plans more o row found count is h fits within sorted e f none counted = (
  after,
  (
    kept_by (Put o row) (world_in_lists ops plans) old (world_in_lists (with_count o (count + 1) ops) more) is
        h.0 (λ content. put_content o row old content fits within) after,
    new_counts old ops plans more o (count + 1) (put_row row (plans_of o old)) is after
        one_more h.1,
  ),
) where
  after : world_in_lists (with_count o (count + 1) ops) more ≡ with_plans old o (put_row row (plans_of o old))
  after = stored old ops (with_count o (count + 1) ops) plans more o row.id (parts_of row) is
      (listed_same o (count + 1) ops) sorted e

  nothing : (r : Option PlanParts) → is_some r ≡ false → option_map (row_of row.id) r ≡ None
  nothing None g = refl
  nothing (Some p) g = cc

  absent : stored_of row.id (plans_of o old) ≡ None
  absent = ap (λ w. stored_of row.id (plans_of o w)) (sym is) ∙ sym (plan_found o row.id plans)
      ∙ ap (option_map (row_of row.id)) (sym f) ∙ nothing found none

  before : count ≡ length (plans_of o old)
  before = counted ∙ count_is o ops plans h ∙ ap (λ w. length (plans_of o w)) is

  one_more : count + 1 ≡ length (put_row row (plans_of o old))
  one_more = ap (λ n. n + 1) before ∙ sym (length-put_absent row (plans_of o old) absent)

-- a count is within the limit
pub count_within : (old : World) (ops : List (List ℕ × CeilingEntry)) (plans : List (Key × PlanParts))
    (o : List ℕ) (count : ℕ) → IsStore ops plans → count
    ≡ unwrap_or (option_map (λ e. e.plan_count) (lookup (is_at (text_cmp o)) ops)) 0 → count ≤ max_plans
count_within old ops plans o count h counted = omega
    (arith, counted ∙ count_is o ops plans h, h.0.world.rows o)

-- plans taken out
pub clear_kept : (old : World) (ops : List (List ℕ × CeilingEntry)) (plans more : List (Key × PlanParts))
    (o : List ℕ) (n : ℕ) (ids : List (List ℕ)) (change : Change) → changed_by change old
    ≡ with_plans old o (clear_rows ids (plans_of o old)) → world_in_lists ops plans ≡ old → IsStore ops plans
    → IsFitting change old
    → world_in_lists (with_count o n ops) more ≡ with_plans old o (clear_rows ids (plans_of o old)) → n
    ≡ length (rows_by o (filed_all more))
    → IsStore (with_count o n ops) more
clear_kept old ops plans more o n ids change by is h fits after count = (
  kept_by change (world_in_lists ops plans) old (world_in_lists (with_count o n ops) more) is h.0
      (λ content. clear_content o ids change old content fits by) (after ∙ sym by),
  new_counts old ops plans more o n rows is after (count ∙ ap (λ w. length (plans_of o w)) after
      ∙ ap length (own_replaced o rows old)) h.1,
) where
  rows : List PlanRow
  rows = clear_rows ids (plans_of o old)

-- those left are within the limit
pub clear_within : (ops : List (List ℕ × CeilingEntry)) (plans more : List (Key × PlanParts)) (o : List ℕ)
    (ids : List (List ℕ)) → IsStore ops plans → more ≡ without o ids plans
    → length (rows_by o (filed_all more)) ≤ max_plans
unfolding with_plans
clear_within ops plans more o ids h left =
    let w = world_in_lists ops plans in
    let rows = clear_rows ids (plans_of o w) in
    let are : rows_by o (filed_all more) ≡ rows =
    ap (rows_by o) (cleared o ids plans more h.0.world.plans left)
    ∙ own_replaced o rows w in
    omega (arith, ap length are, fewer (λ r. not (is_named ids r)) (plans_of o w), h.0.world.rows o)

-- a plan closed
pub close_kept : (old : World) (ops : List (List ℕ × CeilingEntry)) (plans more : List (Key × PlanParts))
    (o id : List ℕ) → world_in_lists ops plans ≡ old → IsStore ops plans → IsFitting (Close o id) old
    → world_in_lists ops more ≡ changed_by (Close o id) old → IsStore ops more
unfolding changed_by
close_kept old ops plans more o id is h fits after = (
  kept_by (Close o id) (world_in_lists ops plans) old (world_in_lists ops more) is h.0
      (λ content. close_content o id old content fits) after,
  same_counts old ops plans more o (close_row id (plans_of o old)) is after
      (length-map (plans_of o old) (λ r. cond (has_id id r) (closed r) r)) h.1,
)
