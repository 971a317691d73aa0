-- A content after a change that fits it is a content, with its proof: what a change brings is within its
-- limits, and all else stays.
use Rattle.std.proofs.Common.{◌≡◌, ℕ, Bool, true, false, not, cond, List, [], ◌∷◌, ◌++◌, map, sym, subst, Less, Equal, Greater, IsTrue}
use Rattle.std.specs.List.{AllByRecursion, filter}
use Rattle.std.specs.declared.cmp.Ordering.{Ordering}
use Rattle.std.specs.Ordering.{match_ordering}
use Rattle.desk_rules.specs.Limits.{is_operator_name}
use Rattle.desk_rules.specs.declared.plan.PlanRow.{PlanRow}
use Rattle.desk_store.specs.declared.change.Change.{Change}
use Rattle.desk_store.specs.declared.change.Change.TheVariants.{Enrol, Put, Close}
use Rattle.desk_store.specs.World.{Filed, Listed, World, IsWorld, text_cmp, rows_by, plans_of, is_by, has_id, IsPlan, IsContent}
use Rattle.desk_store.specs.Changes.{is_before, is_after, is_named, filed_by, put_row, list_operator, with_plans, with_operator, closed, close_row, clear_rows, changed_by, IsFitting}
use Rattle.desk_store.proofs.lemmas.Order.{all_filter, all_map, all_append}
use Rattle.desk_store.proofs.lemmas.World.{kept}

all_listed : (P : Listed → Type 0) (name : List ℕ) (ceiling : ℕ) (ls : List Listed)
    → P (record { name = name; ceiling = ceiling }) → AllByRecursion P ls
    → AllByRecursion P (list_operator name ceiling ls)
all_listed P name ceiling [] new h = (new, tt)
all_listed P name ceiling (l ∷ ls) new h = by_order (text_cmp name l.name)
    (all_listed P name ceiling ls new h.1) where
      by_order : (n : Ordering) → AllByRecursion P (list_operator name ceiling ls)
          → AllByRecursion P (match_ordering n (record { name = name; ceiling = ceiling } ∷ l ∷ ls)
          (record { name = name; ceiling = ceiling } ∷ ls) (l ∷ list_operator name ceiling ls))
      by_order Less ih = (new, h)
      by_order Equal ih = (new, h.1)
      by_order Greater ih = (h.0, ih)

all_put : (P : PlanRow → Type 0) (row : PlanRow) (rows : List PlanRow) → P row → AllByRecursion P rows
    → AllByRecursion P (put_row row rows)
all_put P row [] new h = (new, tt)
all_put P row (r ∷ rs) new h = by_order (text_cmp row.id r.id) (all_put P row rs new h.1) where
  by_order : (n : Ordering) → AllByRecursion P (put_row row rs)
      → AllByRecursion P (match_ordering n (row ∷ r ∷ rs) (row ∷ rs) (r ∷ put_row row rs))
  by_order Less ih = (new, h)
  by_order Equal ih = (new, h.1)
  by_order Greater ih = (h.0, ih)

pub own_plans : (o : List ℕ) (ps : List Filed) → AllByRecursion (λ p. IsPlan p.row) ps
    → AllByRecursion IsPlan (rows_by o ps)
own_plans o ps h = all_map IsPlan (λ p. p.row) (filter (is_by o) ps)
    (all_filter (λ p. IsPlan p.row) (is_by o) ps h)

all_closed : (id : List ℕ) (rows : List PlanRow) → AllByRecursion IsPlan rows
    → AllByRecursion IsPlan (close_row id rows)
all_closed id [] h = tt
all_closed id (r ∷ rs) h = (by_test (has_id id r), all_closed id rs h.1) where
  by_test : (b : Bool) → IsPlan (cond b (closed r) r)
  by_test true = record { id = h.0.id; volumes = h.0.volumes; each = h.0.each }
  by_test false = h.0

with_rows : (o : List ℕ) (rows : List PlanRow) (w : World) → IsContent w → IsWorld (with_plans w o rows)
    → AllByRecursion IsPlan rows → IsContent (with_plans w o rows)
unfolding with_plans
with_rows o rows w h world all = record {
  world = world;
  names = h.names;
  rows = all_append ArePlan (filter (is_before o) w.plans)
      (map (filed_by o) rows ++ filter (is_after o) w.plans)
      (all_filter ArePlan (is_before o) w.plans h.rows)
      (all_append ArePlan (map (filed_by o) rows) (filter (is_after o) w.plans)
      (all_map ArePlan (filed_by o) rows all) (all_filter ArePlan (is_after o) w.plans h.rows));
} where
  ArePlan : Filed → Type 0
  ArePlan p = IsPlan p.row

with_name : (name : List ℕ) (ceiling : ℕ) (w : World) → IsContent w
    → IsWorld (with_operator w name ceiling)
    → IsTrue (is_operator_name name) → IsContent (with_operator w name ceiling)
unfolding with_operator
with_name name ceiling w h world valid = record {
  world = world;
  names = all_listed (λ l. IsTrue (is_operator_name l.name)) name ceiling w.operators valid h.names;
  rows = h.rows;
}

pub enrol_content : (name : List ℕ) (ceiling : ℕ) (w : World) → IsContent w → IsFitting (Enrol name ceiling) w
    → IsTrue (is_operator_name name) → IsContent (changed_by (Enrol name ceiling) w)
unfolding changed_by
enrol_content name ceiling w h fits valid =
    with_name name ceiling w h (kept (Enrol name ceiling) w h.world fits) valid

pub put_content : (o : List ℕ) (row : PlanRow) (w : World) → IsContent w → IsFitting (Put o row) w
    → IsPlan row → IsContent (changed_by (Put o row) w)
unfolding changed_by
put_content o row w h fits within =
    with_rows o (put_row row (plans_of o w)) w h (kept (Put o row) w h.world fits)
    (all_put IsPlan row (plans_of o w) within (own_plans o w.plans h.rows))

pub close_content : (o id : List ℕ) (w : World) → IsContent w → IsFitting (Close o id) w
    → IsContent (changed_by (Close o id) w)
unfolding changed_by
close_content o id w h fits =
    with_rows o (close_row id (plans_of o w)) w h (kept (Close o id) w h.world fits)
    (all_closed id (plans_of o w) (own_plans o w.plans h.rows))

-- a change that takes plans out, whose ids stand in a vector
pub clear_content : (o : List ℕ) (ids : List (List ℕ)) (change : Change) (w : World) → IsContent w
    → IsFitting change w → changed_by change w ≡ with_plans w o (clear_rows ids (plans_of o w))
    → IsContent (changed_by change w)
clear_content o ids change w h fits by =
    subst IsContent (sym by) (with_rows o (clear_rows ids (plans_of o w)) w h
    (subst IsWorld by (kept change w h.world fits))
    (all_filter IsPlan (λ r. not (is_named ids r)) (plans_of o w) (own_plans o w.plans h.rows)))
