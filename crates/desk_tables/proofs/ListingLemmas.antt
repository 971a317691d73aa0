-- The rows that queries answer, of the plans of a world.
use Rattle.std.proofs.Common.{◌≡◌, ℕ, ◌+◌, ◌<◌, Bool, true, false, ◌&&◌, cond, List, [], ◌∷◌, map, Option, Some, None, refl, sym, ap, subst, ◌∙◌, arith, Less, Equal, IsPermutation}
use Rattle.std.specs.Prelude.{slice_get}
use Rattle.std.specs.List.{AllByRecursion, AllZip, filter, find}
use Rattle.std.specs.List.Sorted.{IsStrictlySortedBy}
use Rattle.std.specs.Option.{option_map}
use Rattle.std.specs.Ordering.{ordering_then, is_eq}
use Rattle.std.proofs.lemmas.List.{append-nil}
use Rattle.sqlite_value.specs.Order.{Row}
use Rattle.sqlite_trees.specs.Tree.{IsAscending}
use Rattle.sqlite_keyed.proofs.ListLemmas.{IsPermutation-filter, filter_none}
use Rattle.volume4d.specs.Volume.{Block}
use Rattle.desk_rules.specs.declared.plan.PlanRow.{PlanRow}
use Rattle.desk_sql.specs.Rows.{Tables, Lists, by_cells, is_of}
use Rattle.desk_store.specs.World.{Filed, World, text_cmp, filed_cmp, is_by, has_id, rows_by, plans_of, stored_of, is_own, IsId, IsValidVolume, IsContent}
use Rattle.desk_store.proofs.lemmas.Order.{is_equal, all_weaker}
use Rattle.row_codec.specs.Tables.{id_text, row_of_plan, plan_rows, row_of_volume, volume_rows_from, area_rows, volume_rows, AreTables}
use Rattle.row_codec.specs.RowsRead.{IsVolumeAt, IsHead}
use Rattle.desk_tables.specs.Store.{one_or_none, own_of}
use Rattle.row_codec.proofs.lemmas.Order.{ArePlans}
use Rattle.desk_tables.proofs.FilterLemmas.{own_row, plans_filtered, volumes_filtered}
use Rattle.row_codec.proofs.lemmas.Order.{filed_total, in_order, own_at, places_less}

area_after : (p : Filed) (n m : ℕ) (v : Block) (us : List Block) → n < m
    → AllByRecursion (λ r. by_cells (2 ∷ []) (row_of_volume p n v) r ≡ Less) (volume_rows_from p m us)
area_after p n m v [] h = tt
area_after p n m v (u ∷ us) h = (
  ap (λ o. ordering_then o Equal) (places_less n m h),
  area_after p n (m + 1) v us
      (omega (arith, h)),
)

area_ascends : (p : Filed) (n : ℕ) (vs : List Block)
    → IsAscending (λ a b. by_cells (2 ∷ []) a b ≡ Less) (volume_rows_from p n vs)
area_ascends p n [] = tt
area_ascends p n (v ∷ vs) = (area_after p n (n + 1) v vs (omega arith), area_ascends p (n + 1) vs)

-- ---- the plan of an operator and an id

pub one_own : (o id : List ℕ) (ps : List Filed) → IsStrictlySortedBy filed_cmp ps
    → filter (is_own o id) ps
    ≡ one_or_none (find (is_own o id) ps)
unfolding IsStrictlySortedBy
one_own o id [] s = refl
one_own o id (p ∷ ps) s = by_test (is_own o id p) refl (one_own o id ps s.1) where
  key : Filed
  key = record { operator = o; row = record p.row { id = id } }

  by_key : (q : Filed) → is_own o id q ≡ is_eq (filed_cmp key q)
  by_key q = sym (own_at (text_cmp o q.operator) (text_cmp id q.row.id))

  later : is_own o id p ≡ true → filter (is_own o id) ps ≡ []
  later e =
      filter_none (is_own o id) ps (all_weaker (λ q. filed_cmp p q ≡ Less) (λ q. is_own o id q ≡ false)
      (λ q h. by_key q ∙ ap is_eq (filed_total.congr key p q
      (is_equal (filed_cmp key p) (sym (by_key p) ∙ e))
      ∙ h)) ps s.0)

  by_test : (b : Bool) → is_own o id p ≡ b → filter (is_own o id) ps
      ≡ one_or_none (find (is_own o id) ps)
      → cond b (p ∷ filter (is_own o id) ps) (filter (is_own o id) ps)
      ≡ one_or_none (cond b (Some p) (find (is_own o id) ps))
  by_test true e ih = ap (λ xs. p ∷ xs) (later e)
  by_test false e ih = ih

pub found_own : (o id : List ℕ) (ps : List Filed) → find (has_id id) (rows_by o ps)
    ≡ option_map (λ p. p.row) (find (is_own o id) ps)
found_own o id [] = refl
found_own o id (p ∷ ps) = by_tests (is_by o p) (has_id id p.row) (found_own o id ps) where
  by_tests : (a b : Bool) → find (has_id id) (rows_by o ps)
      ≡ option_map (λ q. q.row) (find (is_own o id) ps)
      → find (has_id id) (map (λ q. q.row) (cond a (p ∷ filter (is_by o) ps) (filter (is_by o) ps)))
      ≡ option_map (λ q. q.row) (cond (a && has_id id p.row) (Some p) (find (is_own o id) ps))
  by_tests true b ih = by_id (has_id id p.row) ih where
    by_id : (c : Bool) → find (has_id id) (rows_by o ps)
        ≡ option_map (λ q. q.row) (find (is_own o id) ps)
        → cond c (Some p.row) (find (has_id id) (rows_by o ps))
        ≡ option_map (λ q. q.row) (cond c (Some p) (find (is_own o id) ps))
    by_id true k = refl
    by_id false k = k
  by_tests false b ih = ih

pub heads_are : (tables : Tables) (w : World) (o id : List ℕ) (rows : List Row) → IsId id → IsContent w
    → AreTables tables w → Lists [] (filter (is_of o (id_text id)) tables.plans) rows → rows
    ≡ plan_rows (own_of o id w)
heads_are tables w o id rows hi h t lists =
    in_order [] (plan_rows (own_of o id w)) (filter (is_of o (id_text id)) tables.plans) rows
    (up (find (is_own o id) w.plans))
    (subst (λ xs. IsPermutation xs (filter (is_of o (id_text id)) tables.plans))
    (plans_filtered (is_own o id) (is_of o (id_text id)) (λ q r hq. own_row o id q r hi hq.id) w.plans
    h.rows
    ∙ ap plan_rows (one_own o id w.plans h.world.plans))
    (IsPermutation-filter (is_of o (id_text id)) (plan_rows w.plans) tables.plans t.plans)) lists where
      up : (found : Option Filed) → IsAscending (λ a b. by_cells [] a b ≡ Less)
          (plan_rows (one_or_none found))
      up None = tt
      up (Some p) = (tt, tt)

pub volumes_are : (tables : Tables) (w : World) (o id : List ℕ) (rows : List Row) → IsId id
    → IsContent w
    → AreTables tables w → Lists (2 ∷ []) (filter (is_of o (id_text id)) tables.volumes) rows → rows
    ≡ volume_rows (own_of o id w)
volumes_are tables w o id rows hi h t lists =
    in_order (2 ∷ []) (volume_rows (own_of o id w)) (filter (is_of o (id_text id)) tables.volumes) rows
    (up (find (is_own o id) w.plans))
    (subst (λ xs. IsPermutation xs (filter (is_of o (id_text id)) tables.volumes))
    (volumes_filtered (is_own o id) (is_of o (id_text id)) (λ q r hq. own_row o id q r hi hq.id) w.plans
    h.rows ∙ ap volume_rows (one_own o id w.plans h.world.plans))
    (IsPermutation-filter (is_of o (id_text id)) (volume_rows w.plans) tables.volumes t.volumes)) lists
  where
    up : (found : Option Filed) → IsAscending (λ a b. by_cells (2 ∷ []) a b ≡ Less)
        (volume_rows (one_or_none found))
    up None = tt
    up (Some p) = subst (IsAscending (λ a b. by_cells (2 ∷ []) a b ≡ Less))
        (sym (append-nil (area_rows p)))
        (area_ascends p 0 p.row.area)

-- ---- what rows hold

pub area_read : (p : Filed) (n : ℕ) (vs : List Block)
    → AllZip (λ r v. IsVolumeAt r 3 v) (volume_rows_from p n vs) vs
area_read p n [] = tt
area_read p n (v ∷ vs) = (
  record { lower = refl; upper = refl; start = refl; end = refl; asked = refl },
  area_read p (n + 1)
      vs,
)

pub head_read : (p : Filed) → IsHead (row_of_plan p) p.row
head_read p = record { id = refl; priority = refl; usage = refl; aircraft = refl }

own_is_plan : (o id : List ℕ) (ps : List Filed) → ArePlans ps
    → ArePlans (one_or_none (find (is_own o id) ps))
own_is_plan o id [] h = tt
own_is_plan o id (p ∷ ps) h = by_test (is_own o id p) (own_is_plan o id ps h.1) where
  by_test : (b : Bool) → ArePlans (one_or_none (find (is_own o id) ps))
      → ArePlans (one_or_none (cond b (Some p) (find (is_own o id) ps)))
  by_test true ih = (h.0, tt)
  by_test false ih = ih

-- the plan that is read is the stored one
pub none_stored : (o id : List ℕ) (w : World) (head_rows : List Row) → head_rows ≡ plan_rows (own_of o id w)
    → head_rows
    ≡ [] → None ≡ stored_of id (plans_of o w)
unfolding stored_of
none_stored o id w head_rows are none = by_found (find (is_own o id) w.plans) (sym are ∙ none)
    ∙ sym (found_own o id w.plans) where
      by_found : (found : Option Filed) → plan_rows (one_or_none found) ≡ [] → None
          ≡ option_map (λ p. p.row) found
      by_found None e = refl
      by_found (Some p) e = cc

pub plan_stored : (o id : List ℕ) (w : World) (head_rows rows rest : List Row) (head : Row) (plan : PlanRow)
    → IsContent w → head_rows ≡ plan_rows (own_of o id w) → rows ≡ volume_rows (own_of o id w) → head_rows
    ≡ head
    ∷ rest
    → ((p : PlanRow) → IsId p.id → IsHead head p → AllByRecursion IsValidVolume p.area
    → AllZip (λ r v. IsVolumeAt r 3 v) rows p.area → plan ≡ p) → Some plan ≡ stored_of id (plans_of o w)
unfolding stored_of
plan_stored o id w head_rows rows rest head plan h are volumes some read =
    by_found (find (is_own o id) w.plans) (own_is_plan o id w.plans h.rows) (sym some ∙ are) volumes
    ∙ sym (found_own o id w.plans) where
      by_found : (found : Option Filed) → ArePlans (one_or_none found) → head ∷ rest
          ≡ plan_rows (one_or_none found) → rows ≡ volume_rows (one_or_none found) → Some plan
          ≡ option_map (λ p. p.row) found
      by_found None hp e f = cc
      by_found (Some p) hp e f =
          let is : head ≡ row_of_plan p = cc in
          ap Some (read p.row hp.0.id (subst (λ r. IsHead r p.row) (sym is) (head_read p)) hp.0.each
          (subst (λ xs. AllZip (λ r v. IsVolumeAt r 3 v) xs p.row.area)
          (sym (f ∙ append-nil (area_rows p)))
          (area_read p 0 p.row.area)))

pub none_first : (rows : List Row) → ◌≡◌ {A = Option Row} None (slice_get rows 0) → rows ≡ []
none_first [] e = refl
none_first (r ∷ rows) e = cc

pub some_first : (rows : List Row) (r : Row) → Some r ≡ slice_get rows 0 → (rest : List Row)
    × (rows ≡ r ∷ rest)
some_first [] r e = cc
some_first (s ∷ rows) r e = let same : s ≡ r = cc in (rows, ap (λ x. x ∷ rows) same)
