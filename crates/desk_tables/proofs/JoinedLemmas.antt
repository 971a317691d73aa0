-- The join of plans with volumes, of the plans of a world.
use Rattle.std.proofs.Common.{◌≡◌, ℕ, pos, ◌+◌, ◌<◌, Bool, true, false, ◌&&◌, cond, List, [], ◌∷◌, ◌++◌, map, Some, refl, sym, ap, subst, ◌∙◌, arith, Less, Equal, IsPermutation}
use Rattle.std.specs.List.{AllByRecursion, filter, find, flat_map}
use Rattle.std.specs.List.Sorted.{IsStrictlySortedBy}
use Rattle.std.specs.Ordering.{ordering_then, ordering_reverse, is_eq}
use Rattle.std.specs.Cmp.Lexicographic.{nat_list_cmp_total}
use Rattle.std.proofs.lemmas.Cmp.{tied_itself}
use Rattle.std.proofs.lemmas.List.{append-nil}
use Rattle.std.proofs.lemmas.List.Kept.{IsStrictlySortedBy-filter}
use Rattle.std.proofs.lemmas.List.Sorted.{IsPermutation-trans, IsPermutation-map}
use Rattle.sqlite_value.specs.declared.value.Value.TheVariants.{Int, Text}
use Rattle.sqlite_value.specs.Order.{Row, value_cmp}
use Rattle.sqlite_value.proofs.OrderLemmas.{value_cmp_total, value_cmp-Text}
use Rattle.sqlite_trees.specs.Tree.{IsAscending}
use Rattle.sqlite_keyed.proofs.ListLemmas.{IsPermutation-filter, IsPermutation-flat_map, IsPermutation-flat_map_each, ascending-append}
use Rattle.volume4d.specs.Volume.{Block}
use Rattle.desk_sql.specs.Rows as sql
use Rattle.desk_sql.specs.Rows.{Tables, Lists, by_cells, joined, has_volume, with_volumes}
use Rattle.desk_store.specs.World.{Filed, World, text_cmp, filed_cmp, is_by, is_own, IsPlan, IsContent}
use Rattle.desk_store.proofs.lemmas.Order.{all_filter, all_append, all_kept, by_ids, name_of}
use Rattle.row_codec.specs.Tables.{id_text, row_of_plan, plan_rows, row_of_volume, area_rows, volume_rows, AreTables}
use Rattle.row_codec.specs.RowsRead.{joined_from, joined_rows, listing_rows}
use Rattle.desk_tables.specs.Store.{one_or_none}
use Rattle.row_codec.proofs.lemmas.Id.{text_order}
use Rattle.row_codec.proofs.lemmas.Order.{ArePlans, turned}
use Rattle.desk_tables.proofs.FilterLemmas.{own_row, volumes_filtered}
use Rattle.row_codec.proofs.lemmas.Order.{in_order, places_less, filed_total, own_at}
use Rattle.desk_tables.proofs.ListingLemmas.{one_own}

heads_filtered : (wanted : Filed → Bool) (want : Row → Bool)
    → ((q : Filed) → IsPlan q.row → want (row_of_plan q) ≡ wanted q) → (ps : List Filed) → ArePlans ps
    → filter want (plan_rows ps) ≡ plan_rows (filter wanted ps)
heads_filtered wanted want same [] h = refl
heads_filtered wanted want same (p ∷ ps) h =
    ap (λ b. cond b (row_of_plan p ∷ filter want (plan_rows ps)) (filter want (plan_rows ps))) (same p h.0)
    ∙ by_test (wanted p) (heads_filtered wanted want same ps h.1) where
      by_test : (b : Bool) → filter want (plan_rows ps) ≡ plan_rows (filter wanted ps)
          → cond b (row_of_plan p ∷ filter want (plan_rows ps)) (filter want (plan_rows ps))
          ≡ plan_rows (cond b (p ∷ filter wanted ps) (filter wanted ps))
      by_test true ih = ap (λ rows. row_of_plan p ∷ rows) ih
      by_test false ih = ih

-- each plan of a world is the only one of its key
abbrev Finds : List Filed → Filed → Type 0
Finds ps q = find (is_own q.operator q.row.id) ps ≡ Some q

own_itself : (p : Filed) → is_own p.operator p.row.id p ≡ true
own_itself p = λ i. is_eq (tied_itself nat_list_cmp_total p.operator i)
    && is_eq (tied_itself nat_list_cmp_total p.row.id i)

not_earlier : (p q : Filed) → filed_cmp p q ≡ Less → is_own q.operator q.row.id p ≡ false
not_earlier p q e = sym (own_at (text_cmp q.operator p.operator) (text_cmp q.row.id p.row.id))
    ∙ ap is_eq (filed_total.antisymm q p ∙ ap ordering_reverse e)

finds_more : (p : Filed) (ps qs : List Filed) → AllByRecursion (λ q. filed_cmp p q ≡ Less) qs
    → AllByRecursion (Finds ps) qs → AllByRecursion (Finds (p ∷ ps)) qs
finds_more p ps [] s h = tt
finds_more p ps (q ∷ qs) s h = (
  ap (λ b. cond b (Some p) (find (is_own q.operator q.row.id) ps)) (not_earlier p q s.0)
      ∙ h.0,
  finds_more p ps qs s.1 h.1,
)

each_found : (ps : List Filed) → IsStrictlySortedBy filed_cmp ps → AllByRecursion (Finds ps) ps
unfolding IsStrictlySortedBy
each_found [] s = tt
each_found (p ∷ ps) s = (
  ap (λ b. cond b (Some p) (find (is_own p.operator p.row.id) ps)) (own_itself p),
  finds_more p ps ps s.0
      (each_found ps s.1),
)

-- a plan's own rows among those of all volumes
own_volumes : (ps : List Filed) (q : Filed) → IsStrictlySortedBy filed_cmp ps → ArePlans ps
    → IsPlan q.row
    → Finds ps q → filter (has_volume (row_of_plan q)) (volume_rows ps) ≡ area_rows q
own_volumes ps q s h hq found =
    volumes_filtered (is_own q.operator q.row.id) (has_volume (row_of_plan q))
    (λ p r hp. own_row q.operator q.row.id p r hq.id hp.id) ps h
    ∙ ap volume_rows (one_own q.operator q.row.id ps s ∙ ap one_or_none found)
    ∙ append-nil (area_rows q)

listed : (ps qs : List Filed) → IsStrictlySortedBy filed_cmp ps → ArePlans ps → ArePlans qs
    → AllByRecursion (Finds ps) qs
    → flat_map (λ r. map (joined r) (filter (has_volume r) (volume_rows ps))) (plan_rows qs)
    ≡ listing_rows qs
listed ps [] s h hq found = refl
listed ps (q ∷ qs) s h hq found = λ i. map (joined (row_of_plan q)) (own_volumes ps q s h hq.0 found.0 i)
    ++ listed ps qs s h hq.1 found.1 i

module _ (wanted : Filed → Bool) (want : Row → Bool)
    (same : (q : Filed) → IsPlan q.row → want (row_of_plan q) ≡ wanted q) (tables : Tables) (w : World)
    (h : IsContent w) (t : AreTables tables w) where
  joins : List Row → Row → List Row
  joins volumes r = map (joined r) (filter (has_volume r) volumes)

  pub join_rows : IsPermutation (listing_rows (filter wanted w.plans)) (with_volumes want tables)
  unfolding joins
  join_rows = subst (λ xs. IsPermutation xs (with_volumes want tables))
      (listed w.plans (filter wanted w.plans) h.world.plans h.rows
      (all_filter (λ p. IsPlan p.row) wanted w.plans h.rows)
      (all_filter (Finds w.plans) wanted w.plans (each_found w.plans h.world.plans)))
      (IsPermutation-trans (flat_map (joins (volume_rows w.plans)) (plan_rows (filter wanted w.plans)))
      (flat_map (joins tables.volumes) (plan_rows (filter wanted w.plans))) (with_volumes want tables)
      (IsPermutation-flat_map_each (joins (volume_rows w.plans)) (joins tables.volumes)
      (λ r. IsPermutation-map (joined r) (filter (has_volume r) (volume_rows w.plans))
      (filter (has_volume r) tables.volumes) (IsPermutation-filter (has_volume r) (volume_rows w.plans)
      tables.volumes t.volumes)) (plan_rows (filter wanted w.plans)))
      (IsPermutation-flat_map (joins tables.volumes) (plan_rows (filter wanted w.plans))
      (filter want tables.plans)
      (subst (λ xs. IsPermutation xs (filter want tables.plans))
      (heads_filtered wanted want same w.plans h.rows)
      (IsPermutation-filter want (plan_rows w.plans) tables.plans t.plans))))

-- ---- in order

module _ (cells : List ℕ) (alike : Filed → Filed → Type 0)
    (by_keys : (p q : Filed) (n m : ℕ) (v u : Block) → IsPlan p.row → IsPlan q.row → alike p q
    → filed_cmp p q
    ≡ Less → by_cells cells (joined (row_of_plan p) (row_of_volume p n v))
    (joined (row_of_plan q) (row_of_volume q m u)) ≡ Less)
    (by_places : (p : Filed) (n m : ℕ) (v u : Block) → n < m
    → by_cells cells (joined (row_of_plan p) (row_of_volume p n v))
    (joined (row_of_plan p) (row_of_volume p m u))
    ≡ Less) where
  area_after : (p : Filed) (n m : ℕ) (v : Block) (us : List Block) → n < m
      → AllByRecursion (λ b. by_cells cells (joined (row_of_plan p) (row_of_volume p n v)) b ≡ Less)
      (joined_from p m us)
  area_after p n m v [] e = tt
  area_after p n m v (u ∷ us) e =
      (by_places p n m v u e, area_after p n (m + 1) v us (omega (arith, e)))

  area_up : (p : Filed) (n : ℕ) (vs : List Block) → IsAscending (λ a b. by_cells cells a b ≡ Less)
      (joined_from p n vs)
  area_up p n [] = tt
  area_up p n (v ∷ vs) = (area_after p n (n + 1) v vs (omega arith), area_up p (n + 1) vs)

  one_after : (p q : Filed) (n m : ℕ) (v : Block) (us : List Block) → IsPlan p.row → IsPlan q.row
      → alike p q
      → filed_cmp p q ≡ Less
      → AllByRecursion (λ b. by_cells cells (joined (row_of_plan p) (row_of_volume p n v)) b
      ≡ Less) (joined_from q m us)
  one_after p q n m v [] hp hq a e = tt
  one_after p q n m v (u ∷ us) hp hq a e =
      (by_keys p q n m v u hp hq a e, one_after p q n (m + 1) v us hp hq a e)

  all_after : (p : Filed) (n : ℕ) (v : Block) (qs : List Filed) → IsPlan p.row → ArePlans qs
      → AllByRecursion (alike p) qs → AllByRecursion (λ q. filed_cmp p q ≡ Less) qs
      → AllByRecursion (λ b. by_cells cells (joined (row_of_plan p) (row_of_volume p n v)) b ≡ Less)
      (listing_rows qs)
  all_after p n v [] hp h a s = tt
  all_after p n v (q ∷ qs) hp h a s =
      all_append (λ b. by_cells cells (joined (row_of_plan p) (row_of_volume p n v)) b ≡ Less) (joined_rows q)
      (listing_rows qs) (one_after p q n 0 v q.row.area hp h.0 a.0 s.0)
      (all_after p n v qs hp h.1 a.1 s.1)

  across : (p : Filed) (n : ℕ) (vs : List Block) (qs : List Filed) → IsPlan p.row → ArePlans qs
      → AllByRecursion (alike p) qs → AllByRecursion (λ q. filed_cmp p q ≡ Less) qs
      → AllByRecursion (λ a. AllByRecursion (λ b. by_cells cells a b ≡ Less) (listing_rows qs))
      (joined_from p n vs)
  across p n [] qs hp h a s = tt
  across p n (v ∷ vs) qs hp h a s = (all_after p n v qs hp h a s, across p (n + 1) vs qs hp h a s)

  pub listing_up : (ps : List Filed) → ArePlans ps → IsAscending alike ps
      → IsStrictlySortedBy filed_cmp ps
      → IsAscending (λ a b. by_cells cells a b ≡ Less) (listing_rows ps)
  unfolding IsStrictlySortedBy
  listing_up [] h a s = tt
  listing_up (p ∷ ps) h a s = ascending-append (λ a b. by_cells cells a b ≡ Less) (joined_rows p)
      (listing_rows ps) (area_up p 0 p.row.area) (listing_up ps h.1 a.1 s.1)
      (across p 0 p.row.area ps h.0 h.1 a.0 s.0)

-- ---- an operator's plans

abbrev SameOperator : Filed → Filed → Type 0
SameOperator p q = p.operator ≡ q.operator

own_keys : (p q : Filed) (n m : ℕ) (v u : Block) → IsPlan p.row → IsPlan q.row → SameOperator p q
    → filed_cmp p q ≡ Less → by_cells (1 ∷ 5 ∷ []) (joined (row_of_plan p) (row_of_volume p n v))
    (joined (row_of_plan q) (row_of_volume q m u)) ≡ Less
own_keys p q n m v u hp hq same e =
    let ids : text_cmp p.row.id q.row.id ≡ Less = sym
    (by_ids p q (ap (λ o. text_cmp o q.operator) same ∙ tied_itself nat_list_cmp_total q.operator))
    ∙ e in
    ap (λ o. ordering_then o (ordering_then (value_cmp (Int (pos n)) (Int (pos m))) Equal))
    (value_cmp-Text (id_text p.row.id) (id_text q.row.id) ∙ text_order p.row.id q.row.id hp.id hq.id
    ∙ ids)

own_places : (p : Filed) (n m : ℕ) (v u : Block) → n < m
    → by_cells (1 ∷ 5 ∷ []) (joined (row_of_plan p) (row_of_volume p n v))
    (joined (row_of_plan p) (row_of_volume p m u))
    ≡ Less
own_places p n m v u e = λ i. ordering_then (tied_itself value_cmp_total (Text (id_text p.row.id)) i)
    (ordering_then (places_less n m e i) Equal)

own_alike : (o : List ℕ) (ps : List Filed) → IsAscending SameOperator (filter (is_by o) ps)
own_alike o ps = go (filter (is_by o) ps) (all_kept (is_by o) ps) where
  with_first : (p : Filed) (qs : List Filed) → is_by o p ≡ true
      → AllByRecursion (λ q. is_by o q ≡ true) qs
      → AllByRecursion (SameOperator p) qs
  with_first p [] e h = tt
  with_first p (q ∷ qs) e h = (sym (name_of o p e) ∙ name_of o q h.0, with_first p qs e h.1)

  go : (qs : List Filed) → AllByRecursion (λ q. is_by o q ≡ true) qs → IsAscending SameOperator qs
  go [] h = tt
  go (q ∷ qs) h = (with_first q qs h.0 h.1, go qs h.1)

own_test : (o : List ℕ) (q : Filed) → IsPlan q.row → sql.is_row_by o (row_of_plan q) ≡ is_by o q
own_test o q h = ap is_eq (value_cmp-Text q.operator o) ∙ turned q.operator o

-- the rows of the join are the listing of the operator's plans
pub own_listing : (tables : Tables) (w : World) (o : List ℕ) (rows : List Row) → IsContent w
    → AreTables tables w → Lists (1 ∷ 5 ∷ []) (with_volumes (sql.is_row_by o) tables) rows → rows
    ≡ listing_rows (filter (is_by o) w.plans)
own_listing tables w o rows h t lists =
    in_order (1 ∷ 5 ∷ []) (listing_rows (filter (is_by o) w.plans)) (with_volumes (sql.is_row_by o) tables)
    rows
    (listing_up (1 ∷ 5 ∷ []) SameOperator own_keys own_places (filter (is_by o) w.plans)
    (all_filter (λ p. IsPlan p.row) (is_by o) w.plans h.rows) (own_alike o w.plans)
    (IsStrictlySortedBy-filter filed_cmp (is_by o) w.plans h.world.plans))
    (join_rows (is_by o) (sql.is_row_by o) (own_test o) tables w h t) lists

pub own_plans_are : (w : World) (o : List ℕ) → IsContent w → ArePlans (filter (is_by o) w.plans)
own_plans_are w o h = all_filter (λ p. IsPlan p.row) (is_by o) w.plans h.rows
