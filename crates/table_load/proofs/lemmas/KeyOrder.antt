-- The rows of a content ascend by the columns of each table's key, so that read in that order they are
-- one list.
use Rattle.std.proofs.Common.{◌≡◌, ℕ, pos, suc, ◌+◌, ◌<◌, Bool, true, false, MatchBool, List, [], ◌∷◌, ◌++◌, drop, map, refl, sym, ap, subst, ◌∙◌, arith, Less, Equal, IsPermutation, IsTrue}
use Rattle.std.specs.List.{AllByRecursion, AllPairs}
use Rattle.std.specs.List.Sorted.{IsStrictlySortedBy}
use Rattle.std.specs.Ordering.{ordering_then}
use Rattle.std.proofs.lemmas.Cmp.{tied_itself}
use Rattle.std.proofs.lemmas.List.Elements.{recursion_from_All}
use Rattle.std.proofs.lemmas.List.Sorted.{IsPermutation-sym}
use Rattle.sqlite_value.specs.declared.value.Value.TheVariants.{Int, Text}
use Rattle.sqlite_value.specs.Order.{Row, column, value_cmp}
use Rattle.sqlite_value.proofs.OrderLemmas.{value_cmp_total, value_cmp-Text}
use Rattle.sqlite_trees.specs.Tree.{IsAscending}
use Rattle.sqlite_keyed.proofs.ListLemmas.{all_map, ascending-append}
use Rattle.s2_cover.specs.declared.spans.Span.{Span}
use Rattle.s2_cover.specs.Covers.{IsSpan, IsApart}
use Rattle.volume4d.specs.Volume.{Block}
use Rattle.desk_rules.specs.Outcome.{is_live}
use Rattle.desk_sql.specs.Rows.{Tables, Lists, by_cells, cover_part, volume_part}
use Rattle.desk_store.specs.World.{Filed, Listed, World, text_cmp, listed_cmp, filed_cmp, IsPlan, IsContent}
use Rattle.desk_store.proofs.lemmas.Order.{all_weaker, all_append}
use Rattle.row_codec.specs.Tables.{id_text, row_of_operator, operator_rows, row_of_plan, plan_rows, row_of_volume, rows_from, volume_rows_from, volume_rows, row_of_cover, cover_rows, row_of_span, AreSpanRowsFrom, ArePlanSpanRows, AreSpanRows, HasNoOldRows, AreTables}
use Rattle.table_load.specs.Opening.{AreRows, AreSortedHeads}
use Rattle.table_load.specs.Moving.{AreOldTables, AreSortedOld, HasNoNewRows}
use Rattle.table_load.proofs.CoverLemmas.{have_covers}
use Rattle.row_codec.proofs.lemmas.Id.{text_order, then_then}
use Rattle.row_codec.proofs.lemmas.Order.{after_key, after_place, placed, placed_rows}
use Rattle.row_codec.proofs.lemmas.Order.{ArePlans}
use Rattle.row_codec.proofs.lemmas.Order.{in_order, places_less, filed_total}
use Rattle.row_codec.proofs.lemmas.Plan.{HasKey, placed_keyed}
use Rattle.table_load.proofs.lemmas.Span.{spans_keyed}

-- the tables, each put in the order of its key
pub record AreSortedByKey (t rows : Tables) : Type 0 where
  pub operator_part : Lists (0 ∷ []) t.operators rows.operators
  pub plan_part : Lists (0 ∷ 1 ∷ []) t.plans rows.plans
  pub volume_part : Lists (0 ∷ 1 ∷ 2 ∷ []) t.volumes rows.volumes
  pub cover_part : Lists (0 ∷ 1 ∷ 2 ∷ []) t.covers rows.covers
  pub span_part : Lists (0 ∷ 1 ∷ 2 ∷ 3 ∷ []) t.spans rows.spans

-- and also its covers
pub record AreAllRows (t : Tables) (w : World) : Type 0 where
  pub rows : AreRows t w
  pub covers : t.covers ≡ cover_rows w.plans

-- ---- operators

abbrev NameBelow : Row → Row → Type 0
NameBelow r s = by_cells (0 ∷ []) r s ≡ Less

name_below : (l k : Listed) → listed_cmp l k ≡ Less → NameBelow (row_of_operator l) (row_of_operator k)
name_below l k e = ap (λ o. ordering_then o Equal) (value_cmp-Text l.name k.name ∙ e)

pub operators_up : (ls : List Listed) → IsStrictlySortedBy listed_cmp ls
    → IsAscending NameBelow (map row_of_operator ls)
unfolding IsStrictlySortedBy
operators_up [] s = tt
operators_up (l ∷ ls) s = (
  all_map (NameBelow (row_of_operator l)) row_of_operator ls
      (all_weaker (λ k. listed_cmp l k ≡ Less) (λ k. NameBelow (row_of_operator l) (row_of_operator k))
      (name_below l) ls s.0),
  operators_up ls s.1,
)

-- ---- rows that begin with a plan's key

-- the row of a plan that comes after another
abbrev IsLater : Filed → Row → Type 0
IsLater p s = (q : Filed) × IsPlan q.row × (filed_cmp p q ≡ Less) × HasKey q s

module _ (more : List ℕ) where
  abbrev Below : Row → Row → Type 0
  Below r s = by_cells (0 ∷ 1 ∷ more) r s ≡ Less

  of_keys : (p q : Filed) (a b : Row) → IsPlan p.row → IsPlan q.row → (r s : Row) → r ≡ Text p.operator
      ∷ Text (id_text p.row.id) ∷ a → s ≡ Text q.operator ∷ Text (id_text q.row.id) ∷ b
      → by_cells (0 ∷ 1 ∷ more) r s ≡ ordering_then (filed_cmp p q) (by_cells more r s)
  of_keys p q a b hp hq r s e f =
      (λ i. ordering_then (value_cmp (column (e i) 0) (column (f i) 0))
      (ordering_then (value_cmp (column (e i) 1) (column (f i) 1)) (by_cells more r s)))
      ∙ (λ i. ordering_then (value_cmp-Text p.operator q.operator i)
      (ordering_then ((value_cmp-Text (id_text p.row.id) (id_text q.row.id)
      ∙ text_order p.row.id q.row.id hp.id hq.id) i) (by_cells more r s)))
      ∙ then_then (text_cmp p.operator q.operator) (text_cmp p.row.id q.row.id) (by_cells more r s)

  later_below : (p : Filed) (r s : Row) → IsPlan p.row → HasKey p r → IsLater p s → Below r s
  later_below p r s hp (a, e) (q, hq, less, (b, f)) = of_keys p q a b hp hq r s e f
      ∙ ap (λ o. ordering_then o (by_cells more r s)) less

  same_below : (p : Filed) (r s : Row) → IsPlan p.row → HasKey p r → HasKey p s → by_cells more r s
      ≡ Less
      → Below r s
  same_below p r s hp (a, e) (b, f) less = of_keys p p a b hp hp r s e f
      ∙ (λ i. ordering_then (tied_itself filed_total p i) (less i))

  all_below : (p : Filed) (front rest : List Row) → IsPlan p.row → AllByRecursion (HasKey p) front
      → AllByRecursion (IsLater p) rest → AllByRecursion (λ r. AllByRecursion (Below r) rest) front
  all_below p front rest hp keyed later = all_weaker (HasKey p) (λ r. AllByRecursion (Below r) rest)
      (λ r k. all_weaker (IsLater p) (Below r) (λ s. later_below p r s hp k) rest later) front keyed

  pub one_more : (p : Filed) (front rest : List Row) → IsPlan p.row → AllByRecursion (HasKey p) front
      → IsAscending Below front → AllByRecursion (IsLater p) rest → IsAscending Below rest
      → IsAscending Below (front ++ rest)
  one_more p front rest hp keyed up later then = ascending-append Below front rest up
      then (all_below p front rest hp keyed later)

later_rows : (p q : Filed) (rows : List Row) → IsPlan q.row → filed_cmp p q ≡ Less
    → AllByRecursion (HasKey q) rows → AllByRecursion (IsLater p) rows
later_rows p q rows hq less keyed = all_weaker (HasKey q) (IsLater p) (λ r k. (q, hq, less, k)) rows
    keyed

-- ---- plans

later_heads : (p : Filed) (qs : List Filed) → ArePlans qs
    → AllByRecursion (λ q. filed_cmp p q ≡ Less) qs
    → AllByRecursion (IsLater p) (plan_rows qs)
later_heads p [] h s = tt
later_heads p (q ∷ qs) h s = ((q, h.0, s.0, (after_key (row_of_plan q), refl)), later_heads p qs h.1 s.1)

pub plans_up : (ps : List Filed) → ArePlans ps → IsStrictlySortedBy filed_cmp ps
    → IsAscending (Below []) (plan_rows ps)
unfolding IsStrictlySortedBy
plans_up [] h s = tt
plans_up (p ∷ ps) h s = one_more [] p (row_of_plan p ∷ []) (plan_rows ps) h.0
    ((after_key (row_of_plan p), refl), tt) (tt, tt) (later_heads p ps h.1 s.0) (plans_up ps h.1 s.1)

-- ---- volumes

module _ (more : Filed → ℕ → Block → Row) where
  abbrev rows_of : Filed → List Row
  rows_of p = rows_from (placed more) p 0 p.row.area

  later_areas : (p : Filed) (qs : List Filed) → ArePlans qs
      → AllByRecursion (λ q. filed_cmp p q ≡ Less) qs
      → AllByRecursion (IsLater p) (placed_rows more qs)
  later_areas p [] h s = tt
  later_areas p (q ∷ qs) h s = all_append (IsLater p) (rows_of q) (placed_rows more qs)
      (later_rows p q (rows_of q) h.0 s.0 (placed_keyed more q 0 q.row.area)) (later_areas p qs h.1 s.1)

  places_after : (p : Filed) (n m : ℕ) (v : Block) (us : List Block) → IsPlan p.row → n < m
      → AllByRecursion (Below (2 ∷ []) (placed more p n v)) (rows_from (placed more) p m us)
  places_after p n m v [] hp h = tt
  places_after p n m v (u ∷ us) hp h = (
    same_below (2 ∷ []) p (placed more p n v) (placed more p m u) hp
        (after_key (placed more p n v), refl)
        (after_key (placed more p m u), refl) (ap (λ o. ordering_then o Equal) (places_less n m h)),
    places_after p n (m + 1) v us hp (omega (arith, h)),
  )

  pub places_up : (p : Filed) (n : ℕ) (vs : List Block) → IsPlan p.row
      → IsAscending (Below (2 ∷ [])) (rows_from (placed more) p n vs)
  places_up p n [] hp = tt
  places_up p n (v ∷ vs) hp = (places_after p n (n + 1) v vs hp (omega arith), places_up p (n + 1) vs hp)

  placed_up : (ps : List Filed) → ArePlans ps → IsStrictlySortedBy filed_cmp ps
      → IsAscending (Below (2 ∷ [])) (placed_rows more ps)
  unfolding IsStrictlySortedBy
  placed_up [] h s = tt
  placed_up (p ∷ ps) h s = one_more (2 ∷ []) p (rows_of p) (placed_rows more ps) h.0
      (placed_keyed more p 0 p.row.area)
      (places_up p 0 p.row.area h.0) (later_areas p ps h.1 s.0) (placed_up ps h.1 s.1)

pub area_up : (p : Filed) (n : ℕ) (vs : List Block) → IsPlan p.row
    → IsAscending (Below (2 ∷ [])) (volume_rows_from p n vs)
area_up = places_up (after_place row_of_volume)

pub volumes_up : (ps : List Filed) → ArePlans ps → IsStrictlySortedBy filed_cmp ps
    → IsAscending (Below (2 ∷ [])) (volume_rows ps)
volumes_up = placed_up (after_place row_of_volume)

covers_up : (ps : List Filed) → ArePlans ps → IsStrictlySortedBy filed_cmp ps
    → IsAscending (Below (2 ∷ [])) (cover_rows ps)
covers_up = placed_up (after_place row_of_cover)

-- ---- spans

later_spans : (p : Filed) (qs : List Filed) (rows : List Row) → ArePlans qs
    → AllByRecursion (λ q. filed_cmp p q ≡ Less) qs → AreSpanRows qs rows
    → AllByRecursion (IsLater p) rows
later_spans p [] rows h s e = subst (AllByRecursion (IsLater p)) (sym e) tt
later_spans p (q ∷ qs) rows h s (front, rest, are, own, then) =
    subst (AllByRecursion (IsLater p)) (sym are) (all_append (IsLater p) front rest
    (later_rows p q front h.0 s.0 (spans_keyed q front own)) (later_spans p qs rest h.1 s.1 then))

-- a row of a plan, with its place
abbrev HasPlace : Filed → ℕ → Row → Type 0
HasPlace p n r = (a : Row) × (r ≡ Text p.operator ∷ Text (id_text p.row.id) ∷ Int (pos n) ∷ a)

abbrev IsAfterPlace : Filed → ℕ → Row → Type 0
IsAfterPlace p n r = (m : ℕ) × (n < m) × HasPlace p m r

place_key : (p : Filed) (n : ℕ) (r : Row) → HasPlace p n r → HasKey p r
place_key p n r (a, e) = (Int (pos n) ∷ a, e)

next_below : (p : Filed) (n : ℕ) (r s : Row) → IsPlan p.row → HasPlace p n r → IsAfterPlace p n s
    → Below (2 ∷ 3 ∷ []) r s
next_below p n r s hp (a, e) (m, less, (b, f)) =
    same_below (2 ∷ 3 ∷ []) p r s hp (place_key p n r (a, e)) (place_key p m s (b, f))
    ((λ i. ordering_then (value_cmp (column (e i) 2) (column (f i) 2)) (by_cells (3 ∷ []) r s))
    ∙ ap (λ o. ordering_then o (by_cells (3 ∷ []) r s)) (places_less n m less))

after_places : (p : Filed) (n m : ℕ) (vs : List Block) (rows : List Row) → n < m
    → AreSpanRowsFrom p m vs rows
    → AllByRecursion (IsAfterPlace p n) rows
after_places p n m [] rows less e = subst (AllByRecursion (IsAfterPlace p n)) (sym e) tt
after_places p n m (v ∷ vs) rows less (spans, rest, ranges, are, then) =
    subst (AllByRecursion (IsAfterPlace p n)) (sym are)
    (all_append (IsAfterPlace p n) (map (row_of_span p m v) spans) rest (each spans)
    (after_places p n (m + 1) vs rest (omega (arith, less)) then)) where
      each : (xs : List Span) → AllByRecursion (IsAfterPlace p n) (map (row_of_span p m v) xs)
      each [] = tt
      each (x ∷ xs) = ((m, less, (drop 3 (row_of_span p m v x), refl)), each xs)

on_places : (p : Filed) (n : ℕ) (v : Block) (xs : List Span)
    → AllByRecursion (HasPlace p n) (map (row_of_span p n v) xs)
on_places p n v [] = tt
on_places p n v (x ∷ xs) = ((drop 3 (row_of_span p n v x), refl), on_places p n v xs)

firsts_rise : (spans : List Span) → AllByRecursion IsSpan spans → AllPairs IsApart spans
    → IsAscending (λ a b. a.first < b.first) spans
firsts_rise [] each apart = tt
firsts_rise (x ∷ xs) each apart = (
  all_weaker (IsApart x) (λ y. x.first < y.first) (λ y k. omega (arith, k, each.0.ordered)) xs
      (recursion_from_All (IsApart x) xs (λ k d low. apart 0 (suc k) d (omega arith)
      (omega (arith, low)))),
  firsts_rise xs each.1 (λ i j d less below. apart (suc i) (suc j) d (omega (arith, less))
      (omega (arith, below))),
)

span_below : (p : Filed) (n : ℕ) (v : Block) (x y : Span) → IsPlan p.row → x.first < y.first
    → Below (2 ∷ 3 ∷ []) (row_of_span p n v x) (row_of_span p n v y)
span_below p n v x y hp less =
    same_below (2 ∷ 3 ∷ []) p (row_of_span p n v x) (row_of_span p n v y) hp
    (after_key (row_of_span p n v x), refl)
    (after_key (row_of_span p n v y), refl)
    ((λ i. ordering_then (tied_itself value_cmp_total (Int (pos n)) i)
    (ordering_then (places_less x.first y.first less i) Equal)))

on_up : (p : Filed) (n : ℕ) (v : Block) (spans : List Span) → IsPlan p.row
    → IsAscending (λ a b. a.first < b.first) spans
    → IsAscending (Below (2 ∷ 3 ∷ [])) (map (row_of_span p n v) spans)
on_up p n v [] hp up = tt
on_up p n v (x ∷ xs) hp up = (
  all_map (Below (2 ∷ 3 ∷ []) (row_of_span p n v x)) (row_of_span p n v) xs
      (all_weaker (λ y. x.first < y.first) (λ y. Below (2 ∷ 3 ∷ []) (row_of_span p n v x)
      (row_of_span p n v y))
      (λ y. span_below p n v x y hp) xs up.0),
  on_up p n v xs hp up.1,
)

from_up : (p : Filed) (n : ℕ) (vs : List Block) (rows : List Row) → IsPlan p.row
    → AreSpanRowsFrom p n vs rows
    → IsAscending (Below (2 ∷ 3 ∷ [])) rows
from_up p n [] rows hp e = subst (IsAscending (Below (2 ∷ 3 ∷ []))) (sym e) tt
from_up p n (v ∷ vs) rows hp (spans, rest, ranges, are, then) =
    subst (IsAscending (Below (2 ∷ 3 ∷ []))) (sym are)
    (ascending-append (Below (2 ∷ 3 ∷ [])) (map (row_of_span p n v) spans) rest
    (on_up p n v spans hp (firsts_rise spans (recursion_from_All IsSpan spans ranges.each)
    ranges.apart))
    (from_up p (n + 1) vs rest hp then)
    (all_weaker (HasPlace p n) (λ r. AllByRecursion (Below (2 ∷ 3 ∷ []) r) rest)
    (λ r k. all_weaker (IsAfterPlace p n) (Below (2 ∷ 3 ∷ []) r) (λ s. next_below p n r s hp k) rest
    (after_places p n (n + 1) vs rest (omega arith) then)) (map (row_of_span p n v) spans)
    (on_places p n v spans)))

pub plan_up : (p : Filed) (rows : List Row) → IsPlan p.row → ArePlanSpanRows p rows
    → IsAscending (Below (2 ∷ 3 ∷ [])) rows
plan_up p rows hp are = by_live (is_live p.row.usage) are where
  by_live : (b : Bool) → MatchBool b (AreSpanRowsFrom p 0 p.row.area rows) (rows ≡ [])
      → IsAscending (Below (2 ∷ 3 ∷ [])) rows
  by_live true k = from_up p 0 p.row.area rows hp k
  by_live false k = subst (IsAscending (Below (2 ∷ 3 ∷ []))) (sym k) tt

pub spans_up : (ps : List Filed) (rows : List Row) → ArePlans ps → IsStrictlySortedBy filed_cmp ps
    → AreSpanRows ps rows → IsAscending (Below (2 ∷ 3 ∷ [])) rows
unfolding IsStrictlySortedBy
spans_up [] rows h s e = subst (IsAscending (Below (2 ∷ 3 ∷ []))) (sym e) tt
spans_up (p ∷ ps) rows h s (front, rest, are, own, then) =
    subst (IsAscending (Below (2 ∷ 3 ∷ []))) (sym are)
    (one_more (2 ∷ 3 ∷ []) p front rest h.0 (spans_keyed p front own) (plan_up p front h.0 own)
    (later_spans p ps rest h.1 s.0 then) (spans_up ps rest h.1 s.1 then))

-- ---- all tables

-- what is read in the order of its keys, of the four tables that a content's rows are in, is the rows of the
-- content in that order
rows_are : (operators plans volumes spans : List Row) (rows : Tables) (w : World) → IsContent w
    → IsPermutation (operator_rows w) operators → IsPermutation (plan_rows w.plans) plans
    → IsPermutation (volume_rows w.plans) volumes
    → ((rs : List Row) × AreSpanRows w.plans rs × IsPermutation rs spans)
    → Lists (0 ∷ []) operators rows.operators → Lists (0 ∷ 1 ∷ []) plans rows.plans
    → Lists (0 ∷ 1 ∷ 2 ∷ []) volumes rows.volumes → Lists (0 ∷ 1 ∷ 2 ∷ 3 ∷ []) spans rows.spans
    → AreRows rows w
rows_are operators plans volumes spans rows w h one two three four a b c d = record {
  operator_part = in_order (0 ∷ []) (operator_rows w) operators rows.operators
      (operators_up w.operators h.world.operators) one a;
  plan_part = in_order (0 ∷ 1 ∷ []) (plan_rows w.plans) plans rows.plans
      (plans_up w.plans h.rows h.world.plans) two b;
  volume_part = in_order (0 ∷ 1 ∷ 2 ∷ []) (volume_rows w.plans) volumes rows.volumes
      (volumes_up w.plans h.rows h.world.plans) three c;
  span_part = subst (AreSpanRows w.plans) (sym
      (in_order (0 ∷ 1 ∷ 2 ∷ 3 ∷ []) four.0 spans rows.spans
      (spans_up w.plans four.0 h.rows h.world.plans four.1) four.2 d)) four.1;
}

pub are_rows : (t rows : Tables) (w : World) → IsContent w → AreTables t w → AreSortedByKey t rows
    → AreAllRows rows w
are_rows t rows w h are lists = record {
  rows = rows_are t.operators t.plans t.volumes t.spans rows w h are.operators are.plans are.volumes
      are.spans lists.operator_part lists.plan_part lists.volume_part lists.span_part;
  covers = in_order (0 ∷ 1 ∷ 2 ∷ []) (cover_rows w.plans) t.covers rows.covers
      (covers_up w.plans h.rows h.world.plans) are.covers lists.cover_part;
}

-- so it is of the tables but for spans, with any that are the content's, and each cover is that of its volume
pub heads_are : (t heads : Tables) (covered : Bool) (w : World) → IsContent w → AreTables t w
    → AreSortedHeads t heads covered → (rows : List Row) → AreSpanRows w.plans rows
    → AreRows (record heads { spans = rows }) w × IsTrue covered
heads_are t heads covered w h are lists rows spans =
    let key : List ℕ = 0 ∷ 1 ∷ 2 ∷ [] in
    let volumes : map volume_part lists.whole ≡ volume_rows w.plans = in_order key (volume_rows w.plans)
    t.volumes (map volume_part lists.whole) (volumes_up w.plans h.rows h.world.plans) are.volumes
    lists.listed.volumes_listed in
    let covers : map cover_part lists.whole ≡ cover_rows w.plans = in_order key (cover_rows w.plans)
    t.covers (map cover_part lists.whole) (covers_up w.plans h.rows h.world.plans) are.covers
    lists.listed.covers_listed in (
      record {
        operator_part = in_order (0 ∷ []) (operator_rows w) t.operators heads.operators
            (operators_up w.operators h.world.operators) are.operators lists.operator_part;
        plan_part = in_order (0 ∷ 1 ∷ []) (plan_rows w.plans) t.plans heads.plans
            (plans_up w.plans h.rows h.world.plans) are.plans lists.plan_part;
        volume_part = lists.compared.volumes_are ∙ volumes;
        span_part = spans;
      },
      lists.compared.agreed.1 (have_covers w.plans h.rows lists.whole volumes covers),
    )

-- so it is of tables of schema 1, with the rows of spans that are read
pub are_old_rows : (t heads : Tables) (rows : List Row) (w : World) → IsContent w → AreOldTables t w
    → AreSortedOld t heads → Lists (0 ∷ 1 ∷ 2 ∷ 3 ∷ []) t.old_spans rows
    → AreRows (record heads { spans = rows }) w
are_old_rows t heads rows w h are lists spans =
    rows_are t.operators t.plans t.old_volumes t.old_spans (record heads { spans = rows }) w h are.operators
    are.plans are.volumes are.spans lists.operator_part lists.plan_part lists.volume_part spans

-- or with any that are the content's
pub old_heads_are : (t heads : Tables) (w : World) → IsContent w → AreOldTables t w → AreSortedOld t heads
    → (rows : List Row) → AreSpanRows w.plans rows → AreRows (record heads { spans = rows }) w
old_heads_are t heads w h are lists rows spans = record {
  operator_part = in_order (0 ∷ []) (operator_rows w) t.operators heads.operators
      (operators_up w.operators h.world.operators) are.operators lists.operator_part;
  plan_part = in_order (0 ∷ 1 ∷ []) (plan_rows w.plans) t.plans heads.plans
      (plans_up w.plans h.rows h.world.plans) are.plans lists.plan_part;
  volume_part = in_order (0 ∷ 1 ∷ 2 ∷ []) (volume_rows w.plans) t.old_volumes heads.volumes
      (volumes_up w.plans h.rows h.world.plans) are.volumes lists.volume_part;
  span_part = spans;
}

moved : (cells : List ℕ) (xs wanted rows : List Row) → rows ≡ xs → Lists cells wanted rows
    → IsPermutation xs wanted
moved cells xs wanted rows e lists = subst (λ rs. IsPermutation rs wanted) e
    (IsPermutation-sym wanted rows lists.same)

-- and tables read so are the content's
pub are_tables : (t rows : Tables) (w : World) → HasNoOldRows t → AreSortedByKey t rows
    → AreAllRows rows w → AreTables t w
are_tables t rows w old lists all = let are = all.rows in record {
  old = old;
  operators = moved (0 ∷ []) (operator_rows w) t.operators rows.operators are.operator_part
      lists.operator_part;
  plans = moved (0 ∷ 1 ∷ []) (plan_rows w.plans) t.plans rows.plans are.plan_part lists.plan_part;
  volumes = moved (0 ∷ 1 ∷ 2 ∷ []) (volume_rows w.plans) t.volumes rows.volumes are.volume_part
      lists.volume_part;
  covers = moved (0 ∷ 1 ∷ 2 ∷ []) (cover_rows w.plans) t.covers rows.covers all.covers lists.cover_part;
  spans = (rows.spans, are.span_part, IsPermutation-sym t.spans rows.spans lists.span_part.same);
}

pub are_old_tables : (t heads : Tables) (rows : List Row) (w : World) → HasNoNewRows t
    → AreSortedOld t heads → Lists (0 ∷ 1 ∷ 2 ∷ 3 ∷ []) t.old_spans rows
    → AreRows (record heads { spans = rows }) w → AreOldTables t w
are_old_tables t heads rows w new lists spans are = record {
  new = new;
  operators = moved (0 ∷ []) (operator_rows w) t.operators heads.operators are.operator_part
      lists.operator_part;
  plans = moved (0 ∷ 1 ∷ []) (plan_rows w.plans) t.plans heads.plans are.plan_part lists.plan_part;
  volumes = moved (0 ∷ 1 ∷ 2 ∷ []) (volume_rows w.plans) t.old_volumes heads.volumes are.volume_part
      lists.volume_part;
  spans = (rows, are.span_part, IsPermutation-sym t.old_spans rows spans.same);
}
