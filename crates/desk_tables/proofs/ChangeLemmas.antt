-- What changes of a desk do to its tables.
use Rattle.std.proofs.Common.{◌≡◌, ℕ, ◌+◌, Bool, true, false, ◌&&◌, not, cond, List, [], ◌∷◌, ◌++◌, map, refl, sym, ap, subst, ◌∙◌, Less, Equal, Greater, IsPermutation}
use Rattle.std.specs.List.{AllByRecursion, filter, flat_map}
use Rattle.std.specs.List.Sorted.{IsStrictlySortedBy}
use Rattle.std.specs.declared.cmp.Ordering.{Ordering}
use Rattle.std.specs.Ordering.{ordering_then, is_eq, match_ordering}
use Rattle.std.specs.Cmp.{IsTotalOrder}
use Rattle.std.specs.Cmp.Lexicographic.{nat_list_cmp_total}
use Rattle.std.proofs.lemmas.Cmp.{on_total, then_total}
use Rattle.std.proofs.lemmas.List.Elements.{filter-append}
use Rattle.std.proofs.lemmas.List.Sorted.{IsPermutation-refl, IsPermutation-sym, IsPermutation-trans, IsPermutation-cons, IsPermutation-middle, IsPermutation-map, IsPermutation-append_right}
use Rattle.sqlite_value.specs.declared.value.Value.TheVariants.{Text}
use Rattle.sqlite_value.specs.Order.{Row}
use Rattle.sqlite_value.proofs.OrderLemmas.{value_cmp-Text}
use Rattle.sqlite_keyed.proofs.ListLemmas.{IsPermutation-same, IsPermutation-flat_map, IsPermutation-filter, filter_all}
use Rattle.volume4d.specs.Volume.{Block}
use Rattle.desk_rules.specs.declared.plan.PlanRow.{PlanRow}
use Rattle.desk_sql.specs.Rows as sql
use Rattle.desk_sql.specs.Rows.{Tables, is_not_of}
use Rattle.desk_store.specs.World.{Filed, Listed, World, text_cmp, listed_cmp, filed_cmp, plans_of, is_by, is_own, IsId, IsPlan, IsContent}
use Rattle.desk_store.specs.Changes.{put_filed, filed_by, put_row, list_operator, with_plans, with_operator, replaced, closed, close_row, clear_rows, changed_by, IsFitting}
use Rattle.desk_store.proofs.lemmas.Order.{inserted, all_weaker}
use Rattle.desk_store.proofs.lemmas.Content.{enrol_content, put_content, close_content, clear_content}
use Rattle.desk_store.proofs.lemmas.Change.{stays, cleared_plans, close_filed, closed_plans}
use Rattle.desk_store.specs.declared.change.Change.{Change}
use Rattle.desk_store.specs.declared.change.Change.TheVariants.{Enrol, Put, Close, Clear}
use Rattle.row_codec.specs.Tables.{id_text, row_of_operator, operator_rows, row_of_plan, plan_rows, row_of_volume, rows_from, area_rows, volume_rows, row_of_cover, area_covers, cover_rows, AreSpanRows, HasNoOldRows, AreTables}
use Rattle.desk_tables.specs.Store.{with_usage, EnrolsRows, PutsRows, ClosesRows, ClearsRows, ChangesRows, IsWithinLimits, closed_if, is_left}
use Rattle.row_codec.proofs.lemmas.Order.{after_key}
use Rattle.row_codec.proofs.lemmas.Order.{ArePlans, turned}
use Rattle.desk_tables.proofs.FilterLemmas.{own_row, other_row, left_row, plans_filtered, volumes_filtered, covers_filtered, plan_spans_filtered, spans_filtered, spans_moved}

-- tables that have the rows of plans in some order
abbrev HaveSpans : List Filed → List Row → Type 0
HaveSpans ps spans = (rows : List Row) × AreSpanRows ps rows × IsPermutation rows spans

have_spans : (ps qs : List Filed) (spans : List Row) → IsPermutation ps qs → HaveSpans ps spans
    → HaveSpans qs spans
have_spans ps qs spans h (rows, are, in_tables) =
    let there = spans_moved ps qs h rows are in (
      there.0,
      there.1,
      IsPermutation-trans there.0 rows spans (IsPermutation-sym rows there.0 there.2)
          in_tables,
    )

in_any_order : (tables : Tables) (w : World) (ps : List Filed) → IsPermutation ps w.plans
    → HasNoOldRows tables → IsPermutation (operator_rows w) tables.operators
    → IsPermutation (plan_rows ps) tables.plans → IsPermutation (volume_rows ps) tables.volumes
    → IsPermutation (cover_rows ps) tables.covers
    → HaveSpans ps tables.spans → AreTables tables w
in_any_order tables w ps h old operators plans volumes covers spans = record {
  old = old;
  operators = operators;
  plans = IsPermutation-trans (plan_rows w.plans) (plan_rows ps) tables.plans
      (IsPermutation-map row_of_plan w.plans ps back) plans;
  volumes = IsPermutation-trans (volume_rows w.plans) (volume_rows ps) tables.volumes
      (IsPermutation-flat_map area_rows w.plans ps back) volumes;
  covers = IsPermutation-trans (cover_rows w.plans) (cover_rows ps) tables.covers
      (IsPermutation-flat_map area_covers w.plans ps back) covers;
  spans = have_spans ps w.plans tables.spans h spans;
} where
  back : IsPermutation w.plans ps
  back = IsPermutation-sym ps w.plans h

-- ---- a plan put in its place

filed_total : IsTotalOrder filed_cmp
filed_total = then_total (on_total (λ (p : Filed). p.operator) nat_list_cmp_total)
    (on_total (λ (p : Filed). p.row.id) nat_list_cmp_total)

abbrev other : Filed → Filed → Bool
other p q = not (is_own p.operator p.row.id q)

own_at : (n m : Ordering) → is_eq (ordering_then n m) ≡ (is_eq n && is_eq m)
own_at Less m = refl
own_at Equal m = refl
own_at Greater m = refl

other_by : (p q : Filed) (n : Ordering) → filed_cmp p q ≡ n → other p q ≡ not (is_eq n)
other_by p q n e = ap not (sym (own_at (text_cmp p.operator q.operator) (text_cmp p.row.id q.row.id))
    ∙ ap is_eq e)

pub front : {X : Type 0} (p q : X) (rest more : List X) → IsPermutation (p ∷ rest) more
    → IsPermutation (p ∷ q ∷ rest) (q ∷ more)
front p q rest more h =
    IsPermutation-trans (p ∷ q ∷ rest) (q ∷ p ∷ rest) (q ∷ more)
    (IsPermutation-sym (q ∷ p ∷ rest) (p ∷ q ∷ rest) (IsPermutation-middle (q ∷ []) p rest))
    (IsPermutation-cons q (p ∷ rest) more h)

put_moves : (p : Filed) (ps : List Filed) → IsStrictlySortedBy filed_cmp ps
    → IsPermutation (p ∷ filter (other p) ps) (put_filed p ps)
unfolding IsStrictlySortedBy
put_moves p [] s = IsPermutation-refl (p ∷ [])
put_moves p (q ∷ qs) s = by_order (filed_cmp p q) refl (put_moves p qs s.1) where
  all_other : AllByRecursion (λ r. filed_cmp p r ≡ Less) qs → filter (other p) qs ≡ qs
  all_other h = filter_all (other p) qs (all_weaker (λ r. filed_cmp p r ≡ Less) (λ r. other p r ≡ true)
      (λ r e. other_by p r Less e) qs h)

  by_order : (n : Ordering) → filed_cmp p q ≡ n
      → IsPermutation (p ∷ filter (other p) qs) (put_filed p qs)
      → IsPermutation (p ∷ filter (other p) (q ∷ qs))
      (match_ordering n (p ∷ q ∷ qs) (p ∷ qs) (q ∷ put_filed p qs))
  by_order Less e ih =
      rw (
        other_by p q Less e,
        all_other (all_weaker (λ r. filed_cmp q r ≡ Less) (λ r. filed_cmp p r ≡ Less)
            (λ r h. filed_total.trans p q r e h) qs s.0),
      )
      (IsPermutation-refl (p ∷ q ∷ qs))
  by_order Equal e ih =
      rw (
        other_by p q Equal e,
        all_other (all_weaker (λ r. filed_cmp q r ≡ Less) (λ r. filed_cmp p r ≡ Less)
            (λ r h. filed_total.congr p q r e ∙ h) qs s.0),
      )
      (IsPermutation-refl (p ∷ qs))
  by_order Greater e ih = rw (other_by p q Greater e)
      (front p q (filter (other p) qs) (put_filed p qs) ih)

-- ---- an operator put in its place

abbrev pub named_otherwise : List ℕ → Listed → Bool
named_otherwise name l = not (is_eq (text_cmp name l.name))

list_moves : (name : List ℕ) (ceiling : ℕ) (ls : List Listed) → IsStrictlySortedBy listed_cmp ls
    → IsPermutation (record { name = name; ceiling = ceiling } ∷ filter (named_otherwise name) ls)
    (list_operator name ceiling ls)
unfolding IsStrictlySortedBy
list_moves name ceiling [] s = IsPermutation-refl (record { name = name; ceiling = ceiling } ∷ [])
list_moves name ceiling (l ∷ ls) s = by_order (text_cmp name l.name) refl
    (list_moves name ceiling ls s.1)
  where
    new : Listed
    new = record { name = name; ceiling = ceiling }

    all_other : AllByRecursion (λ k. text_cmp name k.name ≡ Less) ls → filter (named_otherwise name) ls
        ≡ ls
    all_other h = filter_all (named_otherwise name) ls
        (all_weaker (λ k. text_cmp name k.name ≡ Less) (λ k. named_otherwise name k ≡ true)
        (λ k e. ap (λ n. not (is_eq n)) e) ls h)

    by_order : (n : Ordering) → text_cmp name l.name ≡ n
        → IsPermutation (new ∷ filter (named_otherwise name) ls) (list_operator name ceiling ls)
        → IsPermutation (new ∷ filter (named_otherwise name) (l ∷ ls))
        (match_ordering n (new ∷ l ∷ ls) (new ∷ ls) (l ∷ list_operator name ceiling ls))
    by_order Less e ih =
        rw (
          e,
          all_other (all_weaker (λ k. listed_cmp l k ≡ Less) (λ k. text_cmp name k.name ≡ Less)
              (λ k h. nat_list_cmp_total.trans name l.name k.name e h) ls s.0),
        )
        (IsPermutation-refl (new ∷ l ∷ ls))
    by_order Equal e ih =
        rw (
          e,
          all_other (all_weaker (λ k. listed_cmp l k ≡ Less) (λ k. text_cmp name k.name ≡ Less)
              (λ k h. nat_list_cmp_total.congr name l.name k.name e ∙ h) ls s.0),
        )
        (IsPermutation-refl (new ∷ ls))
    by_order Greater e ih =
        rw e (front new l (filter (named_otherwise name) ls) (list_operator name ceiling ls) ih)

pub operators_filtered : (name : List ℕ) (ls : List Listed)
    → filter (λ r. not (sql.is_row_by name r)) (map row_of_operator ls)
    ≡ map row_of_operator (filter (named_otherwise name) ls)
operators_filtered name [] = refl
operators_filtered name (l ∷ ls) =
    (λ i. cond (not (is_eq (value_cmp-Text l.name name i))) (row_of_operator l ∷ left) left)
    ∙ ap (λ b. cond (not b) (row_of_operator l ∷ left) left) (turned l.name name)
    ∙ by_test (named_otherwise name l) (operators_filtered name ls) where
      left : List Row
      left = filter (λ r. not (sql.is_row_by name r)) (map row_of_operator ls)

      by_test : (b : Bool) → left ≡ map row_of_operator (filter (named_otherwise name) ls)
          → cond b (row_of_operator l ∷ left) left ≡ map row_of_operator
          (cond b (l ∷ filter (named_otherwise name) ls) (filter (named_otherwise name) ls))
      by_test true ih = ap (λ rows. row_of_operator l ∷ rows) ih
      by_test false ih = ih

enrol_tables : (name : List ℕ) (ceiling : ℕ) (w : World) (old new : Tables) → IsContent w
    → AreTables old w
    → EnrolsRows name ceiling old new → AreTables new (with_operator w name ceiling)
unfolding with_operator
enrol_tables name ceiling w old new h t e = record {
  old = e.no_old t.old;
  operators = operators;
  plans = IsPermutation-trans (plan_rows w.plans) old.plans new.plans t.plans e.plans;
  volumes = IsPermutation-trans (volume_rows w.plans) old.volumes new.volumes t.volumes e.volumes;
  covers = IsPermutation-trans (cover_rows w.plans) old.covers new.covers t.covers e.covers;
  spans = (t.spans.0, t.spans.1, IsPermutation-trans t.spans.0 old.spans new.spans t.spans.2 e.spans);
} where
  row : Row
  row = sql.operator_row name ceiling

  left : List Row → List Row
  left rows = filter (λ r. not (sql.is_row_by name r)) rows

  listed : IsPermutation (map row_of_operator (list_operator name ceiling w.operators))
      (row ∷ map row_of_operator (filter (named_otherwise name) w.operators))
  listed = IsPermutation-map row_of_operator (list_operator name ceiling w.operators)
      (record { name = name; ceiling = ceiling } ∷ filter (named_otherwise name) w.operators)
      (IsPermutation-sym (record { name = name; ceiling = ceiling }
      ∷ filter (named_otherwise name) w.operators) (list_operator name ceiling w.operators)
      (list_moves name ceiling w.operators h.world.operators))

  rows : IsPermutation (row ∷ map row_of_operator (filter (named_otherwise name) w.operators))
      (row ∷ left old.operators)
  rows = IsPermutation-cons row (map row_of_operator (filter (named_otherwise name) w.operators))
      (left old.operators)
      (subst (λ xs. IsPermutation xs (left old.operators)) (operators_filtered name w.operators)
      (IsPermutation-filter (λ r. not (sql.is_row_by name r)) (operator_rows w) old.operators t.operators))

  operators : IsPermutation (map row_of_operator (list_operator name ceiling w.operators)) new.operators
  operators = IsPermutation-trans (map row_of_operator (list_operator name ceiling w.operators))
      (row ∷ left old.operators) new.operators
      (IsPermutation-trans (map row_of_operator (list_operator name ceiling w.operators))
      (row ∷ map row_of_operator (filter (named_otherwise name) w.operators)) (row ∷ left old.operators)
      listed rows) e.operators

-- ---- rows that a test keeps

module _ (test : Filed → Bool) (row_test : Row → Bool)
    (same : (q : Filed) (r : Row) → IsPlan q.row
    → row_test (Text q.operator ∷ Text (id_text q.row.id) ∷ r)
    ≡ test q) (old : Tables) (w : World) (h : IsContent w) (t : AreTables old w) where
  pub plans_left : IsPermutation (plan_rows (filter test w.plans)) (filter row_test old.plans)
  plans_left = subst (λ xs. IsPermutation xs (filter row_test old.plans))
      (plans_filtered test row_test same w.plans h.rows)
      (IsPermutation-filter row_test (plan_rows w.plans) old.plans t.plans)

  pub volumes_left : IsPermutation (volume_rows (filter test w.plans)) (filter row_test old.volumes)
  volumes_left = subst (λ xs. IsPermutation xs (filter row_test old.volumes))
      (volumes_filtered test row_test same w.plans h.rows)
      (IsPermutation-filter row_test (volume_rows w.plans) old.volumes t.volumes)

  pub covers_left : IsPermutation (cover_rows (filter test w.plans)) (filter row_test old.covers)
  covers_left = subst (λ xs. IsPermutation xs (filter row_test old.covers))
      (covers_filtered test row_test same w.plans h.rows)
      (IsPermutation-filter row_test (cover_rows w.plans) old.covers t.covers)

  pub spans_left : HaveSpans (filter test w.plans) (filter row_test old.spans)
  spans_left = (
    filter row_test t.spans.0,
    spans_filtered test row_test same w.plans h.rows t.spans.0
        t.spans.1,
    IsPermutation-filter row_test t.spans.0 old.spans t.spans.2,
  )

put_tables : (o : List ℕ) (row : PlanRow) (w : World) (old new : Tables) → IsContent w → IsPlan row
    → AreTables old w → PutsRows (filed_by o row) old new
    → AreTables new (with_plans w o (put_row row (plans_of o w)))
unfolding with_plans
put_tables o row w old new h within t e =
    in_any_order new (record w { plans = replaced o (put_row row (plans_of o w)) w.plans }) qs
    (subst (IsPermutation qs) (inserted o row w.plans h.world.plans)
    (put_moves p w.plans h.world.plans))
    (e.no_old t.old)
    (IsPermutation-trans (operator_rows w) old.operators new.operators t.operators e.operators)
    (IsPermutation-trans (plan_rows qs) (row_of_plan p ∷ filter test old.plans) new.plans
    (IsPermutation-cons (row_of_plan p) (plan_rows (filter (other p) w.plans)) (filter test old.plans)
    (plans_left (other p) test same old w h t)) e.plans)
    (IsPermutation-trans (volume_rows qs) (area_rows p ++ filter test old.volumes) new.volumes
    (IsPermutation-append_right (area_rows p) (volume_rows (filter (other p) w.plans))
    (filter test old.volumes) (volumes_left (other p) test same old w h t)) e.volumes)
    (IsPermutation-trans (cover_rows qs) (area_covers p ++ filter test old.covers) new.covers
    (IsPermutation-append_right (area_covers p) (cover_rows (filter (other p) w.plans))
    (filter test old.covers) (covers_left (other p) test same old w h t)) e.covers) (
      e.spans.0 ++ left.0,
      (e.spans.0, left.0, refl, e.spans.1, left.1),
      IsPermutation-trans (e.spans.0 ++ left.0) (e.spans.0 ++ filter test old.spans) new.spans
          (IsPermutation-append_right e.spans.0 left.0 (filter test old.spans) left.2) e.spans.2,
    ) where
      p : Filed
      p = filed_by o row

      test : Row → Bool
      test = is_not_of o (id_text row.id)

      qs : List Filed
      qs = p ∷ filter (other p) w.plans

      same : (q : Filed) (r : Row) → IsPlan q.row → test (Text q.operator ∷ Text (id_text q.row.id) ∷ r)
          ≡ other p q
      same = other_row o row.id within.id

      left : HaveSpans (filter (other p) w.plans) (filter test old.spans)
      left = spans_left (other p) test same old w h t

clear_tables : (o : List ℕ) (ids : List (List ℕ)) (w : World) (old new : Tables) → IsContent w
    → AllByRecursion IsId ids → AreTables old w → ClearsRows o ids old new
    → AreTables new (with_plans w o (clear_rows ids (plans_of o w)))
unfolding with_plans
clear_tables o ids w old new h within t e =
    in_any_order new (record w { plans = replaced o (clear_rows ids (plans_of o w)) w.plans }) qs
    (IsPermutation-same qs (replaced o (clear_rows ids (plans_of o w)) w.plans)
    (cleared_plans o ids w.plans h.world.plans))
    (e.no_old t.old)
    (IsPermutation-trans (operator_rows w) old.operators new.operators t.operators e.operators)
    (IsPermutation-trans (plan_rows qs) (filter test old.plans) new.plans
    (plans_left (stays o ids) test same old w h t) e.plans)
    (IsPermutation-trans (volume_rows qs) (filter test old.volumes) new.volumes
    (volumes_left (stays o ids) test same old w h t) e.volumes)
    (IsPermutation-trans (cover_rows qs) (filter test old.covers) new.covers
    (covers_left (stays o ids) test same old w h t) e.covers)
    (left.0, left.1, IsPermutation-trans left.0 (filter test old.spans) new.spans left.2 e.spans) where
      test : Row → Bool
      test = is_left o ids

      qs : List Filed
      qs = filter (stays o ids) w.plans

      same : (q : Filed) (r : Row) → IsPlan q.row → test (Text q.operator ∷ Text (id_text q.row.id) ∷ r)
          ≡ stays o ids q
      same = left_row o ids within

      left : HaveSpans (filter (stays o ids) w.plans) (filter test old.spans)
      left = spans_left (stays o ids) test same old w h t

-- ---- a plan closed

plans_closed : (o id : List ℕ) (ps : List Filed) → IsId id → ArePlans ps
    → map (closed_if o id) (plan_rows ps)
    ≡ plan_rows (map (close_filed o id) ps)
plans_closed o id [] hi h = refl
plans_closed o id (p ∷ ps) hi h = λ i. one i ∷ plans_closed o id ps hi h.1 i where
  by_test : (b : Bool) → cond b (with_usage 2 (row_of_plan p)) (row_of_plan p)
      ≡ row_of_plan (cond b (record { operator = p.operator; row = closed p.row }) p)
  by_test true = refl
  by_test false = refl

  one : closed_if o id (row_of_plan p) ≡ row_of_plan (close_filed o id p)
  one = ap (λ b. cond b (with_usage 2 (row_of_plan p)) (row_of_plan p))
      (own_row o id p (after_key (row_of_plan p)) hi h.0.id) ∙ by_test (is_own o id p)

-- rows of volumes, if a row of a closed plan is what it was
module _ (row : Filed → ℕ → Block → Row) (same : (p : Filed) (n : ℕ) (v : Block)
    → row (record { operator = p.operator; row = closed p.row }) n v ≡ row p n v) where
  same_places : (p : Filed) (n : ℕ) (vs : List Block)
      → rows_from row (record { operator = p.operator; row = closed p.row }) n vs ≡ rows_from row p n vs
  same_places p n [] = refl
  same_places p n (v ∷ vs) = λ i. same p n v i ∷ same_places p (n + 1) vs i

  areas_closed : (o id : List ℕ) (ps : List Filed) → flat_map (λ p. rows_from row p 0 p.row.area) ps
      ≡ flat_map (λ p. rows_from row p 0 p.row.area) (map (close_filed o id) ps)
  areas_closed o id [] = refl
  areas_closed o id (p ∷ ps) = λ i. by_test (is_own o id p) i ++ areas_closed o id ps i where
    rows_of : Filed → List Row
    rows_of q = rows_from row q 0 q.row.area

    by_test : (b : Bool) → rows_of p
        ≡ rows_of (cond b (record { operator = p.operator; row = closed p.row }) p)
    by_test true = sym (same_places p 0 p.row.area)
    by_test false = refl

volumes_closed : (o id : List ℕ) (ps : List Filed) → volume_rows ps
    ≡ volume_rows (map (close_filed o id) ps)
volumes_closed = areas_closed row_of_volume (λ p n v. refl)

covers_closed : (o id : List ℕ) (ps : List Filed) → cover_rows ps
    ≡ cover_rows (map (close_filed o id) ps)
covers_closed = areas_closed row_of_cover (λ p n v. refl)

spans_closed : (o id : List ℕ) (ps : List Filed) (rows : List Row) → IsId id → ArePlans ps
    → AreSpanRows ps rows → AreSpanRows (map (close_filed o id) ps)
    (filter (is_not_of o (id_text id)) rows)
spans_closed o id [] rows hi h e = ap (filter (is_not_of o (id_text id))) e
spans_closed o id (p ∷ ps) rows hi h (first, rest, are, mine, more) =
    by_test (is_own o id p) (ap (filter test) are ∙ filter-append test first rest
    ∙ (λ i. plan_spans_filtered (λ q. not (is_own o id q)) test (other_row o id hi) p h.0 first mine i
    ++ filter test rest)) (spans_closed o id ps rest hi h.1 more) where
      test : Row → Bool
      test = is_not_of o (id_text id)

      by_test : (b : Bool) → filter test rows ≡ cond (not b) first [] ++ filter test rest
          → AreSpanRows (map (close_filed o id) ps) (filter test rest)
          → AreSpanRows (cond b (record { operator = p.operator; row = closed p.row }) p
          ∷ map (close_filed o id) ps) (filter test rows)
      by_test true e ih = ([], filter test rest, e, refl, ih)
      by_test false e ih = (first, filter test rest, e, mine, ih)

close_tables : (o id : List ℕ) (w : World) (old new : Tables) → IsContent w → IsId id → AreTables old w
    → ClosesRows o id old new
    → AreTables new (with_plans w o (close_row id (plans_of o w)))
unfolding with_plans
close_tables o id w old new h within t e =
    in_any_order new (record w { plans = replaced o (close_row id (plans_of o w)) w.plans }) qs
    (IsPermutation-same qs (replaced o (close_row id (plans_of o w)) w.plans)
    (closed_plans o id w.plans h.world.plans))
    (e.no_old t.old)
    (IsPermutation-trans (operator_rows w) old.operators new.operators t.operators e.operators)
    (IsPermutation-trans (plan_rows qs) (map (closed_if o id) old.plans) new.plans
    (subst (λ xs. IsPermutation xs (map (closed_if o id) old.plans))
    (plans_closed o id w.plans within h.rows)
    (IsPermutation-map (closed_if o id) (plan_rows w.plans) old.plans t.plans)) e.plans)
    (subst (λ xs. IsPermutation xs new.volumes) (volumes_closed o id w.plans)
    (IsPermutation-trans (volume_rows w.plans) old.volumes new.volumes t.volumes e.volumes))
    (subst (λ xs. IsPermutation xs new.covers) (covers_closed o id w.plans)
    (IsPermutation-trans (cover_rows w.plans) old.covers new.covers t.covers e.covers)) (
      filter test t.spans.0,
      spans_closed o id w.plans t.spans.0 within h.rows t.spans.1,
      IsPermutation-trans (filter test t.spans.0) (filter test old.spans) new.spans
          (IsPermutation-filter test t.spans.0 old.spans t.spans.2) e.spans,
    ) where
      test : Row → Bool
      test = is_not_of o (id_text id)

      qs : List Filed
      qs = map (close_filed o id) w.plans

pub change_tables : (change : Change) (w : World) (old new : Tables) → IsContent w → IsWithinLimits change
    → AreTables old w → ChangesRows change old new → AreTables new (changed_by change w)
unfolding changed_by IsWithinLimits ChangesRows
change_tables (Enrol operator ceiling) w old new h within t e =
    enrol_tables operator ceiling w old new h t e
change_tables (Put operator row) w old new h within t e = put_tables operator row w old new h within t e
change_tables (Close operator id) w old new h within t e =
    close_tables operator id w old new h within t e
change_tables (Clear operator ids) w old new h within t e =
    clear_tables operator ids.items w old new h within t e

-- ---- what stays a content

pub change_content : (change : Change) (w : World) → IsContent w → IsFitting change w → IsWithinLimits change
    → IsContent (changed_by change w)
unfolding changed_by IsWithinLimits
change_content (Enrol operator ceiling) w h fits within = enrol_content operator ceiling w h fits within
change_content (Put operator row) w h fits within = put_content operator row w h fits within
change_content (Close operator id) w h fits within = close_content operator id w h fits
change_content (Clear operator ids) w h fits within =
    clear_content operator ids.items (Clear operator ids) w h fits refl
