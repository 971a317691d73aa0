-- Plans taken out of their tables, with their volumes and spans.
use Rattle.std.proofs.Common.{◌≡◌, ℕ, ◌+◌, Bool, true, false, ◌||◌, not, cond, MatchBool, List, [], ◌∷◌, ◌++◌, map, refl, sym, ap, subst, ◌∙◌, IsPermutation}
use Rattle.std.specs.List.{AllByRecursion, filter, list_any}
use Rattle.std.proofs.lemmas.List.Sorted.{IsPermutation-sym, IsPermutation-trans, list_any-IsPermutation}
use Rattle.sqlite_value.specs.Order.{Row}
use Rattle.sqlite_keyed.proofs.ListLemmas.{IsPermutation-filter, IsPermutation-same}
use Rattle.s2_cover.specs.declared.spans.Span.{Span}
use Rattle.volume4d.specs.Volume.{Block}
use Rattle.desk_rules.specs.Outcome.{is_live}
use Rattle.desk_sql.specs.Rows.{Tables, is_of}
use Rattle.desk_changes.specs.RowChanges.{RemovesPlans, is_of_none}
use Rattle.desk_store.specs.World.{Filed, World}
use Rattle.desk_store.proofs.lemmas.Order.{all_weaker}
use Rattle.row_codec.specs.Tables.{id_text, row_of_plan, plan_rows, row_of_volume, rows_from, volume_rows, row_of_cover, cover_rows, row_of_span, AreSpanRowsFrom, ArePlanSpanRows, AreSpanRows, AreTables}
use Rattle.desk_tables.specs.Store.{ClearsRows, is_left}
use Rattle.row_codec.proofs.lemmas.Order.{after_place, placed, placed_rows}

texts_any : (operator : List ℕ) (r : Row) (ids : List (List ℕ))
    → list_any (λ text. is_of operator text r) (map id_text ids)
    ≡ list_any (λ id. is_of operator (id_text id) r) ids
texts_any operator r [] = refl
texts_any operator r (id ∷ ids) = ap (λ b. is_of operator (id_text id) r || b)
    (texts_any operator r ids)

filter_on : (p q : Row → Bool) (rows : List Row) → AllByRecursion (λ r. p r ≡ q r) rows → filter p rows
    ≡ filter q rows
filter_on p q [] h = refl
filter_on p q (r ∷ rows) h = λ i. cond (h.0 i) (r ∷ filter_on p q rows h.1 i) (filter_on p q rows h.1 i)

filter_same : (p q : Row → Bool) (rows : List Row) → ((r : Row) → p r ≡ q r) → filter p rows
    ≡ filter q rows
filter_same p q [] h = refl
filter_same p q (r ∷ rows) h = λ i. cond (h r i) (r ∷ filter_same p q rows h i)
    (filter_same p q rows h i)

all_append : (P : Row → Type 0) (xs ys : List Row) → AllByRecursion P xs → AllByRecursion P ys
    → AllByRecursion P (xs ++ ys)
all_append P [] ys h k = k
all_append P (x ∷ xs) ys h k = (h.0, all_append P xs ys h.1 k)

or_true : (a b : Bool) → b ≡ true → (a || b) ≡ true
or_true true b h = refl
or_true false b h = h

module _ (operator : List ℕ) (has : List ℕ → Bool) where
  -- if a row is of an id, the id has a plan
  abbrev IsPlanned : Row → Type 0
  IsPlanned r = (text : List ℕ) → is_of operator text r ≡ true → has text ≡ true

  planned_any : (r : Row) → IsPlanned r → (texts : List (List ℕ))
      → list_any (λ text. is_of operator text r) (filter has texts)
      ≡ list_any (λ text. is_of operator text r) texts
  planned_any r h [] = refl
  planned_any r h (text ∷ texts) = by_tests (is_of operator text r) (has text) refl (h text)
      (planned_any r h texts) where
        by_tests : (a b : Bool) → is_of operator text r ≡ a → (a ≡ true → b ≡ true)
            → list_any (λ t. is_of operator t r) (filter has texts)
            ≡ list_any (λ t. is_of operator t r) texts
            → list_any (λ t. is_of operator t r) (cond b (text ∷ filter has texts) (filter has texts))
            ≡ (a || list_any (λ t. is_of operator t r) texts)
        by_tests a true e f ih = λ i. e i || ih i
        by_tests true false e f ih = let no : false ≡ true = f refl in cc
        by_tests false false e f ih = ih

  placed_planned : (more : Filed → ℕ → Block → Row) (p : Filed) → IsPlanned (row_of_plan p) → (n : ℕ)
      (vs : List Block) → AllByRecursion IsPlanned (rows_from (placed more) p n vs)
  placed_planned more p h n [] = tt
  placed_planned more p h n (v ∷ vs) = (h, placed_planned more p h (n + 1) vs)

  all_placed : (more : Filed → ℕ → Block → Row) (ps : List Filed)
      → AllByRecursion (λ p. IsPlanned (row_of_plan p)) ps
      → AllByRecursion IsPlanned (placed_rows more ps)
  all_placed more [] h = tt
  all_placed more (p ∷ ps) h =
      all_append IsPlanned (rows_from (placed more) p 0 p.row.area) (placed_rows more ps)
      (placed_planned more p h.0 0 p.row.area) (all_placed more ps h.1)

  all_volumes : (ps : List Filed) → AllByRecursion (λ p. IsPlanned (row_of_plan p)) ps
      → AllByRecursion IsPlanned (volume_rows ps)
  all_volumes = all_placed (after_place row_of_volume)

  all_covers : (ps : List Filed) → AllByRecursion (λ p. IsPlanned (row_of_plan p)) ps
      → AllByRecursion IsPlanned (cover_rows ps)
  all_covers = all_placed (after_place row_of_cover)

  spans_on : (p : Filed) → IsPlanned (row_of_plan p) → (n : ℕ) (v : Block) (spans : List Span)
      → AllByRecursion IsPlanned (map (row_of_span p n v) spans)
  spans_on p h n v [] = tt
  spans_on p h n v (s ∷ spans) = (h, spans_on p h n v spans)

  spans_from : (p : Filed) → IsPlanned (row_of_plan p) → (n : ℕ) (vs : List Block) (rows : List Row)
      → AreSpanRowsFrom p n vs rows → AllByRecursion IsPlanned rows
  spans_from p h n [] rows e = subst (AllByRecursion IsPlanned) (sym e) tt
  spans_from p h n (v ∷ vs) rows (spans, rest, ranges, are, more) =
      subst (AllByRecursion IsPlanned) (sym are) (all_append IsPlanned (map (row_of_span p n v) spans) rest
      (spans_on p h n v spans) (spans_from p h (n + 1) vs rest more))

  plan_spans : (p : Filed) → IsPlanned (row_of_plan p) → (rows : List Row) → ArePlanSpanRows p rows
      → AllByRecursion IsPlanned rows
  plan_spans p h rows are = by_live (is_live p.row.usage) are where
    by_live : (b : Bool) → MatchBool b (AreSpanRowsFrom p 0 p.row.area rows) (rows ≡ [])
        → AllByRecursion IsPlanned rows
    by_live true k = spans_from p h 0 p.row.area rows k
    by_live false k = subst (AllByRecursion IsPlanned) (sym k) tt

  all_spans : (ps : List Filed) → AllByRecursion (λ p. IsPlanned (row_of_plan p)) ps → (rows : List Row)
      → AreSpanRows ps rows → AllByRecursion IsPlanned rows
  all_spans [] h rows e = subst (AllByRecursion IsPlanned) (sym e) tt
  all_spans (p ∷ ps) h rows (front, rest, are, mine, more) =
      subst (AllByRecursion IsPlanned) (sym are) (all_append IsPlanned front rest
      (plan_spans p h.0 front mine) (all_spans ps h.1 rest more))

  -- rows that are left where the ids with a plan go are those that are left where all ids go
  left_alike : (ids : List (List ℕ)) (all rows new : List Row) → AllByRecursion IsPlanned all
      → IsPermutation all rows → new ≡ filter (is_of_none operator (filter has (map id_text ids))) rows
      → IsPermutation (filter (is_left operator ids) rows) new
  left_alike ids all rows new h same is =
      subst (IsPermutation (filter (is_left operator ids) rows)) (sym is)
      (IsPermutation-trans (filter (is_left operator ids) rows) (filter (is_left operator ids) all)
      (filter gone rows)
      (IsPermutation-sym (filter (is_left operator ids) all) (filter (is_left operator ids) rows)
      (IsPermutation-filter (is_left operator ids) all rows same))
      (subst (λ xs. IsPermutation xs (filter gone rows))
      (filter_on gone (is_left operator ids) all (each all h))
      (IsPermutation-filter gone all rows same)))
    where
      gone : Row → Bool
      gone = is_of_none operator (filter has (map id_text ids))

      each : (rows : List Row) → AllByRecursion IsPlanned rows
          → AllByRecursion (λ r. gone r ≡ is_left operator ids r) rows
      each [] k = tt
      each (r ∷ rows) k = (
        ap not (planned_any r k.0 (map id_text ids) ∙ texts_any operator r ids),
        each
            rows k.1,
      )

own_planned : (operator : List ℕ) (ps : List Filed)
    → AllByRecursion (λ p. (text : List ℕ) → is_of operator text (row_of_plan p) ≡ true
    → list_any (is_of operator text) (plan_rows ps) ≡ true) ps
own_planned operator [] = tt
own_planned operator (p ∷ ps) = (
  (λ text h. ap (λ b. b || list_any (is_of operator text) (plan_rows ps)) h),
  all_weaker (λ q. (text : List ℕ) → is_of operator text (row_of_plan q) ≡ true
      → list_any (is_of operator text) (plan_rows ps) ≡ true)
      (λ q. (text : List ℕ) → is_of operator text (row_of_plan q) ≡ true
      → list_any (is_of operator text) (plan_rows (p ∷ ps)) ≡ true)
      (λ q k text h. or_true (is_of operator text (row_of_plan p))
      (list_any (is_of operator text) (plan_rows ps)) (k text h)) ps (own_planned operator ps),
)

pub removal_is_clear : (operator : List ℕ) (ids : List (List ℕ)) (w : World) (old new : Tables)
    → AreTables old w → RemovesPlans operator (map id_text ids) old new
    → ClearsRows operator ids old new
removal_is_clear operator ids w old new t e = record {
  no_old = λ none. record {
    volumes = ap (λ x. x.old_volumes) e ∙ ap (filter gone) none.volumes;
    spans = ap (λ x. x.old_spans) e ∙ ap (filter gone) none.spans;
  };
  operators = IsPermutation-same old.operators new.operators (sym (ap (λ x. x.operators) e));
  plans = IsPermutation-same (filter (is_left operator ids) old.plans) new.plans
      (filter_same (is_left operator ids) (is_of_none operator (map id_text ids)) old.plans
      (λ r. ap not (sym (texts_any operator r ids))) ∙ sym (ap (λ x. x.plans) e));
  volumes = left_alike operator has ids (volume_rows w.plans) old.volumes new.volumes
      (all_volumes operator has w.plans planned) t.volumes (ap (λ x. x.volumes) e);
  covers = left_alike operator has ids (cover_rows w.plans) old.covers new.covers
      (all_covers operator has w.plans planned) t.covers (ap (λ x. x.covers) e);
  spans = left_alike operator has ids t.spans.0 old.spans new.spans
      (all_spans operator has w.plans planned t.spans.0 t.spans.1) t.spans.2 (ap (λ x. x.spans) e);
} where
  has : List ℕ → Bool
  has text = list_any (is_of operator text) old.plans

  gone : Row → Bool
  gone = is_of_none operator (filter has (map id_text ids))

  planned : AllByRecursion (λ p. (text : List ℕ) → is_of operator text (row_of_plan p) ≡ true → has text
      ≡ true)
      w.plans
  planned = all_weaker (λ q. (text : List ℕ) → is_of operator text (row_of_plan q) ≡ true
      → list_any (is_of operator text) (plan_rows w.plans) ≡ true)
      (λ q. (text : List ℕ) → is_of operator text (row_of_plan q) ≡ true → has text ≡ true)
      (λ q k text h. sym (list_any-IsPermutation (is_of operator text) (plan_rows w.plans) old.plans
      t.plans)
      ∙ k text h) w.plans (own_planned operator w.plans)
