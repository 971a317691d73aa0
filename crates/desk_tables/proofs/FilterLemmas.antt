-- The rows of some plans among those of all, and of plans in another order.
use Rattle.std.proofs.Common.{◌≡◌, ℕ, ◌+◌, Bool, true, false, MatchBool, ◌&&◌, ◌||◌, not, cond, List, [], ◌∷◌, ◌++◌, map, refl, sym, ap, subst, ◌∙◌, IsPermutation}
use Rattle.std.specs.List.{AllByRecursion, filter, list_any}
use Rattle.std.specs.Ordering.{is_eq}
use Rattle.std.proofs.lemmas.List.{append_assoc}
use Rattle.std.proofs.lemmas.List.Elements.{filter-append}
use Rattle.std.proofs.lemmas.List.Sorted.{IsPermutation-refl, IsPermutation-trans, IsPermutation-append_left, IsPermutation-append_right, IsPermutation-append_comm}
use Rattle.sqlite_value.specs.declared.value.Value.TheVariants.{Text}
use Rattle.sqlite_value.specs.Order.{Row}
use Rattle.sqlite_value.proofs.OrderLemmas.{value_cmp-Text}
use Rattle.sqlite_keyed.proofs.ListLemmas.{along_permutation}
use Rattle.s2_cover.specs.declared.spans.Span.{Span}
use Rattle.volume4d.specs.Volume.{Block}
use Rattle.desk_rules.specs.Outcome.{is_live}
use Rattle.desk_sql.specs.Rows.{is_of, is_not_of}
use Rattle.desk_store.specs.World.{Filed, is_own, IsId, IsPlan}
use Rattle.desk_store.proofs.lemmas.Change.{stays}
use Rattle.row_codec.specs.Tables.{id_text, row_of_plan, plan_rows, row_of_volume, rows_from, volume_rows, row_of_cover, cover_rows, row_of_span, AreSpanRowsFrom, ArePlanSpanRows, AreSpanRows}
use Rattle.desk_tables.specs.Store.{is_left}
use Rattle.row_codec.proofs.lemmas.Id.{text_order}
use Rattle.row_codec.proofs.lemmas.Order.{after_key, after_place, placed, placed_rows}
use Rattle.row_codec.proofs.lemmas.Order.{ArePlans, turned}

-- a row with the key of a plan is of the operator and the id if the plan is
pub own_row : (o id : List ℕ) (q : Filed) (r : Row) → IsId id → IsId q.row.id
    → is_of o (id_text id) (Text q.operator ∷ Text (id_text q.row.id) ∷ r) ≡ is_own o id q
own_row o id q r hi hq = λ i.
    (ap is_eq (value_cmp-Text q.operator o) ∙ turned q.operator o) i
    && (ap is_eq (value_cmp-Text (id_text q.row.id) (id_text id) ∙ text_order q.row.id id hq hi)
    ∙ turned q.row.id id) i

pub other_row : (o id : List ℕ) → IsId id → (q : Filed) (r : Row) → IsPlan q.row
    → is_not_of o (id_text id) (Text q.operator ∷ Text (id_text q.row.id) ∷ r) ≡ not (is_own o id q)
other_row o id hi q r hq = ap not (own_row o id q r hi hq.id)

any_own : (o : List ℕ) (ids : List (List ℕ)) (q : Filed) (r : Row) → AllByRecursion IsId ids
    → IsPlan q.row
    → list_any (λ id. is_of o (id_text id) (Text q.operator ∷ Text (id_text q.row.id) ∷ r)) ids
    ≡ list_any (λ id. is_own o id q) ids
any_own o [] q r hi hq = refl
any_own o (id ∷ ids) q r hi hq = λ i. own_row o id q r hi.0 hq.id i || any_own o ids q r hi.1 hq i

pub left_row : (o : List ℕ) (ids : List (List ℕ)) → AllByRecursion IsId ids → (q : Filed) (r : Row)
    → IsPlan q.row → is_left o ids (Text q.operator ∷ Text (id_text q.row.id) ∷ r) ≡ stays o ids q
left_row o ids hi q r hq = ap not (any_own o ids q r hi hq)

-- a test of rows by their keys, which is a test of plans
module _ (test : Filed → Bool) (row_test : Row → Bool)
    (same : (q : Filed) (r : Row) → IsPlan q.row
    → row_test (Text q.operator ∷ Text (id_text q.row.id) ∷ r)
    ≡ test q) where
  pub plans_filtered : (ps : List Filed) → ArePlans ps → filter row_test (plan_rows ps)
      ≡ plan_rows (filter test ps)
  plans_filtered [] h = refl
  plans_filtered (p ∷ ps) h =
      ap (λ b. cond b (row_of_plan p ∷ filter row_test (plan_rows ps)) (filter row_test (plan_rows ps)))
      (same p (after_key (row_of_plan p)) h.0) ∙ by_test (test p) (plans_filtered ps h.1) where
        by_test : (b : Bool) → filter row_test (plan_rows ps) ≡ plan_rows (filter test ps)
            → cond b (row_of_plan p ∷ filter row_test (plan_rows ps)) (filter row_test (plan_rows ps))
            ≡ plan_rows (cond b (p ∷ filter test ps) (filter test ps))
        by_test true ih = ap (λ rows. row_of_plan p ∷ rows) ih
        by_test false ih = ih

  all_or_none : (b : Bool) (r : Row) (rows : List Row) → cond b (r ∷ cond b rows []) (cond b rows [])
      ≡ cond b (r ∷ rows) []
  all_or_none true r rows = refl
  all_or_none false r rows = refl

  -- the rows of volumes, whatever they have after their place
  module _ (more : Filed → ℕ → Block → Row) where
    area_filtered : (q : Filed) → IsPlan q.row → (n : ℕ) (vs : List Block)
        → filter row_test (rows_from (placed more) q n vs) ≡ cond (test q) (rows_from (placed more) q n vs) []
    area_filtered q h n [] = none (test q) where
      none : (b : Bool) → ◌≡◌ {A = List Row} [] (cond b [] [])
      none true = refl
      none false = refl
    area_filtered q h n (v ∷ vs) =
        (λ i. cond (same q (after_key (placed more q n v)) h i)
        (placed more q n v ∷ area_filtered q h (n + 1) vs i) (area_filtered q h (n + 1) vs i))
        ∙ all_or_none (test q) (placed more q n v) (rows_from (placed more) q (n + 1) vs)

    pub placed_filtered : (ps : List Filed) → ArePlans ps → filter row_test (placed_rows more ps)
        ≡ placed_rows more (filter test ps)
    placed_filtered [] h = refl
    placed_filtered (p ∷ ps) h =
        filter-append row_test (rows_from (placed more) p 0 p.row.area) (placed_rows more ps)
        ∙ (λ i. area_filtered p h.0 0 p.row.area i ++ placed_filtered ps h.1 i)
        ∙ by_test (test p) where
          by_test : (b : Bool) → cond b (rows_from (placed more) p 0 p.row.area) []
              ++ placed_rows more (filter test ps)
              ≡ placed_rows more (cond b (p ∷ filter test ps) (filter test ps))
          by_test true = refl
          by_test false = refl

  pub volumes_filtered : (ps : List Filed) → ArePlans ps → filter row_test (volume_rows ps)
      ≡ volume_rows (filter test ps)
  volumes_filtered = placed_filtered (after_place row_of_volume)

  pub covers_filtered : (ps : List Filed) → ArePlans ps → filter row_test (cover_rows ps)
      ≡ cover_rows (filter test ps)
  covers_filtered = placed_filtered (after_place row_of_cover)

  on_spans_filtered : (q : Filed) → IsPlan q.row → (n : ℕ) (v : Block) (spans : List Span)
      → filter row_test (map (row_of_span q n v) spans) ≡ cond (test q) (map (row_of_span q n v) spans) []
  on_spans_filtered q h n v [] = none (test q) where
    none : (b : Bool) → ◌≡◌ {A = List Row} [] (cond b [] [])
    none true = refl
    none false = refl
  on_spans_filtered q h n v (s ∷ spans) =
      (λ i. cond (same q (after_key (row_of_span q n v s)) h i)
      (row_of_span q n v s ∷ on_spans_filtered q h n v spans i) (on_spans_filtered q h n v spans i))
      ∙ all_or_none (test q) (row_of_span q n v s) (map (row_of_span q n v) spans)

  joined : (b : Bool) (xs ys : List Row) → cond b xs [] ++ cond b ys [] ≡ cond b (xs ++ ys) []
  joined true xs ys = refl
  joined false xs ys = refl

  spans_from_filtered : (q : Filed) → IsPlan q.row → (n : ℕ) (vs : List Block) (rows : List Row)
      → AreSpanRowsFrom q n vs rows → filter row_test rows ≡ cond (test q) rows []
  spans_from_filtered q h n [] rows e = none (test q) rows e where
    none : (b : Bool) (rows : List Row) → rows ≡ [] → filter row_test rows ≡ cond b rows []
    none true rows e = ap (filter row_test) e ∙ sym e
    none false rows e = ap (filter row_test) e
  spans_from_filtered q h n (v ∷ vs) rows (spans, rest, ranges, are, more) =
      ap (filter row_test) are ∙ filter-append row_test (map (row_of_span q n v) spans) rest
      ∙ (λ i. on_spans_filtered q h n v spans i ++ spans_from_filtered q h (n + 1) vs rest more i)
      ∙ joined (test q) (map (row_of_span q n v) spans) rest
      ∙ ap (λ xs. cond (test q) xs []) (sym are)

  pub plan_spans_filtered : (q : Filed) → IsPlan q.row → (rows : List Row) → ArePlanSpanRows q rows
      → filter row_test rows ≡ cond (test q) rows []
  plan_spans_filtered q h rows are = by_live (is_live q.row.usage) are where
    none : (b : Bool) (rows : List Row) → rows ≡ [] → filter row_test rows ≡ cond b rows []
    none true rows e = ap (filter row_test) e ∙ sym e
    none false rows e = ap (filter row_test) e

    by_live : (b : Bool) → MatchBool b (AreSpanRowsFrom q 0 q.row.area rows) (rows ≡ [])
        → filter row_test rows ≡ cond (test q) rows []
    by_live true k = spans_from_filtered q h 0 q.row.area rows k
    by_live false k = none (test q) rows k

  pub spans_filtered : (ps : List Filed) → ArePlans ps → (rows : List Row) → AreSpanRows ps rows
      → AreSpanRows (filter test ps) (filter row_test rows)
  spans_filtered [] h rows e = ap (filter row_test) e
  spans_filtered (p ∷ ps) h rows (front, rest, are, mine, more) =
      by_test (test p) (ap (filter row_test) are ∙ filter-append row_test front rest
      ∙ (λ i. plan_spans_filtered p h.0 front mine i ++ filter row_test rest))
      (spans_filtered ps h.1 rest more) where
        by_test : (b : Bool) → filter row_test rows ≡ cond b front [] ++ filter row_test rest
            → AreSpanRows (filter test ps) (filter row_test rest)
            → AreSpanRows (cond b (p ∷ filter test ps) (filter test ps)) (filter row_test rows)
        by_test true e ih = (front, filter row_test rest, e, mine, ih)
        by_test false e ih = subst (AreSpanRows (filter test ps)) (sym e) ih

-- spans of plans in another order
abbrev SpansMove : List Filed → List Filed → Type 0
SpansMove ps qs = (rows : List Row) → AreSpanRows ps rows → (moved : List Row) × AreSpanRows qs moved
    × IsPermutation rows moved

same_there : (ps : List Filed) → SpansMove ps ps
same_there ps rows are = (rows, are, IsPermutation-refl rows)

under_head : (p : Filed) (ps qs : List Filed) → SpansMove ps qs → SpansMove (p ∷ ps) (p ∷ qs)
under_head p ps qs move rows (front, rest, are, mine, more) =
    let after = move rest more in (
      front ++ after.0,
      (front, after.0, refl, mine, after.1),
      subst
          (λ xs. IsPermutation xs (front ++ after.0)) (sym are)
          (IsPermutation-append_right front rest after.0 after.2),
    )

heads_turned : (p q : Filed) (ps : List Filed) → SpansMove (p ∷ q ∷ ps) (q ∷ p ∷ ps)
heads_turned p q ps rows (first, more, are, mine, (second, rest, then_are, other, all)) = (
  second ++ (first ++ rest),
  (second, first ++ rest, refl, other, (first, rest, refl, mine, all)),
  subst (λ xs. IsPermutation xs (second ++ (first ++ rest)))
      (sym (are ∙ ap (λ xs. first ++ xs) then_are))
      (rw (← append_assoc first, ← append_assoc second)
      (IsPermutation-append_left rest (first ++ second) (second ++ first)
      (IsPermutation-append_comm first second))),
)

chained : (ps qs rs : List Filed) → SpansMove ps qs → SpansMove qs rs → SpansMove ps rs
chained ps qs rs one two rows are =
    let there = one rows are in
    let on = two there.0 there.1 in
    (on.0, on.1, IsPermutation-trans rows there.0 on.0 there.2 on.2)

pub spans_moved : (ps qs : List Filed) → IsPermutation ps qs → SpansMove ps qs
spans_moved = along_permutation SpansMove same_there under_head heads_turned chained
