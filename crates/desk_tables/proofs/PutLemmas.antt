-- A plan put in its tables.
use Rattle.std.proofs.Common.{◌≡◌, Bool, true, false, not, cond, List, [], ◌∷◌, ◌++◌, refl, sym, ap, subst, ◌∙◌, IsPermutation, ℕ}
use Rattle.std.specs.List.{AllByRecursion, filter, list_any}
use Rattle.std.proofs.lemmas.List.Elements.{filter-append}
use Rattle.std.proofs.lemmas.List.Sorted.{IsPermutation-refl, IsPermutation-sym, IsPermutation-trans, IsPermutation-append_right, list_any-IsPermutation}
use Rattle.sqlite_value.specs.Order.{Row}
use Rattle.sqlite_keyed.proofs.ListLemmas.{IsPermutation-filter, IsPermutation-same, filter_all, none_from_any}
use Rattle.desk_sql.specs.Rows.{Tables, is_of, is_not_of, left_without, plan_row}
use Rattle.desk_changes.specs.RowChanges.{PlanPut, PutsPlan}
use Rattle.desk_store.specs.World.{Filed, World, is_own, IsId, IsPlan, IsContent}
use Rattle.row_codec.specs.Tables.{filed_put, id_text, row_of_plan, plan_rows, area_rows, volume_rows, area_covers, cover_rows, ArePlanSpanRows, AreSpanRows, AreTables}
use Rattle.desk_tables.specs.Store.{PutsRows}
use Rattle.row_codec.proofs.lemmas.Order.{after_key}
use Rattle.row_codec.proofs.lemmas.Order.{ArePlans}
use Rattle.desk_tables.proofs.FilterLemmas.{own_row, other_row, volumes_filtered, covers_filtered, plan_spans_filtered}

abbrev NoneOwn : List ℕ → List ℕ → List Filed → Type 0
NoneOwn o id ps = AllByRecursion (λ q. not (is_own o id q) ≡ true) ps

none_own : (o id : List ℕ) (ps : List Filed) → IsId id → ArePlans ps
    → list_any (is_of o (id_text id)) (plan_rows ps) ≡ false → NoneOwn o id ps
none_own o id [] hi h e = tt
none_own o id (p ∷ ps) hi h e = let parts = none_from_any (is_of o (id_text id)) (plan_rows (p ∷ ps)) e
    in go p ps h parts where
      go : (q : Filed) (qs : List Filed) → ArePlans (q ∷ qs)
          → AllByRecursion (λ r. is_of o (id_text id) r ≡ false) (plan_rows (q ∷ qs))
          → NoneOwn o id (q ∷ qs)
      go q [] k none = (ap not (sym (own_row o id q (after_key (row_of_plan q)) hi k.0.id) ∙ none.0), tt)
      go q (r ∷ rs) k none = (
        ap not (sym (own_row o id q (after_key (row_of_plan q)) hi k.0.id) ∙ none.0),
        go r rs k.1
            none.1,
      )

spans_untouched : (o id : List ℕ) (ps : List Filed) (rows : List Row) → IsId id → ArePlans ps
    → NoneOwn o id ps → AreSpanRows ps rows → filter (is_not_of o (id_text id)) rows ≡ rows
spans_untouched o id [] rows hi h none e = ap (filter (is_not_of o (id_text id))) e ∙ sym e
spans_untouched o id (p ∷ ps) rows hi h none (front, rest, are, mine, more) =
    ap (filter (is_not_of o (id_text id))) are ∙ filter-append (is_not_of o (id_text id)) front rest
    ∙ (λ i. (plan_spans_filtered (λ q. not (is_own o id q)) (is_not_of o (id_text id))
    (other_row o id hi) p
    h.0 front mine ∙ ap (λ b. cond b front []) none.0) i
    ++ spans_untouched o id ps rest hi h.1 none.1 more i)
    ∙ sym are

-- where the plan is not there, no row goes with it
module _ (o id : List ℕ) (tables : Tables) (w : World) (hi : IsId id) (h : IsContent w)
    (t : AreTables tables w) where
  absent : list_any (is_of o (id_text id)) tables.plans ≡ false → NoneOwn o id w.plans
  absent e = none_own o id w.plans hi h.rows (list_any-IsPermutation (is_of o (id_text id))
      (plan_rows w.plans) tables.plans t.plans ∙ e)

  -- rows of which those of the plan are taken out, if it is there
  left_is : (all rows : List Row) → IsPermutation all rows
      → (list_any (is_of o (id_text id)) tables.plans ≡ false → filter (is_not_of o (id_text id)) all
      ≡ all)
      → IsPermutation (filter (is_not_of o (id_text id)) rows) (left_without o (id_text id) tables rows)
  left_is all rows same untouched = by_test (list_any (is_of o (id_text id)) tables.plans) untouched
    where
      by_test : (b : Bool) → (b ≡ false → filter (is_not_of o (id_text id)) all ≡ all)
          → IsPermutation (filter (is_not_of o (id_text id)) rows)
          (cond b (filter (is_not_of o (id_text id)) rows) rows)
      by_test true f = IsPermutation-refl (filter (is_not_of o (id_text id)) rows)
      by_test false f =
          IsPermutation-trans (filter (is_not_of o (id_text id)) rows) all rows
          (IsPermutation-sym all (filter (is_not_of o (id_text id)) rows)
          (subst (λ xs. IsPermutation xs (filter (is_not_of o (id_text id)) rows)) (f refl)
          (IsPermutation-filter (is_not_of o (id_text id)) all rows same)))
          same

  pub volumes_left : IsPermutation (filter (is_not_of o (id_text id)) tables.volumes)
      (left_without o (id_text id) tables tables.volumes)
  volumes_left = left_is (volume_rows w.plans) tables.volumes t.volumes
      (λ e. volumes_filtered (λ q. not (is_own o id q)) (is_not_of o (id_text id)) (other_row o id hi)
      w.plans
      h.rows ∙ ap volume_rows (filter_all (λ q. not (is_own o id q)) w.plans (absent e)))

  pub covers_left : IsPermutation (filter (is_not_of o (id_text id)) tables.covers)
      (left_without o (id_text id) tables tables.covers)
  covers_left = left_is (cover_rows w.plans) tables.covers t.covers
      (λ e. covers_filtered (λ q. not (is_own o id q)) (is_not_of o (id_text id)) (other_row o id hi)
      w.plans
      h.rows ∙ ap cover_rows (filter_all (λ q. not (is_own o id q)) w.plans (absent e)))

  pub spans_left : IsPermutation (filter (is_not_of o (id_text id)) tables.spans)
      (left_without o (id_text id) tables tables.spans)
  spans_left = left_is t.spans.0 tables.spans t.spans.2
      (λ e. spans_untouched o id w.plans t.spans.0 hi h.rows (absent e) t.spans.1)

-- what is put of a plan, by what its rows are made of
abbrev pub put_as : (operator id : List ℕ) (priority usage aircraft : ℕ) (volumes covers spans : List Row)
    → PlanPut
put_as operator id priority usage aircraft volumes covers spans = record {
  operator = operator;
  id = id;
  plan = plan_row operator id priority usage aircraft;
  volumes = volumes;
  covers = covers;
  spans = spans;
}

-- of no rows none is left
none_without : (o text : List ℕ) (tables : Tables) (rows : List Row) → rows ≡ []
    → left_without o text tables rows ≡ []
none_without o text tables rows none =
    by_test (list_any (is_of o text) tables.plans) ∙ none where
      by_test : (b : Bool) → cond b (filter (is_not_of o text) rows) rows ≡ rows
      by_test true = ap (filter (is_not_of o text)) none ∙ sym none
      by_test false = refl

pub put_is_put : (p : Filed) (w : World) (old new : Tables) (spans : List Row) → IsContent w
    → IsPlan p.row
    → AreTables old w → ArePlanSpanRows p spans
    → PutsPlan (filed_put p spans) old new
    → PutsRows p old new
put_is_put p w old new spans h hp t are e = record {
  no_old = λ none. record {
    volumes = e.old_volumes ∙ none_without p.operator (id_text p.row.id) old old.old_volumes none.volumes;
    spans = e.old_spans ∙ none_without p.operator (id_text p.row.id) old old.old_spans none.spans;
  };
  operators = IsPermutation-same old.operators new.operators (sym e.operators);
  plans = e.plans;
  volumes = IsPermutation-trans (area_rows p ++ filter test old.volumes)
      (area_rows p ++ left_without p.operator (id_text p.row.id) old old.volumes) new.volumes
      (IsPermutation-append_right (area_rows p) (filter test old.volumes)
      (left_without p.operator (id_text p.row.id) old old.volumes)
      (volumes_left p.operator p.row.id old w hp.id h t)) e.with_volumes;
  covers = IsPermutation-trans (area_covers p ++ filter test old.covers)
      (area_covers p ++ left_without p.operator (id_text p.row.id) old old.covers) new.covers
      (IsPermutation-append_right (area_covers p) (filter test old.covers)
      (left_without p.operator (id_text p.row.id) old old.covers)
      (covers_left p.operator p.row.id old w hp.id h t)) e.with_covers;
  spans = (
    spans,
    are,
    IsPermutation-trans (spans ++ filter test old.spans)
        (spans ++ left_without p.operator (id_text p.row.id) old old.spans) new.spans
        (IsPermutation-append_right spans (filter test old.spans)
        (left_without p.operator (id_text p.row.id) old old.spans)
        (spans_left p.operator p.row.id old w hp.id h t)) e.with_spans,
  );
} where
  test : Row → Bool
  test = is_not_of p.operator (id_text p.row.id)
