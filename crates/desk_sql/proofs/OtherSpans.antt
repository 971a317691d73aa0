-- The query of the spans but for those of one plan, where the id is NULL: it shows the spans that other
-- operators hold, and is refused for no cause of its own.
use Rattle.std.proofs.Common.{◌≡◌, ℕ, ℤ, pos, List, [], ◌∷◌, map, filter, refl, sym, ap, ◌∙◌, true, true≢false, ◌&&◌, arith, inl, inr}
use Rattle.std.specs.List.{list_all}
use Rattle.sqlite.specs.declared.types.Value.TheVariants.{Text}
use Rattle.sqlite.specs.Order.{Row, column}
use Rattle.sqlite.specs.Term.{eval_all, holds}
use Rattle.sqlite_tied.specs.Compute.{everything}
use Rattle.sqlite.specs.Listing.{understood}
use Rattle.desk_sql.specs.Rows.{differs, is_at_most, is_at_least, is_below, is_above, columns_from_first, columns, is_others_from}
use Rattle.desk_sql.specs.declared.reading.rivals.SpanFilter.{SpanFilter}
use Rattle.desk_sql.specs.Queries.{others_params}
use Rattle.desk_sql.specs.Statements.{IsSureFor, Selects}
use Rattle.desk_sql.proofs.lemmas.QueryTexts.{rival_spans_is, rival_spans_query}
use Rattle.desk_sql.proofs.lemmas.Read.{either_null, le_number, ge_number, lt_number, gt_number}
use Rattle.desk_sql.proofs.StatementLemmas.{and_last, both_hold, one_plan, selects}
use Rattle.desk_sql.proofs.lemmas.Sure.{sure_given}
use Rattle.desk_sql.proofs.lemmas.Texts.{rival_spans_text}

others_test : (operator : List ℕ) (reach : SpanFilter) (low : ℤ) (s : Row)
    → list_all (holds (others_params operator reach low ∷ s ∷ [])) rival_spans_query.filter
    ≡ is_others_from operator reach low (columns 10 s)
others_test operator reach low s =
    (λ i. ge_number (column s 4) low i && (le_number (column s 4) reach.last i
    && (ge_number (column s 5) reach.first i
    && (lt_number (column s 6) reach.upper i && (gt_number (column s 7) reach.lower i
    && (lt_number (column s 8) reach.stop i && (gt_number (column s 9) reach.start i
    && (ge_number (column s 10) (pos reach.priority) i
    && (either_null (column s 1) (column s 2) operator i && true)))))))))
    ∙ ap (λ b. is_at_least (column s 4) low && b)
    (and_last (is_at_most (column s 4) reach.last) (is_at_least (column s 5) reach.first)
    (is_below (column s 6) reach.upper) (is_above (column s 7) reach.lower)
    (is_below (column s 8) reach.stop) (is_above (column s 9) reach.start)
    (is_at_least (column s 10) (pos reach.priority)) (differs (column s 1) (Text operator)))

other_spans_sure : (operator : List ℕ) (reach : SpanFilter) (low : ℤ)
    → IsSureFor rival_spans_text (others_params operator reach low)
unfolding understood everything
other_spans_sure operator reach low =
    sure_given rival_spans_text rival_spans_query _ _ rival_spans_is (λ beside. refl) (λ beside. omega arith)
    (λ beside trees misfit. true≢false misfit)
    (λ db h. elim h [
      | inl none ↦ absurd none
      | inr fold ↦ absurd fold.4
    ])

pub other_spans_selected : (operator : List ℕ) (reach : SpanFilter) (low : ℤ)
    → Selects rival_spans_text (others_params operator reach low) (0 ∷ [])
    (λ t. map columns_from_first (filter (is_others_from operator reach low) t.spans))
other_spans_selected operator reach low =
    let params = others_params operator reach low in
    selects rival_spans_text _ _ _ _ _ rival_spans_is params (other_spans_sure operator reach low)
    (0 ∷ []) _
    (λ e. refl) (λ x y. refl)
    (λ db. one_plan (eval_all rival_spans_query.project) (λ s. params ∷ s ∷ [])
    (λ s. list_all (holds (params ∷ s ∷ [])) rival_spans_query.filter) (columns 10)
    (is_others_from operator reach low) columns_from_first (λ s. refl) true
    (λ s. others_test operator reach low s ∙ sym (both_hold _)) (db 11))
