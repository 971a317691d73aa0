-- The query of the spans of one plan: what it means, and that it is refused for no cause of its own.
use Rattle.std.proofs.Common.{◌≡◌, ℕ, pos, Bool, List, [], ◌∷◌, map, filter, refl, sym, ap, ◌∙◌, true, true≢false, ◌&&◌, codes, arith, inl, inr}
use Rattle.std.specs.List.{list_all}
use Rattle.sqlite.specs.Collation.TheVariants.{Binary}
use Rattle.sqlite.specs.Order.{Row, column}
use Rattle.sqlite.specs.Term.{Term, col, op2, eval_all, holds}
use Rattle.sqlite.specs.Query.{Query, inner, end}
use Rattle.sqlite_sql.specs.declared.ops.BinaryOp.TheVariants.{Compare}
use Rattle.sqlite_sql.specs.declared.ops.CompareOp.{CompareOp}
use Rattle.sqlite_sql.specs.declared.ops.CompareOp.TheVariants.{Eq, Lt, Le, Gt, Ge}
use Rattle.sqlite_tied.specs.Compute.{everything}
use Rattle.sqlite.specs.Listing.{understood}
use Rattle.desk_sql.specs.Rows.{is_at_most, is_at_least, is_below, is_above, is_of, columns_from_first, columns, is_plan_span}
use Rattle.desk_sql.specs.declared.reading.rivals.SpanFilter.{SpanFilter}
use Rattle.desk_sql.specs.Queries.{plan_params}
use Rattle.desk_sql.specs.Statements.{IsSureFor, Selects}
use Rattle.desk_sql.proofs.lemmas.QueryTexts.{IsQuery, query_of}
use Rattle.desk_sql.proofs.lemmas.Read.{equals_text, le_number, ge_number, lt_number, gt_number}
use Rattle.desk_sql.proofs.StatementLemmas.{and_last, both_hold, one_plan, selects}
use Rattle.desk_sql.proofs.lemmas.Sure.{sure_given}

abbrev pub plan_spans_text : List ℕ
plan_spans_text = codes
    "SELECT first, last, lower, upper, start, stop, priority FROM span2 WHERE first <= ?1 AND last >= ?2 AND lower < ?3 AND upper > ?4 AND start < ?5 AND stop > ?6 AND priority >= ?7 AND operator = ?8 AND id = ?9"

-- a column of the table's, compared with a parameter
abbrev tested : CompareOp → ℕ → ℕ → Term
tested op at param = op2 (Compare op Binary) (col 1 at) (col 0 param)

abbrev pub plan_spans_query : Query
plan_spans_query = query_of (inner 11 end) (tested Le 4 0 ∷ tested Ge 5 1 ∷ tested Lt 6 2 ∷ tested Gt 7 3
    ∷ tested Lt 8 4 ∷ tested Gt 9 5 ∷ tested Ge 10 6 ∷ tested Eq 1 7 ∷ tested Eq 2 8 ∷ [])
    (col 1 4 ∷ col 1 5 ∷ col 1 6 ∷ col 1 7 ∷ col 1 8 ∷ col 1 9 ∷ col 1 10 ∷ [])
    ([])

pub plan_spans_is : IsQuery plan_spans_text plan_spans_query
    (codes "first" ∷ codes "last" ∷ codes "lower" ∷ codes "upper" ∷ codes "start" ∷ codes "stop"
    ∷ codes "priority" ∷ [])
unfolding understood everything
plan_spans_is beside = record { is = refl; plain = (refl, refl); unlisted = refl }

grouped : (a b c d e f g h : Bool) → (a && (b && (c && (d && (e && (f && (g && h)))))))
    ≡ ((a && (b && (c && (d && (e && (f && g)))))) && h)
grouped a b c d e f g h =
    ap (λ t. a && (b && (c && (d && (e && (f && (g && t))))))) (sym (both_hold h)) ∙ and_last a b c d e f g h

plan_test : (operator id : List ℕ) (reach : SpanFilter) (s : Row)
    → list_all (holds (plan_params operator id reach ∷ s ∷ [])) plan_spans_query.filter
    ≡ is_plan_span operator id reach (columns 10 s)
plan_test operator id reach s =
    (λ i. le_number (column s 4) reach.last i
    && (ge_number (column s 5) reach.first i
    && (lt_number (column s 6) reach.upper i && (gt_number (column s 7) reach.lower i
    && (lt_number (column s 8) reach.stop i && (gt_number (column s 9) reach.start i
    && (ge_number (column s 10) (pos reach.priority) i
    && (equals_text (column s 1) operator i
    && (both_hold _ ∙ equals_text (column s 2) id) i))))))))
    ∙ grouped (is_at_most (column s 4) reach.last) (is_at_least (column s 5) reach.first)
    (is_below (column s 6) reach.upper) (is_above (column s 7) reach.lower)
    (is_below (column s 8) reach.stop) (is_above (column s 9) reach.start)
    (is_at_least (column s 10) (pos reach.priority)) (is_of operator id (columns 10 s))

pub plan_spans_sure : (operator id : List ℕ) (reach : SpanFilter)
    → IsSureFor plan_spans_text (plan_params operator id reach)
unfolding understood everything
plan_spans_sure operator id reach =
    sure_given plan_spans_text plan_spans_query _ _ plan_spans_is (λ beside. refl) (λ beside. omega arith)
    (λ beside trees misfit. true≢false misfit)
    (λ db h. elim h [
      | inl none ↦ absurd none
      | inr fold ↦ absurd fold.4
    ])

pub plan_spans_selected : (operator id : List ℕ) (reach : SpanFilter)
    → Selects plan_spans_text (plan_params operator id reach) []
    (λ t. map columns_from_first (filter (is_plan_span operator id reach) t.spans))
plan_spans_selected operator id reach =
    let params = plan_params operator id reach in
    selects plan_spans_text _ _ _ _ _ plan_spans_is params (plan_spans_sure operator id reach)
    [] _
    (λ e. refl) (λ x y. refl)
    (λ db. one_plan (eval_all plan_spans_query.project) (λ s. params ∷ s ∷ [])
    (λ s. list_all (holds (params ∷ s ∷ [])) plan_spans_query.filter) (columns 10)
    (is_plan_span operator id reach) columns_from_first (λ s. refl) true
    (λ s. plan_test operator id reach s ∙ sym (both_hold _)) (db 11))
