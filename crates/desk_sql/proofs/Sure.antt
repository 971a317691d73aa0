-- The queries that are given something are refused for no cause of their own.
use Rattle.std.proofs.Common.{ℕ, ℤ, List, [], ◌∷◌, refl, true≢false, arith, inl, inr}
use Rattle.sqlite.specs.declared.types.Value.TheVariants.{Text}
use Rattle.sqlite_tied.specs.Compute.{everything}
use Rattle.sqlite.specs.Listing.{understood}
use Rattle.desk_sql.specs.declared.reading.rivals.SpanFilter.{SpanFilter}
use Rattle.desk_sql.proofs.lemmas.Texts.{plan_of_text, volumes_of_text, own_plans_text, rival_spans_text}
use Rattle.desk_sql.proofs.lemmas.QueryTexts.{plan_of_is, plan_of_query, volumes_of_is, volumes_of_query, own_plans_is, own_plans_query, rival_spans_is, rival_spans_query}
use Rattle.desk_sql.specs.Queries.{rival_params}
use Rattle.desk_sql.specs.Statements.{IsSureFor}
use Rattle.desk_sql.proofs.lemmas.Sure.{sure_given}

pub plan_of_sure : (operator id : List ℕ)
    → IsSureFor plan_of_text (Text operator ∷ Text id ∷ [])
unfolding understood everything
plan_of_sure operator id =
    sure_given plan_of_text plan_of_query _ _ plan_of_is (λ beside. refl) (λ beside. omega arith)
    (λ beside trees misfit. true≢false misfit)
    (λ db h. elim h [
      | inl none ↦ absurd none
      | inr fold ↦ absurd fold.4
    ])

pub volumes_of_sure : (operator id : List ℕ)
    → IsSureFor volumes_of_text (Text operator ∷ Text id ∷ [])
unfolding understood everything
volumes_of_sure operator id =
    sure_given volumes_of_text volumes_of_query _ _ volumes_of_is (λ beside. refl) (λ beside. omega arith)
    (λ beside trees misfit. true≢false misfit)
    (λ db h. elim h [
      | inl none ↦ absurd none
      | inr fold ↦ absurd fold.4
    ])

pub own_plans_sure : (operator : List ℕ) → IsSureFor own_plans_text (Text operator ∷ [])
unfolding understood everything
own_plans_sure operator =
    sure_given own_plans_text own_plans_query _ _ own_plans_is (λ beside. refl) (λ beside. omega arith)
    (λ beside trees misfit. true≢false misfit)
    (λ db h. elim h [
      | inl none ↦ absurd none
      | inr fold ↦ absurd fold.4.4
    ])

pub rival_spans_sure : (operator id : List ℕ) (reach : SpanFilter) (low : ℤ)
    → IsSureFor rival_spans_text (rival_params operator id reach low)
unfolding understood everything
rival_spans_sure operator id reach low =
    sure_given rival_spans_text rival_spans_query _ _ rival_spans_is (λ beside. refl) (λ beside. omega arith)
    (λ beside trees misfit. true≢false misfit)
    (λ db h. elim h [
      | inl none ↦ absurd none
      | inr fold ↦ absurd fold.4
    ])
