-- The queries that read whole tables are refused for no cause of their own.
use Rattle.std.proofs.Common.{◌≡◌, ◌≤◌, ℕ, List, [], length, refl, subst, true≢false, arith, inl, inr}
use Rattle.sqlite_value.specs.declared.keys.Key.{Key}
use Rattle.sqlite.specs.Tree.{Trees}
use Rattle.sqlite.specs.Term.{Term}
use Rattle.sqlite.specs.Query.{inner, end}
use Rattle.sqlite.specs.Command.TheVariants.{Select}
use Rattle.sqlite_schema.specs.declared.schema.Schema.{Schema}
use Rattle.sqlite_tied.specs.Compute.{everything}
use Rattle.sqlite.specs.Listing.{understood}
use Rattle.sqlite_schema.specs.declared.schema.Index.{Index}
use Rattle.sqlite_schema.specs.declared.schema.View.{View}
use Rattle.sqlite.specs.Table.{Table}
use Rattle.desk_sql.specs.declared.opening.numbers.DeskTable.{DeskTable}
use Rattle.desk_sql.specs.declared.opening.numbers.DeskTable.TheVariants.{Operator, Plan, OldVolume, OldSpan, Volume, Span}
use Rattle.desk_sql.specs.Schema.{schema_to}
use Rattle.desk_sql.specs.Statements.{NeverRefuses, IsSure}
use Rattle.desk_sql.proofs.lemmas.Texts.{all_operators_text, all_plans_text, volume_rows_text, all_spans_text, operator_rowids_text, plan_rowids_text, old_volume_rowids_text, old_span_rowids_text, volume_rowids_text, span_rowids_text}
use Rattle.desk_sql.proofs.lemmas.Stop.{names_in, tail_of}
use Rattle.desk_sql.proofs.lemmas.Sure.{Misfits, meant}
use Rattle.desk_sql.proofs.lemmas.QueryTexts.{IsQueryIn, query_of, operator_rowids_is, plan_rowids_is, old_volume_rowids_is, old_span_rowids_is, volume_rowids_is, span_rowids_is, all_operators_is, all_plans_is, volume_rows_is, all_spans_is}

-- nothing in a scan of one table can overflow
scan_never : (schema : Schema) (tree : ℕ) (project : List Term) (order : List (Term × Key))
    (names : List (List ℕ))
    → ((trees : Trees) → ¬ Misfits (query_of (inner tree end) [] project order) schema trees [])
    → NeverRefuses schema (Select (record { lets = []; body = query_of (inner tree end) [] project order })
    names) []
scan_never schema tree project order names fits limit db e same (inl h) =
    absurd (fits db.trees
    (subst (λ s. Misfits (query_of (inner tree end) [] project order) s db.trees []) same h.1))
scan_never schema tree project order names fits limit db e same (inr (inl (code, inl h))) = absurd h
scan_never schema tree project order names fits limit db e same (inr (inl (code, inr h))) = absurd h.4
scan_never schema tree project order names fits limit db e same (inr (inr h)) = h

-- a scan of one table whose types fit, in one whole statement with no parameters
pub sure_scan : {schema : Schema} {text : List ℕ} {tree : ℕ} {project : List Term} {order : List (Term × Key)}
    {names : List (List ℕ)} → IsQueryIn schema text (query_of (inner tree end) [] project order) names
    → 0 ≡ names_in (understood schema text) → length text ≤ tail_of (understood schema text)
    → ((trees : Trees) → ¬ Misfits (query_of (inner tree end) [] project order) schema trees [])
    → IsSure schema text
sure_scan {schema} {text} {tree} {project} {order} {names} known count whole fits = record {
  means = meant schema text (understood schema text) (query_of (inner tree end) [] project order) names []
      known.is known.plain count whole (scan_never schema tree project order names fits);
  unlisted = known.unlisted;
}

-- wherever the table is made, whatever others there are
abbrev pub IsSureWith : DeskTable → List ℕ → Type 0
IsSureWith table text = (others : List Table) (indexes : List Index) (views : List View)
    → IsSure (schema_to table others indexes views) text

pub operator_rowids_sure : IsSureWith Operator operator_rowids_text
unfolding understood everything
operator_rowids_sure others indexes views =
    sure_scan (operator_rowids_is others indexes views) refl (omega arith) (λ trees misfit. true≢false misfit)

pub plan_rowids_sure : IsSureWith Plan plan_rowids_text
unfolding understood everything
plan_rowids_sure others indexes views =
    sure_scan (plan_rowids_is others indexes views) refl (omega arith) (λ trees misfit. true≢false misfit)

pub volume_rowids_sure : IsSureWith Volume volume_rowids_text
unfolding understood everything
volume_rowids_sure others indexes views =
    sure_scan (volume_rowids_is others indexes views) refl (omega arith) (λ trees misfit. true≢false misfit)

pub span_rowids_sure : IsSureWith Span span_rowids_text
unfolding understood everything
span_rowids_sure others indexes views =
    sure_scan (span_rowids_is others indexes views) refl (omega arith) (λ trees misfit. true≢false misfit)

pub all_operators_sure : IsSureWith Operator all_operators_text
unfolding understood everything
all_operators_sure others indexes views =
    sure_scan (all_operators_is others indexes views) refl (omega arith) (λ trees misfit. true≢false misfit)

pub all_plans_sure : IsSureWith Plan all_plans_text
unfolding understood everything
all_plans_sure others indexes views =
    sure_scan (all_plans_is others indexes views) refl (omega arith) (λ trees misfit. true≢false misfit)

pub all_spans_sure : IsSureWith Span all_spans_text
unfolding understood everything
all_spans_sure others indexes views =
    sure_scan (all_spans_is others indexes views) refl (omega arith) (λ trees misfit. true≢false misfit)

pub volume_rows_sure : IsSureWith Volume volume_rows_text
unfolding understood everything
volume_rows_sure others indexes views =
    sure_scan (volume_rows_is others indexes views) refl (omega arith) (λ trees misfit. true≢false misfit)

pub old_volume_rowids_sure : IsSureWith OldVolume old_volume_rowids_text
unfolding understood everything
old_volume_rowids_sure others indexes views =
    sure_scan (old_volume_rowids_is others indexes views) refl (omega arith) (λ trees misfit. true≢false misfit)

pub old_span_rowids_sure : IsSureWith OldSpan old_span_rowids_text
unfolding understood everything
old_span_rowids_sure others indexes views =
    sure_scan (old_span_rowids_is others indexes views) refl (omega arith) (λ trees misfit. true≢false misfit)
