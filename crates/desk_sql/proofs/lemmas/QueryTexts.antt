-- What the queries mean, found by computing.
use Rattle.std.proofs.Common.{◌≡◌, ℕ, pos, negsuc, List, [], ◌∷◌, codes, None, false, refl}
use Rattle.sqlite.specs.Collation.TheVariants.{Binary}
use Rattle.sqlite.specs.declared.types.Value.TheVariants.{Int}
use Rattle.sqlite.specs.Term.{Term, lit, col, op2}
use Rattle.sqlite.specs.Query.{Query, Join, inner, end}
use Rattle.sqlite.specs.Command.TheVariants.{Select}
use Rattle.sqlite_value.specs.declared.keys.Key.{Key}
use Rattle.sqlite_value.specs.Keys.{ascending}
use Rattle.sqlite_sql.specs.declared.ops.BinaryOp.TheVariants.{Compare, Or}
use Rattle.sqlite_sql.specs.declared.ops.CompareOp.{CompareOp}
use Rattle.sqlite_sql.specs.declared.ops.CompareOp.TheVariants.{Eq, Ne, Lt, Le, Gt, Ge}
use Rattle.sqlite_tied.specs.Compute.{everything}
use Rattle.sqlite.specs.Listing.{understood, reads_listing}
use Rattle.sqlite.proofs.Callers.{IsPlain, command_of}
use Rattle.sqlite.specs.Schema.{Schema}
use Rattle.sqlite.specs.Table.{Table}
use Rattle.sqlite_schema.specs.declared.schema.Index.{Index}
use Rattle.sqlite_schema.specs.declared.schema.View.{View}
use Rattle.desk_sql.specs.Schema.{Beside, desk_with, schema_to}
use Rattle.desk_sql.specs.declared.opening.numbers.DeskTable.{DeskTable}
use Rattle.desk_sql.specs.declared.opening.numbers.DeskTable.TheVariants.{Operator, Plan, OldVolume, OldSpan, Volume, Span}
use Rattle.desk_sql.proofs.lemmas.Texts.{all_operators_text, plan_of_text, all_plans_text, volumes_of_text, volume_rows_text, all_spans_text, own_plans_text, rival_spans_text, operator_rowids_text, plan_rowids_text, old_volume_rowids_text, old_span_rowids_text, volume_rowids_text, span_rowids_text}

abbrev pub query_of : Join → List Term → List Term → List (Term × Key) → Query
query_of from filter project order = record {
  from = from;
  filter = filter;
  group = None;
  project = project;
  distinct = false;
  collations = [];
  order = order;
  limit = lit (Int (negsuc 0));
  offset = lit (Int (pos 0));
}

-- a text that is this query of a schema's tables and no more
pub record IsQueryIn (schema : Schema) (text : List ℕ) (query : Query) (names : List (List ℕ)) : Type 0 where
  pub is : command_of (understood schema text) ≡ Select (record { lets = []; body = query }) names
  pub plain : IsPlain (understood schema text)
  pub unlisted : reads_listing schema text ≡ false

-- of the desk's tables, whatever stands beside them
abbrev pub IsQuery : List ℕ → Query → List (List ℕ) → Type 0
IsQuery text query names = (beside : Beside) → IsQueryIn (desk_with beside) text query names

-- a text that is this query wherever the table is made, whatever others there are
abbrev pub IsWhole : DeskTable → List ℕ → Query → List (List ℕ) → Type 0
IsWhole table text query names = (others : List Table) (indexes : List Index) (views : List View)
    → IsQueryIn (schema_to table others indexes views) text query names

abbrev pub all_operators_query : Query
all_operators_query = query_of (inner 0 end) ([]) (col 1 1 ∷ col 1 2 ∷ [])
    ((col 1 1, ascending Binary) ∷ [])

pub all_operators_is : IsWhole Operator all_operators_text all_operators_query
    (codes "name" ∷ codes "ceiling" ∷ [])
unfolding understood everything
all_operators_is others indexes views = record { is = refl; plain = (refl, refl); unlisted = refl }

abbrev pub plan_of_query : Query
plan_of_query = query_of (inner 2 end) (op2 (Compare Eq Binary) (col 1 1) (col 0 0)
    ∷ op2 (Compare Eq Binary) (col 1 2) (col 0 1) ∷ [])
    (col 1 1 ∷ col 1 2 ∷ col 1 3 ∷ col 1 4 ∷ col 1 5 ∷ [])
    ([])

pub plan_of_is : IsQuery plan_of_text plan_of_query
    (codes "operator" ∷ codes "id" ∷ codes "priority" ∷ codes "usage" ∷ codes "aircraft" ∷ [])
unfolding understood everything
plan_of_is beside = record { is = refl; plain = (refl, refl); unlisted = refl }

abbrev pub all_plans_query : Query
all_plans_query = query_of (inner 2 end) ([]) (col 1 1 ∷ col 1 2 ∷ col 1 3 ∷ col 1 4 ∷ col 1 5 ∷ [])
    ((col 1 1, ascending Binary) ∷ (col 1 2, ascending Binary) ∷ [])

pub all_plans_is : IsWhole Plan all_plans_text all_plans_query
    (codes "operator" ∷ codes "id" ∷ codes "priority" ∷ codes "usage" ∷ codes "aircraft" ∷ [])
unfolding understood everything
all_plans_is others indexes views = record { is = refl; plain = (refl, refl); unlisted = refl }

abbrev pub volumes_of_query : Query
volumes_of_query = query_of (inner 9 end) (op2 (Compare Eq Binary) (col 1 1) (col 0 0)
    ∷ op2 (Compare Eq Binary) (col 1 2) (col 0 1) ∷ [])
    (col 1 1 ∷ col 1 2 ∷ col 1 3 ∷ col 1 4 ∷ col 1 5 ∷ col 1 6 ∷ col 1 7 ∷ col 1 8 ∷ [])
    ((col 1 3, ascending Binary) ∷ [])

pub volumes_of_is : IsQuery volumes_of_text volumes_of_query
    (codes "operator" ∷ codes "id" ∷ codes "place" ∷ codes "lower" ∷ codes "upper" ∷ codes "start"
    ∷ codes "stop" ∷ codes "asked" ∷ [])
unfolding understood everything
volumes_of_is beside = record { is = refl; plain = (refl, refl); unlisted = refl }

-- the rows of `volume2`, which is this tree
abbrev pub volume_rows_in : ℕ → Query
volume_rows_in tree = query_of (inner tree end) ([])
    (col 1 1 ∷ col 1 2 ∷ col 1 3 ∷ col 1 4 ∷ col 1 5 ∷ col 1 6
    ∷ col 1 7 ∷ col 1 8 ∷ col 1 9 ∷ []) ((col 1 1, ascending Binary) ∷ (col 1 2, ascending Binary)
    ∷ (col 1 3, ascending Binary) ∷ [])

abbrev pub volume_rows_query : Query
volume_rows_query = volume_rows_in 9

pub volume_rows_is : IsWhole Volume volume_rows_text volume_rows_query
    (codes "operator" ∷ codes "id" ∷ codes "place" ∷ codes "lower" ∷ codes "upper" ∷ codes "start"
    ∷ codes "stop" ∷ codes "asked" ∷ codes "canon" ∷ [])
unfolding understood everything
volume_rows_is others indexes views = record { is = refl; plain = (refl, refl); unlisted = refl }

-- the rows of `span2`, which is this tree
abbrev pub spans_in : ℕ → Query
spans_in tree = query_of (inner tree end) ([]) (col 1 1 ∷ col 1 2 ∷ col 1 3 ∷ col 1 4 ∷ col 1 5 ∷ col 1 6
    ∷ col 1 7 ∷ col 1 8 ∷ col 1 9 ∷ col 1 10 ∷ [])
    ((col 1 1, ascending Binary) ∷ (col 1 2, ascending Binary) ∷ (col 1 3, ascending Binary)
    ∷ (col 1 4, ascending Binary) ∷ [])

abbrev pub all_spans_query : Query
all_spans_query = spans_in 11

pub all_spans_is : IsWhole Span all_spans_text all_spans_query
    (codes "operator" ∷ codes "id" ∷ codes "place" ∷ codes "first" ∷ codes "last" ∷ codes "lower"
    ∷ codes "upper" ∷ codes "start" ∷ codes "stop" ∷ codes "priority" ∷ [])
unfolding understood everything
all_spans_is others indexes views = record { is = refl; plain = (refl, refl); unlisted = refl }

abbrev pub own_plans_query : Query
own_plans_query = query_of (inner 2 (inner 9 end))
    (op2 (Compare Eq Binary) (col 2 1) (col 1 1) ∷ op2 (Compare Eq Binary) (col 2 2) (col 1 2)
    ∷ op2 (Compare Eq Binary) (col 1 1) (col 0 0) ∷ [])
    (col 1 1 ∷ col 1 2 ∷ col 1 3 ∷ col 1 4 ∷ col 1 5 ∷ col 2 3 ∷ col 2 4 ∷ col 2 5 ∷ col 2 6 ∷ col 2 7
    ∷ col 2 8 ∷ []) ((col 1 2, ascending Binary) ∷ (col 2 3, ascending Binary) ∷ [])

pub own_plans_is : IsQuery own_plans_text own_plans_query
    (codes "operator" ∷ codes "id" ∷ codes "priority" ∷ codes "usage" ∷ codes "aircraft" ∷ codes "place"
    ∷ codes "lower" ∷ codes "upper" ∷ codes "start" ∷ codes "stop" ∷ codes "asked" ∷ [])
unfolding understood everything
own_plans_is beside = record { is = refl; plain = (refl, refl); unlisted = refl }

-- a number of the table's, compared with a parameter
abbrev compared : CompareOp → ℕ → ℕ → Term
compared op at param = op2 (Compare op Binary) (col 1 at) (col 0 param)

abbrev pub rival_spans_query : Query
rival_spans_query = query_of (inner 11 end) (compared Ge 4 9 ∷ compared Le 4 0 ∷ compared Ge 5 1
    ∷ compared Lt 6 2 ∷ compared Gt 7 3 ∷ compared Lt 8 4 ∷ compared Gt 9 5 ∷ compared Ge 10 6
    ∷ op2 Or (op2 (Compare Ne Binary) (col 1 1) (col 0 7)) (op2 (Compare Ne Binary) (col 1 2) (col 0 8))
    ∷ [])
    (col 1 4 ∷ col 1 5 ∷ col 1 6 ∷ col 1 7 ∷ col 1 8 ∷ col 1 9 ∷ col 1 10 ∷ [])
    ((col 1 4, ascending Binary) ∷ [])

pub rival_spans_is : IsQuery rival_spans_text rival_spans_query
    (codes "first" ∷ codes "last" ∷ codes "lower" ∷ codes "upper" ∷ codes "start" ∷ codes "stop"
    ∷ codes "priority" ∷ [])
unfolding understood everything
rival_spans_is beside = record { is = refl; plain = (refl, refl); unlisted = refl }

-- the rowids of the table in a tree
abbrev pub rowids_query : ℕ → Query
rowids_query tree = query_of (inner tree end) ([]) (col 1 0 ∷ []) ((col 1 0, ascending Binary) ∷ [])

pub operator_rowids_is : IsWhole Operator operator_rowids_text (rowids_query 0) (codes "rowid" ∷ [])
unfolding understood everything
operator_rowids_is others indexes views = record { is = refl; plain = (refl, refl); unlisted = refl }

pub plan_rowids_is : IsWhole Plan plan_rowids_text (rowids_query 2) (codes "rowid" ∷ [])
unfolding understood everything
plan_rowids_is others indexes views = record { is = refl; plain = (refl, refl); unlisted = refl }

pub old_volume_rowids_is : IsWhole OldVolume old_volume_rowids_text (rowids_query 4) (codes "rowid" ∷ [])
unfolding understood everything
old_volume_rowids_is others indexes views = record { is = refl; plain = (refl, refl); unlisted = refl }

pub old_span_rowids_is : IsWhole OldSpan old_span_rowids_text (rowids_query 6) (codes "rowid" ∷ [])
unfolding understood everything
old_span_rowids_is others indexes views = record { is = refl; plain = (refl, refl); unlisted = refl }

pub volume_rowids_is : IsWhole Volume volume_rowids_text (rowids_query 9) (codes "rowid" ∷ [])
unfolding understood everything
volume_rowids_is others indexes views = record { is = refl; plain = (refl, refl); unlisted = refl }

pub span_rowids_is : IsWhole Span span_rowids_text (rowids_query 11) (codes "rowid" ∷ [])
unfolding understood everything
span_rowids_is others indexes views = record { is = refl; plain = (refl, refl); unlisted = refl }
