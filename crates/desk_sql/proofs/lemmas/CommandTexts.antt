-- What the statements that write mean, found by computing.
use Rattle.std.proofs.Common.{◌≡◌, ℕ, pos, List, [], ◌∷◌, refl}
use Rattle.sqlite.specs.Collation.TheVariants.{Binary}
use Rattle.sqlite.specs.declared.types.Value.TheVariants.{Int, Null}
use Rattle.sqlite.specs.Term.{Term, lit, col, op2}
use Rattle.sqlite.specs.Query.{Query, inner, end}
use Rattle.sqlite.specs.Command.{Command}
use Rattle.sqlite.specs.Command.TheVariants.{Insert, Update, Delete}
use Rattle.sqlite.specs.Source.TheVariants.{Values}
use Rattle.sqlite_sql.specs.declared.ops.BinaryOp.TheVariants.{Compare}
use Rattle.sqlite_sql.specs.declared.ops.CompareOp.TheVariants.{Eq}
use Rattle.sqlite_tied.specs.Compute.{everything}
use Rattle.sqlite.specs.Listing.{understood}
use Rattle.sqlite.proofs.Callers.{IsPlain, command_of}
use Rattle.sqlite.specs.Schema.{Schema}
use Rattle.desk_sql.specs.Schema.{Beside, desk_with}
use Rattle.desk_sql.proofs.lemmas.Texts.{insert_operator_text, insert_plan_text, insert_volume_text, insert_span_text, set_ceiling_text, close_plan_text, remove_plan_text, remove_spans_text}
use Rattle.desk_sql.proofs.lemmas.QueryTexts.{query_of}

-- a text that is this command of a schema's tables and no more
pub record IsCommandIn (schema : Schema) (text : List ℕ) (command : Command) : Type 0 where
  pub is : command_of (understood schema text) ≡ command
  pub plain : IsPlain (understood schema text)

-- of the desk's tables, whatever stands beside them
abbrev pub IsCommand : List ℕ → Command → Type 0
IsCommand text command = (beside : Beside) → IsCommandIn (desk_with beside) text command

abbrev pub insert_operator_terms : List Term
insert_operator_terms = lit Null ∷ col 0 0 ∷ col 0 1 ∷ []

pub insert_operator_is : IsCommand insert_operator_text (Insert 0 (Values insert_operator_terms 3))
unfolding understood everything
insert_operator_is beside = record { is = refl; plain = (refl, refl) }

abbrev pub insert_plan_terms : List Term
insert_plan_terms = lit Null ∷ col 0 0 ∷ col 0 1 ∷ col 0 2 ∷ col 0 3 ∷ col 0 4 ∷ []

pub insert_plan_is : IsCommand insert_plan_text (Insert 1 (Values insert_plan_terms 6))
unfolding understood everything
insert_plan_is beside = record { is = refl; plain = (refl, refl) }

abbrev pub insert_volume_terms : List Term
insert_volume_terms = lit Null ∷ col 0 0 ∷ col 0 1 ∷ col 0 2 ∷ col 0 3 ∷ col 0 4 ∷ col 0 5 ∷ col 0 6
    ∷ col 0 7 ∷ col 0 8 ∷ []

pub insert_volume_is : IsCommand insert_volume_text (Insert 4 (Values insert_volume_terms 10))
unfolding understood everything
insert_volume_is beside = record { is = refl; plain = (refl, refl) }

abbrev pub insert_span_terms : List Term
insert_span_terms = lit Null ∷ col 0 0 ∷ col 0 1 ∷ col 0 2 ∷ col 0 3 ∷ col 0 4 ∷ col 0 5 ∷ col 0 6
    ∷ col 0 7
    ∷ col 0 8 ∷ col 0 9 ∷ []

pub insert_span_is : IsCommand insert_span_text (Insert 5 (Values insert_span_terms 11))
unfolding understood everything
insert_span_is beside = record { is = refl; plain = (refl, refl) }

abbrev pub set_ceiling_query : Query
set_ceiling_query = query_of (inner 0 end) (op2 (Compare Eq Binary) (col 1 1) (col 0 0) ∷ [])
    (col 1 0 ∷ col 1 0 ∷ col 1 1 ∷ col 0 1 ∷ []) []

pub set_ceiling_is : IsCommand set_ceiling_text
    (Update 0 (record { lets = []; body = set_ceiling_query }))
unfolding understood everything
set_ceiling_is beside = record { is = refl; plain = (refl, refl) }

abbrev pub close_plan_query : Query
close_plan_query = query_of (inner 2 end) (op2 (Compare Eq Binary) (col 1 1) (col 0 0)
    ∷ op2 (Compare Eq Binary) (col 1 2) (col 0 1) ∷ [])
    (col 1 0 ∷ col 1 0 ∷ col 1 1 ∷ col 1 2 ∷ col 0 2 ∷ lit (Int (pos 2)) ∷ col 0 3 ∷ []) []

pub close_plan_is : IsCommand close_plan_text (Update 1 (record { lets = []; body = close_plan_query }))
unfolding understood everything
close_plan_is beside = record { is = refl; plain = (refl, refl) }

abbrev pub remove_plan_query : Query
remove_plan_query = query_of (inner 2 end) (op2 (Compare Eq Binary) (col 1 1) (col 0 0)
    ∷ op2 (Compare Eq Binary) (col 1 2) (col 0 1) ∷ []) (col 1 0 ∷ []) []

pub remove_plan_is : IsCommand remove_plan_text
    (Delete 1 (record { lets = []; body = remove_plan_query }))
unfolding understood everything
remove_plan_is beside = record { is = refl; plain = (refl, refl) }

abbrev pub remove_spans_query : Query
remove_spans_query = query_of (inner 11 end) (op2 (Compare Eq Binary) (col 1 1) (col 0 0)
    ∷ op2 (Compare Eq Binary) (col 1 2) (col 0 1) ∷ []) (col 1 0 ∷ []) []

pub remove_spans_is : IsCommand remove_spans_text
    (Delete 5 (record { lets = []; body = remove_spans_query }))
unfolding understood everything
remove_spans_is beside = record { is = refl; plain = (refl, refl) }
