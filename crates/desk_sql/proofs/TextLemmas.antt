-- What the texts mean, found by computing.
use Rattle.std.proofs.Common.{◌≡◌, Ok, refl}
use Rattle.sqlite_resolve.specs.Compile.{table_defined_by, index_defined_by}
use Rattle.sqlite_tied.specs.Compute.{everything}
use Rattle.desk_sql.specs.Schema.{operator_table, plan_table, old_volume_table, old_span_table, old_span_made, old_span_first, volume_table, span_table, span_made, span_first}
use Rattle.desk_sql.proofs.lemmas.Texts.{operator_text, plan_text, old_volume_text, old_span_text, old_leaf_index_text, volume_text, span_text, leaf_index_text}

pub operator_is : table_defined_by operator_text ≡ Ok operator_table
unfolding everything
operator_is = refl

pub plan_is : table_defined_by plan_text ≡ Ok plan_table
unfolding everything
plan_is = refl

pub old_volume_is : table_defined_by old_volume_text ≡ Ok old_volume_table
unfolding everything
old_volume_is = refl

pub old_span_is : table_defined_by old_span_text ≡ Ok old_span_table
unfolding everything
old_span_is = refl

pub old_first_is : index_defined_by old_span_made old_leaf_index_text ≡ Ok old_span_first
unfolding everything
old_first_is = refl

pub volume_is : table_defined_by volume_text ≡ Ok volume_table
unfolding everything
volume_is = refl

pub span_is : table_defined_by span_text ≡ Ok span_table
unfolding everything
span_is = refl

pub first_is : index_defined_by span_made leaf_index_text ≡ Ok span_first
unfolding everything
first_is = refl
