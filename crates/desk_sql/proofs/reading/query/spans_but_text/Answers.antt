use Rattle.desk_sql.proofs.OtherSpans.{other_spans_selected}
use Rattle.desk_sql.proofs.StatementLemmas.{rival_spans_selected}
use Rattle.desk_sql.proofs.reading.query.spans_but_text.Goals as goal

pub returns-clause-rivals : goal.returns-clause-rivals
returns-clause-rivals c = rival_spans_selected

pub returns-clause-others : goal.returns-clause-others
returns-clause-others c = other_spans_selected
