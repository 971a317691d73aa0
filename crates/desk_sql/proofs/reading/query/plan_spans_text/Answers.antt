use Rattle.desk_sql.proofs.PlanSpans.{plan_spans_selected}
use Rattle.desk_sql.proofs.reading.query.plan_spans_text.Goals as goal

pub returns : goal.returns
returns c = plan_spans_selected
