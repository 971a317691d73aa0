use Rattle.std.proofs.Common.{sym, subst}
use Rattle.desk_sql.specs.Queries.{ShowsWhole}
use Rattle.desk_sql.proofs.reading.whole.WholeTable.text.Goals as goal

pub returns-in-Operators : goal.returns-in-Operators
returns-in-Operators c = subst (λ whole. ShowsWhole whole c.operators_text.result.now) (sym c.in-Operators.is) c.operators_text.ensures

pub returns-in-Plans : goal.returns-in-Plans
returns-in-Plans c = subst (λ whole. ShowsWhole whole c.plans_text.result.now) (sym c.in-Plans.is) c.plans_text.ensures

pub returns-in-OldVolumes : goal.returns-in-OldVolumes
returns-in-OldVolumes c = subst (λ whole. ShowsWhole whole c.old_volumes_text.result.now) (sym c.in-OldVolumes.is) c.old_volumes_text.ensures

pub returns-in-OldSpans : goal.returns-in-OldSpans
returns-in-OldSpans c = subst (λ whole. ShowsWhole whole c.old_spans_text.result.now) (sym c.in-OldSpans.is) c.old_spans_text.ensures

pub returns-in-Spans : goal.returns-in-Spans
returns-in-Spans c = subst (λ whole. ShowsWhole whole c.spans_text.result.now) (sym c.in-Spans.is) c.spans_text.ensures
