use Rattle.std.proofs.Common.{sym, subst}
use Rattle.desk_sql.specs.Changing.{IsStep}
use Rattle.desk_sql.specs.declared.opening.finding.TablesPresent.TheVariants.{Operators, Plans, OldVolumes, OldSpans, OldIndex, Volumes, Spans, All}
use Rattle.desk_sql.proofs.lemmas.Texts.{operator_text, plan_text, old_volume_text, old_span_text, old_leaf_index_text, volume_text, span_text, leaf_index_text}
use Rattle.desk_sql.proofs.StepStops.{operator_step, plan_step, old_volume_step, old_span_step, old_first_step, volume_step, span_step, first_step}
use Rattle.desk_sql.proofs.opening.making.next_step.Goals as goal

pub returns-in-Nothing-clause-step : goal.returns-in-Nothing-clause-step
returns-in-Nothing-clause-step c = subst (λ made. IsStep operator_text made Operators) (sym c.in-Nothing.is) operator_step

pub returns-in-Operators-clause-step : goal.returns-in-Operators-clause-step
returns-in-Operators-clause-step c = subst (λ made. IsStep plan_text made Plans) (sym c.in-Operators.is) plan_step

pub returns-in-Plans-clause-step : goal.returns-in-Plans-clause-step
returns-in-Plans-clause-step c = subst (λ made. IsStep old_volume_text made OldVolumes) (sym c.in-Plans.is) old_volume_step

pub returns-in-OldVolumes-clause-step : goal.returns-in-OldVolumes-clause-step
returns-in-OldVolumes-clause-step c = subst (λ made. IsStep old_span_text made OldSpans) (sym c.in-OldVolumes.is) old_span_step

pub returns-in-OldSpans-clause-step : goal.returns-in-OldSpans-clause-step
returns-in-OldSpans-clause-step c = subst (λ made. IsStep old_leaf_index_text made OldIndex) (sym c.in-OldSpans.is) old_first_step

pub returns-in-OldIndex-clause-step : goal.returns-in-OldIndex-clause-step
returns-in-OldIndex-clause-step c = subst (λ made. IsStep volume_text made Volumes) (sym c.in-OldIndex.is) volume_step

pub returns-in-Volumes-clause-step : goal.returns-in-Volumes-clause-step
returns-in-Volumes-clause-step c = subst (λ made. IsStep span_text made Spans) (sym c.in-Volumes.is) span_step

pub returns-in-Spans-clause-step : goal.returns-in-Spans-clause-step
returns-in-Spans-clause-step c = subst (λ made. IsStep leaf_index_text made All) (sym c.in-Spans.is) first_step
