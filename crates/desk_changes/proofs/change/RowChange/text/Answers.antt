use Rattle.std.proofs.Common.{sym, subst}
use Rattle.desk_changes.specs.RowChanges.{IsTextOf}
use Rattle.desk_changes.proofs.change.RowChange.text.Goals as goal

pub returns-in-AddOperator : goal.returns-in-AddOperator
returns-in-AddOperator c = subst (λ change. IsTextOf change c.add_operator_text.result.now) (sym c.in-AddOperator.is)
    (c.add_operator_text.ensures _ _)

pub returns-in-AddPlan : goal.returns-in-AddPlan
returns-in-AddPlan c = subst (λ change. IsTextOf change c.add_plan_text.result.now) (sym c.in-AddPlan.is)
    (c.add_plan_text.ensures c.in-AddPlan.field-0)

pub returns-in-AddVolume : goal.returns-in-AddVolume
returns-in-AddVolume c = subst (λ change. IsTextOf change c.add_volume_text.result.now) (sym c.in-AddVolume.is)
    (c.add_volume_text.ensures c.in-AddVolume.field-0)

pub returns-in-AddSpan : goal.returns-in-AddSpan
returns-in-AddSpan c = subst (λ change. IsTextOf change c.add_span_text.result.now) (sym c.in-AddSpan.is)
    (c.add_span_text.ensures c.in-AddSpan.field-0)

pub returns-in-SetCeiling : goal.returns-in-SetCeiling
returns-in-SetCeiling c = subst (λ change. IsTextOf change c.set_ceiling_text.result.now) (sym c.in-SetCeiling.is)
    (c.set_ceiling_text.ensures _ _)

pub returns-in-SetClosed : goal.returns-in-SetClosed
returns-in-SetClosed c = subst (λ change. IsTextOf change c.set_closed_text.result.now) (sym c.in-SetClosed.is)
    (c.set_closed_text.ensures _ _ _ _)

pub returns-in-RemovePlan : goal.returns-in-RemovePlan
returns-in-RemovePlan c = subst (λ change. IsTextOf change c.remove_plan_text.result.now) (sym c.in-RemovePlan.is)
    (c.remove_plan_text.ensures _ _)

pub returns-in-RemoveSpans : goal.returns-in-RemoveSpans
returns-in-RemoveSpans c = subst (λ change. IsTextOf change c.remove_spans_text.result.now) (sym c.in-RemoveSpans.is)
    (c.remove_spans_text.ensures _ _)

pub returns-in-EmptyOldVolumes : goal.returns-in-EmptyOldVolumes
returns-in-EmptyOldVolumes c = subst (λ change. IsTextOf change c.empty_old_volumes_text.result.now) (sym c.in-EmptyOldVolumes.is)
    c.empty_old_volumes_text.ensures

pub returns-in-EmptyOldSpans : goal.returns-in-EmptyOldSpans
returns-in-EmptyOldSpans c = subst (λ change. IsTextOf change c.empty_old_spans_text.result.now) (sym c.in-EmptyOldSpans.is)
    c.empty_old_spans_text.ensures
