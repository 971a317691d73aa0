use Rattle.std.proofs.Common.{sym, subst}
use Rattle.desk_sql.proofs.StatementLemmas.{IsTextOf}
use Rattle.desk_sql.proofs.reading.query.Query.text.Goals as goal

pub returns-in-PlanOf : goal.returns-in-PlanOf
returns-in-PlanOf c = subst (λ query. IsTextOf query c.plan_of_text.result.now) (sym c.in-PlanOf.is)
    (c.plan_of_text.ensures _ _)

pub returns-in-VolumesOf : goal.returns-in-VolumesOf
returns-in-VolumesOf c = subst (λ query. IsTextOf query c.volumes_of_text.result.now) (sym c.in-VolumesOf.is)
    (c.volumes_of_text.ensures _ _)

pub returns-in-OwnPlans : goal.returns-in-OwnPlans
returns-in-OwnPlans c = subst (λ query. IsTextOf query c.own_plans_text.result.now) (sym c.in-OwnPlans.is)
    (c.own_plans_text.ensures _)

pub returns-in-RivalSpans : goal.returns-in-RivalSpans
returns-in-RivalSpans c = subst (λ query. IsTextOf query c.spans_but_text.result.now) (sym c.in-RivalSpans.is)
    (c.spans_but_text.ensures.rivals _ _ _ _)

pub returns-in-OtherSpans : goal.returns-in-OtherSpans
returns-in-OtherSpans c =
    let text = c.spans_but_text-in-OtherSpans in
    subst (λ query. IsTextOf query text.result.now) (sym c.in-OtherSpans.is) (text.ensures.others _ _ _)

pub returns-in-SpansOf : goal.returns-in-SpansOf
returns-in-SpansOf c = subst (λ query. IsTextOf query c.plan_spans_text.result.now) (sym c.in-SpansOf.is)
    (c.plan_spans_text.ensures _ _ _)
