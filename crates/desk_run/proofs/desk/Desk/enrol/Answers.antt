use Rattle.std.proofs.Common.{◌∙◌, ap, arith}
use Rattle.std.proofs.lemmas.Result.{err_from_is_err_and}
use Rattle.desk_store.specs.Changes.{with_operator, changed_by, IsFitting}
use Rattle.desk_run.specs.Verdicts.{enrolled, with_content, world_of}
use Rattle.desk_run.proofs.DeskLemmas.{leaves_failed, leaves_made}
use Rattle.desk_run.proofs.FaultLemmas.{never_ceiling}
use Rattle.desk_run.proofs.desk.Desk.enrol.Goals as goal

pub apply-requires : goal.apply-requires
unfolding IsFitting
apply-requires g c = λ honest. omega arith

pub returns-in_err-apply-clause-ceiling : goal.returns-in_err-apply-clause-ceiling
returns-in_err-apply-clause-ceiling g c =
    let p = err_from_is_err_and c.from_residual.result c.from_residual.ensures.1 in
    rw (p.1, p.2) (λ e. absurd (never_ceiling _ e), λ h. absurd (omega arith))

pub returns-clause-ok : goal.returns-clause-ok
unfolding changed_by
returns-clause-ok g c = λ honest.
    ap (with_content c.self.inside.terms) (c.in_ok-apply.ensures.ok honest)
    ∙ ap (λ d. enrolled (world_of g.S.PlanStore.content d) c.args.operator.now c.args.ceiling)
    c.self.view_is

pub returns-clause-ceiling : goal.returns-clause-ceiling
returns-clause-ceiling g c = (λ e. cc, λ h. absurd (omega arith))

pub returns-clause-leaves : goal.returns-clause-leaves
unfolding changed_by
returns-clause-leaves g c =
    leaves_made g.S.PlanStore _ _ c.apply.new.self c.self.view_is
    (λ w. with_operator w c.args.operator.now c.args.ceiling) c.apply.ensures.crash
    c.in_ok-apply.ensures.kept c.apply.ensures.remembered

pub returns-in_err-apply-clause-leaves : goal.returns-in_err-apply-clause-leaves
unfolding changed_by
returns-in_err-apply-clause-leaves g c =
    leaves_failed g.S.PlanStore _ _ c.apply.new.self c.self.view_is
    (λ w. with_operator w c.args.operator.now c.args.ceiling) c.from_residual.result _
    c.from_residual.ensures.1 c.in_err-apply.ensures.err c.in_err-apply.ensures.cause
    c.apply.ensures.crash c.apply.ensures.remembered
