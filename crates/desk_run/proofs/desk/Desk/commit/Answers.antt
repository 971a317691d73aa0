use Rattle.std.proofs.Common.{◌≡◌, ◌∙◌, None, ap, arith, refl, rules}
use Rattle.desk_store.specs.Changes.{changed_by}
use Rattle.desk_run.specs.Calls.{world_committed}
use Rattle.desk_run.specs.Verdicts.{with_content}
use Rattle.desk_run.proofs.lemmas.Crash.{leaves_read}
use Rattle.desk_run.proofs.DeskLemmas.{leaves_failed, leaves_made, no_fault}
use Rattle.desk_run.proofs.desk.Desk.commit.Goals as goal

-- there is no change
pub returns-in_default-clause-ok : goal.returns-in_default-clause-ok
unfolding world_committed
returns-in_default-clause-ok g c = λ honest.
    let is : c.args.pending.change ≡ None = search rules in
    rw is refl

pub returns-in_default-clause-leaves : goal.returns-in_default-clause-leaves
returns-in_default-clause-leaves g c =
    leaves_read g.S.PlanStore c.args.self.now c.args.self.now _ None refl (λ honest found may. may)
    (record { doubt = omega arith; counted = omega arith; shield = λ s. s })
    (λ said. absurd (no_fault said))

-- the content is that with the change made, and the terms stay
pub returns-clause-ok : goal.returns-clause-ok
unfolding world_committed
returns-clause-ok g c = λ honest. rw c.in-Some.is
    (ap (with_content c.self.inside.terms) (c.in_ok-apply.ensures.ok honest)
    ∙ ap (λ d. with_content d.terms (changed_by c.in-Some.change (g.S.PlanStore.content d.store)))
    c.self.view_is)

pub returns-clause-leaves : goal.returns-clause-leaves
unfolding world_committed
returns-clause-leaves g c = rw c.in-Some.is
    (leaves_made g.S.PlanStore _ _ c.apply.new.self c.self.view_is (changed_by c.in-Some.change)
    c.apply.ensures.crash c.in_ok-apply.ensures.kept c.apply.ensures.remembered)

pub returns-in_err-apply-clause-leaves : goal.returns-in_err-apply-clause-leaves
unfolding world_committed
returns-in_err-apply-clause-leaves g c = rw c.in-Some.is
    (leaves_failed g.S.PlanStore _ _ c.apply.new.self c.self.view_is (changed_by c.in-Some.change)
    c.from_residual.result _ c.from_residual.ensures.1 c.in_err-apply.ensures.err
    c.in_err-apply.ensures.cause c.apply.ensures.crash c.apply.ensures.remembered)
