use Rattle.std.proofs.Common.{◌∙◌, ap, subst, w64}
use Rattle.std.proofs.lemmas.Int.{to_z-of_z}
use Rattle.std.proofs.lemmas.Result.{on_ok_weaker}
use Rattle.desk_store.proofs.lemmas.Fault.{was_honest}
use Rattle.desk_run.specs.Calls.{IsPending, world_committed}
use Rattle.desk_run.proofs.lemmas.Crash.{leaves_after}
use Rattle.desk_run.specs.Verdicts.{world_of}
use Rattle.desk_run.proofs.desk.Desk.call.Goals as goal

pub returns-clause-ok : goal.returns-clause-ok
returns-clause-ok g c = λ honest.
    let pending = c.in_ok-pending.pending in
    let prepared = c.in_ok-pending.ensures.value
    (was_honest c.commit.ensures.leaves.remembered.doubt honest) in
    let before = world_of g.S.PlanStore.content c.args.self.now in
    on_ok_weaker c.commit.result
    (λ done. done ∙ ap (λ w. world_committed w pending) c.prepare.ensures.same
    ∙ (subst (λ m. IsPending before m c.args.asked.now pending)
    (to_z-of_z w64 c.args.moment c.ranges.moment) prepared).left)
    (c.commit.ensures.ok honest)

pub returns-clause-leaves : goal.returns-clause-leaves
returns-clause-leaves g c =
    let pending = c.in_ok-pending.pending in
    let before = world_of g.S.PlanStore.content c.args.self.now in
    leaves_after g.S.PlanStore c.args.self.now c.prepare.new.self c.commit.new.self _ _ _
    c.prepare.ensures.same c.prepare.ensures.crash c.prepare.ensures.remembered c.commit.ensures.leaves
    (λ honest. ap (λ w. (world_committed w pending).content) c.prepare.ensures.same
    ∙ ap (λ w. w.content) (subst (λ m. IsPending before m c.args.asked.now pending)
    (to_z-of_z w64 c.args.moment c.ranges.moment) (c.in_ok-pending.ensures.value honest)).left)
