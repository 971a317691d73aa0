use Rattle.std.proofs.Common.{◌∙◌, ◌++◌, ◌∷◌, [], ap, inl, sym, arith, take}
use Rattle.std.proofs.lemmas.List.{take_more}
use Rattle.desk_store.specs.Changes.{IsHonest}
use Rattle.desk_store.proofs.lemmas.Fault.{was_honest}
use Rattle.desk_run.specs.Verdicts.{enrolled, world_of}
use Rattle.desk_program.specs.Enrolling.{with_operators}
use Rattle.desk_program.proofs.EnrolLemmas.{counted_since, listed_err, one_more}
use Rattle.desk_program.proofs.KeepingLemmas.{finds_err, finds_ok, found_so_far}
use Rattle.desk_program.proofs.program.enrol_all.Goals as goal

pub loop-enrolment-preserved : goal.loop-enrolment-preserved
loop-enrolment-preserved g c =
    let index = c.loop-enrolment.enrolment-index in
    let es = c.args.enrolments.now in
    let e = c.enrolment-item.result in
    let w = world_of g.S.PlanStore.content c.args.desk.now in
    record {
      listed = λ h. c.in_ok-enrol.ensures.ok h
          ∙ ap (λ v. enrolled v e.operator e.ceiling)
          (c.loop-enrolment.invariant.listed (was_honest c.enrol.ensures.leaves.remembered.doubt h))
          ∙ sym (one_more (take index es) w e)
          ∙ ap (λ x. with_operators w (take index es ++ x ∷ [])) c.enrolment-item.is
          ∙ ap (with_operators w) (sym (take_more es index e c.loop-enrolment-test.true));
      sure = λ h. inl (c.in_ok-enrol.ensures.kept h);
      doubt = omega (arith, c.loop-enrolment.invariant.doubt, c.enrol.ensures.leaves.remembered.doubt);
      counted = omega (arith, c.loop-enrolment.invariant.counted, c.enrol.ensures.leaves.remembered.counted);
      shield = λ s. c.enrol.ensures.leaves.remembered.shield (c.loop-enrolment.invariant.shield s);
    }

-- those before it are listed, and why it failed
pub returns-in_err-enrol-clause-listed : goal.returns-in_err-enrol-clause-listed
returns-in_err-enrol-clause-listed g c =
    let es = c.args.enrolments.now in
    let w = world_of g.S.PlanStore.content c.args.desk.now in
    listed_err c.from_residual.result _ (IsHonest (g.S.PlanStore.doubt c.enrol.new.self.store)) es w
    (world_of g.S.PlanStore.content c.enrol.new.self) c.from_residual.ensures.1 (record {
      count = c.loop-enrolment.enrolment-index;
      few = c.loop-enrolment-test.true;
      left = λ h. c.in_err-enrol.ensures.leaves.same
          ∙ c.loop-enrolment.invariant.listed (was_honest c.enrol.ensures.leaves.remembered.doubt h);
    })

pub returns-in_err-enrol-clause-cause : goal.returns-in_err-enrol-clause-cause
returns-in_err-enrol-clause-cause g c =
    counted_since g.S.PlanStore.faults c.args.desk.now.store c.loop-enrolment.desk.store
    c.enrol.new.self.store c.from_residual.result _ c.from_residual.ensures.1
    c.loop-enrolment.invariant.counted c.in_err-enrol.ensures.leaves.cause

pub returns-in_err-enrol-clause-found : goal.returns-in_err-enrol-clause-found
returns-in_err-enrol-clause-found g c = λ p.
    let index = c.loop-enrolment.enrolment-index in
    let es = c.args.enrolments.now in
    let e = c.enrolment-item.result in
    let w = world_of g.S.PlanStore.content c.args.desk.now in
    let v = world_of g.S.PlanStore.content c.loop-enrolment.desk in
    let after = world_of g.S.PlanStore.content c.enrol.new.self in
    let was = was_honest c.enrol.ensures.leaves.remembered.doubt p in
    let listed = c.loop-enrolment.invariant.listed was in
    let before = g.S.PlanStore.may_leave c.args.desk.now.store in
    let now = g.S.PlanStore.may_leave c.enrol.new.self.store in
    finds_err c.from_residual.result _ es w after before now c.from_residual.ensures.1
    (found_so_far es w v after e index before (g.S.PlanStore.may_leave c.loop-enrolment.desk.store) now
    c.loop-enrolment-test.true c.in_err-enrol.ensures.leaves.same listed
    (ap (λ x. enrolled x e.operator e.ceiling) listed ∙ sym (one_more (take index es) w e)
    ∙ ap (λ x. with_operators w (take index es ++ x ∷ [])) c.enrolment-item.is
    ∙ ap (with_operators w) (sym (take_more es index e c.loop-enrolment-test.true)))
    (c.loop-enrolment.invariant.sure was) (c.enrol.ensures.leaves.crash p))

pub returns-clause-found : goal.returns-clause-found
returns-clause-found g c = λ p. finds_ok _ _ _ _ (c.loop-enrolment.invariant.sure p)
