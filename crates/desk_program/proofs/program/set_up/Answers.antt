use Rattle.std.proofs.Common.{Option, subst}
use Rattle.desk_store.specs.World.{World}
use Rattle.desk_store.specs.Changes.{IsHonest}
use Rattle.desk_run.specs.Verdicts.{IsSettled, world_of}
use Rattle.desk_program.specs.Enrolling.{HasEnrolled}
use Rattle.desk_program.specs.Keeping.{FindsEnrolments}
use Rattle.desk_program.proofs.KeepingLemmas.{settled_news}
use Rattle.desk_program.proofs.program.set_up.Goals as goal

pub returns-clause-listed : goal.returns-clause-listed
returns-clause-listed g c =
    let after = c.enrol_all.new.desk in
    subst (λ d. HasEnrolled (IsHonest (g.S.PlanStore.doubt after.store)) c.enrol_all.result
    c.args.enrolments.now (world_of g.S.PlanStore.content d) (world_of g.S.PlanStore.content after))
    c.set_terms.ensures c.enrol_all.ensures.listed

pub returns-clause-kept : goal.returns-clause-kept
returns-clause-kept g c = λ p.
    let after = c.enrol_all.new.desk in
    let mid = c.set_terms.new.self in
    subst (λ d. IsSettled g.S.PlanStore.content g.S.PlanStore.may_leave d
    → (found : Option World) → g.S.PlanStore.may_leave after.store found
    → FindsEnrolments (IsHonest (g.S.PlanStore.doubt after.store)) c.enrol_all.result c.args.enrolments.now
    (world_of g.S.PlanStore.content d) (world_of g.S.PlanStore.content after) found) c.set_terms.ensures
    (settled_news (IsHonest (g.S.PlanStore.doubt after.store)) c.enrol_all.result c.args.enrolments.now
    (world_of g.S.PlanStore.content mid) (world_of g.S.PlanStore.content after)
    (g.S.PlanStore.may_leave mid.store) (g.S.PlanStore.may_leave after.store) c.enrol_all.ensures.listed
    (c.enrol_all.ensures.found p))
