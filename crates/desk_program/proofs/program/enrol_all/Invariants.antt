use Rattle.std.proofs.Common.{◌≡◌, ◌≤◌, take}
use Rattle.desk_store.specs.Changes.{IsHonest}
use Rattle.desk_run.specs.Verdicts.{IsSettledOrSame, world_of}
use Rattle.desk_program.specs.Enrolling.{with_operators}
use Rattle.desk_program.proofs.program.enrol_all.Given as goal

-- those before are listed
abbrev pub invariant-loop-enrolment : goal.invariant-loop-enrolment
invariant-loop-enrolment g l =
    record {
      listed : IsHonest (g.S.PlanStore.doubt l.desk.store)
          → world_of g.S.PlanStore.content l.desk
          ≡ with_operators (world_of g.S.PlanStore.content l.fn.desk) (take l.enrolment-index l.enrolments);
      sure : IsHonest (g.S.PlanStore.doubt l.desk.store)
          → IsSettledOrSame g.S.PlanStore.content g.S.PlanStore.may_leave l.fn.desk l.desk;
      doubt : g.S.PlanStore.doubt l.fn.desk.store ≤ g.S.PlanStore.doubt l.desk.store;
      counted : g.S.PlanStore.faults l.fn.desk.store ≤ g.S.PlanStore.faults l.desk.store;
      shield : g.S.PlanStore.is_shielded l.fn.desk.store → g.S.PlanStore.is_shielded l.desk.store;
    }
