use Rattle.std.proofs.Common.{◌≡◌, ◌≤◌, length}
use Rattle.desk_store.specs.Changes.{IsHonest}
use Rattle.desk_run.specs.Verdicts.{IsSettled, world_of}
use Rattle.desk_wire.proofs.AllLemmas.{HaveAnswers}
use Rattle.desk_wire.proofs.batch.answer_all.Given as goal

-- the requests so far are answered, and there is room for the answers to all
abbrev pub invariant-loop-moment : goal.invariant-loop-moment
invariant-loop-moment g l =
    record {
      answered : IsHonest (g.S.PlanStore.doubt l.desk.store)
          → HaveAnswers (λ r. (r.0.second, r.1.items)) (λ v. v.items)
          (world_of g.S.PlanStore.content l.fn.desk) l.requests
          l.moment-index l.answers.items (world_of g.S.PlanStore.content l.desk);
      settled : IsHonest (g.S.PlanStore.doubt l.desk.store)
          → IsSettled g.S.PlanStore.content g.S.PlanStore.may_leave l.fn.desk
          → IsSettled g.S.PlanStore.content g.S.PlanStore.may_leave l.desk;
      count : length l.answers.items ≡ l.moment-index;
      room : length l.requests ≤ l.answers.cap;
      doubt : g.S.PlanStore.doubt l.fn.desk.store ≤ g.S.PlanStore.doubt l.desk.store;
      counted : g.S.PlanStore.faults l.fn.desk.store ≤ g.S.PlanStore.faults l.desk.store;
      shield : g.S.PlanStore.is_shielded l.fn.desk.store → g.S.PlanStore.is_shielded l.desk.store;
    }
