use Rattle.std.proofs.Common.{◌≡◌, ◌≤◌, length}
use Rattle.desk_store.specs.Changes.{IsHonest}
use Rattle.desk_run.specs.Verdicts.{IsSettled, world_of}
use Rattle.desk_run.proofs.RunLemmas.{AreAnswered}
use Rattle.desk_run.proofs.desk.Desk.run.Given as goal

-- the calls so far are answered, and there is room for the outcomes of all
abbrev pub invariant-loop-moment : goal.invariant-loop-moment
invariant-loop-moment g l =
    record {
      answered :
          IsHonest (g.S.PlanStore.doubt l.self.store) → AreAnswered
          (world_of g.S.PlanStore.content l.fn.self) l.calls
          l.moment-index l.outcomes.items (world_of g.S.PlanStore.content l.self);
      settled : IsHonest (g.S.PlanStore.doubt l.self.store)
          → IsSettled g.S.PlanStore.content g.S.PlanStore.may_leave l.fn.self
          → IsSettled g.S.PlanStore.content g.S.PlanStore.may_leave l.self;
      count : length l.outcomes.items ≡ l.moment-index;
      room : length l.calls ≤ l.outcomes.cap;
      doubt : g.S.PlanStore.doubt l.fn.self.store ≤ g.S.PlanStore.doubt l.self.store;
      counted : g.S.PlanStore.faults l.fn.self.store ≤ g.S.PlanStore.faults l.self.store;
      shield : g.S.PlanStore.is_shielded l.fn.self.store → g.S.PlanStore.is_shielded l.self.store;
    }
