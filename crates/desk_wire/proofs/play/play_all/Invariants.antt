use Rattle.std.proofs.Common.{◌≤◌}
use Rattle.desk_store.specs.Changes.{IsHonest}
use Rattle.desk_run.specs.Verdicts.{IsSettled, world_of}
use Rattle.desk_wire.specs.Streams.{passed}
use Rattle.desk_wire.specs.Playing.{ArePlayed}
use Rattle.desk_wire.proofs.CauseLemmas.{Grows}
use Rattle.desk_wire.proofs.play.play_all.Given as goal

-- as many requests as rounds are answered
abbrev pub invariant-loop-before : goal.invariant-loop-before
invariant-loop-before g l =
    record {
      played : ArePlayed (IsHonest (g.S.PlanStore.doubt l.desk.store)) l.before
          (passed (g.R.Read.remaining l.fn.input) (g.R.Read.remaining l.input)
          (g.W.Write.contents l.fn.output) (g.W.Write.contents l.output))
          (world_of g.S.PlanStore.content l.fn.desk) l.moment.second (world_of g.S.PlanStore.content l.desk);
      settled : IsHonest (g.S.PlanStore.doubt l.desk.store)
          → IsSettled g.S.PlanStore.content g.S.PlanStore.may_leave l.fn.desk
          → IsSettled g.S.PlanStore.content g.S.PlanStore.may_leave l.desk;
      doubt : g.S.PlanStore.doubt l.fn.desk.store ≤ g.S.PlanStore.doubt l.desk.store;
      grown : Grows (g.W.Write.contents l.fn.output) (g.W.Write.contents l.output);
      counted : g.S.PlanStore.faults l.fn.desk.store ≤ g.S.PlanStore.faults l.desk.store;
      shield : g.S.PlanStore.is_shielded l.fn.desk.store → g.S.PlanStore.is_shielded l.desk.store;
    }
