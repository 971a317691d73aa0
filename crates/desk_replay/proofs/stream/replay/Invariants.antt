use Rattle.std.proofs.Common.{◌≤◌, ◌^◌, ◌-◌}
use Rattle.desk_store.specs.Changes.{IsHonest}
use Rattle.desk_run.specs.Verdicts.{world_of}
use Rattle.desk_wire.specs.Streams.{course}
use Rattle.desk_replay.specs.Replaying.{progress_state}
use Rattle.desk_replay.specs.Running.{AreEntriesPlayed}
use Rattle.desk_replay.proofs.stream.replay.Given as goal

-- the entries so far are played
abbrev pub invariant-loop-place : goal.invariant-loop-place
invariant-loop-place g l =
    record {
      played : AreEntriesPlayed (IsHonest (g.S.PlanStore.doubt l.desk.store)) l.place
          (course (g.R.Read.remaining l.fn.input) (g.R.Read.remaining l.input))
          (world_of g.S.PlanStore.content l.fn.desk)
          (progress_state (world_of g.S.PlanStore.content l.desk) l.progress);
      doubt : g.S.PlanStore.doubt l.fn.desk.store ≤ g.S.PlanStore.doubt l.desk.store;
      counted : g.S.PlanStore.faults l.fn.desk.store ≤ g.S.PlanStore.faults l.desk.store;
      shield : g.S.PlanStore.is_shielded l.fn.desk.store → g.S.PlanStore.is_shielded l.desk.store;
    }

-- each entry has a byte or more
abbrev pub decreases-loop-place : goal.decreases-loop-place
decreases-loop-place g l = 2 ^ 64 - 1 - l.place
