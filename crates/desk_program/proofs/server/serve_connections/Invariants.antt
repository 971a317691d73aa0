use Rattle.std.proofs.Common.{◌≤◌, Ok}
use Rattle.desk_wire.specs.Streams.{course}
use Rattle.desk_program.specs.Keeping.{AreKept}
use Rattle.desk_program.proofs.server.serve_connections.Given as goal

-- as many connections as rounds are served
abbrev pub invariant-loop-before : goal.invariant-loop-before
invariant-loop-before g l =
    record {
      kept : AreKept {A = Unit {0}} g.S.PlanStore (Ok tt) l.before
          (course (g.P.Port.traffic l.fn.port) (g.P.Port.traffic l.port)) l.fn.desk l.desk;
      doubt : g.S.PlanStore.doubt l.fn.desk.store ≤ g.S.PlanStore.doubt l.desk.store;
      counted : g.S.PlanStore.faults l.fn.desk.store ≤ g.S.PlanStore.faults l.desk.store;
      shield : g.S.PlanStore.is_shielded l.fn.desk.store → g.S.PlanStore.is_shielded l.desk.store;
    }
