use Rattle.std.proofs.Common.{IsSome, subst, sym}
use Rattle.desk_store.specs.Changes.{IsHonest}
use Rattle.desk_wire.specs.Streams.{course}
use Rattle.desk_wire.specs.Playing.{max_answered}
use Rattle.desk_program.proofs.PortGivenLemmas.{listening_turns, port_alike, port_quiet, port_turns}
use Rattle.desk_program.proofs.laws.port_given.Goals as goal

pub returns : goal.returns
returns c = record {
  first = λ doubt count done. port_turns (IsHonest doubt) done count;
  decided = port_alike;
  quiet = port_quiet;
  served = λ doubt done serve port w after h honest reports.
      listening_turns port h.listening serve.port h.begun after h.listens
      (port_turns (IsHonest doubt) done serve.connections (course h.listening port.after) h.begun after h.taken
      honest (subst IsSome (sym h.listens.1.2) reports));
  played = λ doubt done play port w after h.
      port_turns (IsHonest doubt) done max_answered port h.begun after h.taken;
}
