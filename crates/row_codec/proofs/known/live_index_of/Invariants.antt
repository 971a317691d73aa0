use Rattle.std.proofs.Common.{take}
use Rattle.live_index.specs.Live.{AreVolumes, gathered_in}
use Rattle.row_codec.proofs.known.live_index_of.Given as goal

-- the volumes of the plans so far
abbrev pub invariant-loop-plan : goal.invariant-loop-plan
invariant-loop-plan l = AreVolumes (take l.plan-index l.plans) (gathered_in l.builder)
