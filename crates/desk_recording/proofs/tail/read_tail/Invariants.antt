use Rattle.std.proofs.Common.{◌^◌, ◌-◌}
use Rattle.desk_recording.specs.Tail.{AreApplied, tail_shown}
use Rattle.desk_recording.proofs.tail.read_tail.Given as goal

-- the entries so far are noted
abbrev pub invariant-loop-tail : goal.invariant-loop-tail
invariant-loop-tail g l =
    AreApplied (g.R.Read.remaining l.fn.input) (g.R.Read.remaining l.input) (tail_shown l.tail)

-- each entry has a byte or more
abbrev pub decreases-loop-tail : goal.decreases-loop-tail
decreases-loop-tail g l = 2 ^ 64 - 1 - l.tail.size
