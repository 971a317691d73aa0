use Rattle.std.proofs.Common.{◌≡◌, ◌-◌, length}
use Rattle.std.specs.Io.KnownBytes.{Keeps}
use Rattle.io_ends.proofs.reads.read_within.Given as goal

-- no byte is taken yet
abbrev pub invariant-loop-input : goal.invariant-loop-input
invariant-loop-input g l =
    record {
      room : length l.room ≡ length l.initial.room;
      kept : Keeps (g.R.Read.remaining l.fn.input) (g.R.Read.remaining l.input);
      limit : l.limit.limit ≡ l.fn.limit.limit;
      each : l.limit.is_per_chunk ≡ l.fn.limit.is_per_chunk;
    }

-- each round adds a call
abbrev pub decreases-loop-input : goal.decreases-loop-input
decreases-loop-input g l = l.limit.limit - l.limit.reads.count
