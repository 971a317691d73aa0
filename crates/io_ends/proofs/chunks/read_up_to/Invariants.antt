use Rattle.std.proofs.Common.{◌≡◌, ◌+◌, length}
use Rattle.std.specs.Io.KnownBytes.{Consumes}
use Rattle.io_ends.proofs.chunks.read_up_to.Given as goal

-- the bytes so far are taken
abbrev pub invariant-loop-left : goal.invariant-loop-left
invariant-loop-left g l =
    record {
      taken : Consumes (g.R.Read.remaining l.fn.input) (g.R.Read.remaining l.input) l.bytes.items;
      size : length l.bytes.items + l.left ≡ l.size;
      chunk : length l.chunk ≡ 4096;
      limit : l.limit.limit ≡ l.fn.limit.limit;
    }

-- each round takes a byte or more
abbrev pub decreases-loop-left : goal.decreases-loop-left
decreases-loop-left g l = l.left
