use Rattle.std.proofs.Common.{◌≡◌, ◌-◌, length}
use Rattle.db_file.specs.Wal.{most_reads}
use Rattle.db_file.proofs.ReadLemmas.{Reached}
use Rattle.db_file.proofs.reading.fill.Given as goal

-- the bytes that were taken stand in the room
abbrev pub invariant-loop-count : goal.invariant-loop-count
invariant-loop-count g l =
    record {
      reached : Reached (g.R.Read.remaining l.fn.input) (g.R.Read.remaining l.input) l.room l.count;
      size : length l.room ≡ length l.initial.room;
      limit : l.limit.limit ≡ most_reads;
    }

-- each round takes a byte or more
abbrev pub decreases-loop-count : goal.decreases-loop-count
decreases-loop-count g l = length l.room - l.count
