use Rattle.std.proofs.Common.{◌≡◌, ◌≤◌, length, take}
use Rattle.std.specs.Io.KnownBytes.{Appends}
use Rattle.io_ends.specs.declared.writes.LastWrite.TheVariants.{Passed}
use Rattle.io_ends.proofs.writing.write_most.Given as goal

-- the first `sent` bytes are written, by as many writes as there were turns, which all passed
abbrev pub invariant-loop : goal.invariant-loop
invariant-loop g l =
    record {
      within : l.sent ≤ length l.bytes;
      sent : Appends (g.W.Write.contents l.fn.output) (g.W.Write.contents l.output) (take l.sent l.bytes);
      passed : l.writes.last ≡ Passed;
      count : l.writes.count ≡ l.counter;
    }
