use Rattle.std.proofs.Common.{◌≡◌, length}
use Rattle.std.specs.Io.KnownBytes.{Consumes}
use Rattle.desk_wire.proofs.FrontLemmas.{HasNone}
use Rattle.desk_wire.proofs.stream.receive_head.Given as goal

-- the bytes so far are taken, one in each round, and no shorter ones end a head
abbrev pub invariant-loop : goal.invariant-loop
invariant-loop g l =
    record {
      taken : Consumes (g.R.Read.remaining l.fn.input) (g.R.Read.remaining l.input) l.text.items;
      count : length l.text.items ≡ l.counter;
      none : HasNone l.text.items;
      limit : l.limit.limit ≡ l.fn.limit.limit;
    }
