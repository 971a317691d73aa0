use Rattle.std.proofs.Common.{◌≡◌, length, IfSome}
use Rattle.db_file.proofs.SumLemmas.{IsPassing}
use Rattle.db_file.proofs.sums.copy_bytes.Given as goal

-- what was read is copied
abbrev pub invariant-loop : goal.invariant-loop
invariant-loop g l =
    record {
      room : length l.room ≡ 65536;
      copied : IfSome (g.R.Read.remaining l.fn.file) (λ bytes. IsPassing bytes (g.R.Read.remaining l.file)
          (g.W.Write.contents l.fn.output) (g.W.Write.contents l.output));
    }
