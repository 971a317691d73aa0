use Rattle.std.proofs.Common.{◌≡◌, length, IfSome}
use Rattle.sqlite_wal.specs.PageSize.{bytes_of}
use Rattle.db_file.proofs.SumLemmas.{IsCopying}
use Rattle.db_file.proofs.sums.copy_pages.Given as goal

-- so many pages are copied, each with its sum
abbrev pub invariant-loop : goal.invariant-loop
invariant-loop g l =
    record {
      whole_page : length l.page ≡ bytes_of l.fn.size;
      copied : IfSome (g.R.Read.remaining l.fn.file) (λ bytes. IsCopying (bytes_of l.fn.size) l.fn.count
          l.counter bytes (g.R.Read.remaining l.file) (g.W.Write.contents l.fn.output)
          (g.W.Write.contents l.output));
    }
