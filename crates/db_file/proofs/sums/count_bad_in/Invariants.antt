use Rattle.std.proofs.Common.{◌≡◌, ◌≤◌, length, IfSome}
use Rattle.sqlite_wal.specs.PageSize.{bytes_of}
use Rattle.db_file.proofs.SumLemmas.{IsCounting}
use Rattle.db_file.proofs.sums.count_bad_in.Given as goal

-- so many pages are counted
abbrev pub invariant-loop : goal.invariant-loop
invariant-loop g l =
    record {
      whole_page : length l.page ≡ bytes_of l.fn.size;
      few : l.bad_count ≤ l.counter;
      counted : IfSome (g.R.Read.remaining l.fn.file) (λ bytes. IsCounting (bytes_of l.fn.size) l.fn.count
          l.counter l.bad_count bytes (g.R.Read.remaining l.file));
    }
