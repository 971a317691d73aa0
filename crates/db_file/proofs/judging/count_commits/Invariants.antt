use Rattle.std.proofs.Common.{◌≡◌, ◌≤◌, ℕ, ◌+◌, ◌*◌, List, length}
use Rattle.sqlite_wal.specs.Recovery.{header}
use Rattle.db_file.specs.Wal.{HasFrame, HasRead}
use Rattle.db_file.proofs.CountLemmas.{IsCounting}
use Rattle.db_file.proofs.judging.count_commits.Given as goal

-- the commits before the frame in hand are counted
abbrev pub invariant-loop : goal.invariant-loop
invariant-loop g l =
    record {
      few : l.commits ≤ l.counter;
      counted : (page stop : ℕ) (bytes : List ℕ) → length l.fn.frame ≡ 24 + page → header bytes ≡ l.head
          → HasFrame page bytes stop l.fn.frame (g.R.Read.remaining l.fn.log)
          → IsCounting page bytes stop l.counter l.commits l.frame (g.R.Read.remaining l.log);
      read : HasRead (g.R.Read.remaining l.fn.log) (g.R.Read.remaining l.log) (24 * l.counter);
    }
