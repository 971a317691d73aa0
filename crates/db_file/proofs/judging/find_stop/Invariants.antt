use Rattle.std.proofs.Common.{◌≡◌, ℕ, ◌+◌, ◌*◌, List, length}
use Rattle.sqlite_wal.specs.Recovery.{header}
use Rattle.db_file.specs.Wal.{HasRead, IsBefore}
use Rattle.db_file.proofs.judging.find_stop.Given as goal
use Rattle.db_file.proofs.WalkLemmas.{IsFollowed}

-- recovery takes the frames so far, and the next is to be read
abbrev pub invariant-loop-stop : goal.invariant-loop-stop
invariant-loop-stop g l =
    record {
      followed : (page : ℕ) (bytes : List ℕ) → length l.fn.frame ≡ 24 + page → header bytes ≡ l.head
          → IsBefore page bytes 0 (g.R.Read.remaining l.fn.log)
          → IsFollowed page bytes l.stop l.sum × IsBefore page bytes l.stop (g.R.Read.remaining l.log);
      read : HasRead (g.R.Read.remaining l.fn.log) (g.R.Read.remaining l.log) (24 * l.stop);
    }
