use Rattle.std.proofs.Common.{◌+◌, ℕ, Bool, cond, List, ap₂}
use Rattle.sqlite_disk.specs.Events.{Event, replay}
use Rattle.sqlite_wal.specs.Files.{image_at}
use Rattle.db_file.proofs.CommitLemmas.{image_from, stays_as_is}
use Rattle.db_file.proofs.committing.put_in_order.Goals as goal

-- what a file shows after these calls, the newest first, and how many of them failed
abbrev seen : List ℕ → List ℕ → Bool → List Event → List ℕ
seen log db is_log calls = (replay (cond is_log log db) calls).seen

abbrev faults : List ℕ → List ℕ → Bool → List Event → ℕ
faults log db is_log calls = (replay (cond is_log log db) calls).faults

pub returns-in-Ok-open-clause-left : goal.returns-in-Ok-open-clause-left
returns-in-Ok-open-clause-left g c =
    let start = g.S.Start in
    let (log, db) = c.in-Ok-open.ensures.fresh in
    let same = ap₂ image_from (ap₂ (seen start.log start.db) log.0 log.1)
    (ap₂ (seen start.log start.db) db.0 db.1) in
    let none = ap₂ (λ (m n : ℕ). m + n) (ap₂ (faults start.log start.db) log.0 log.1)
    (ap₂ (faults start.log start.db) db.0 db.1) in
    let stays = stays_as_is start.is_mixing start.log start.db in
    c.commit_in_order.ensures.left (image_at start) (record {
      held = same;
      sound = none;
      synced = λ next may. ap₂ image_from (stays _ _ _ _ log.0 log.1 next.log may.0)
          (stays _ _ _ _ db.0 db.1 next.db may.1);
    })
