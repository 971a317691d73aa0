use Rattle.std.proofs.Common.{IfOk, ℕ, Bool, cond, List, ap₂, subst}
use Rattle.sqlite_disk.specs.Events.{Event, replay}
use Rattle.sqlite_wal.specs.Files.{image_at}
use Rattle.sqlite_wal.specs.Recovery.{Image}
use Rattle.table_load.specs.Files.{Finds}
use Rattle.table_load.proofs.lemmas.Leftover.{stays_as_is, unread_if}
use Rattle.table_load.proofs.connecting.connect.Goals as goal

abbrev image : List ℕ → List ℕ → Image
image log db = record { log = log; db = db }

-- what a file shows after these calls, the newest first
abbrev seen : List ℕ → List ℕ → Bool → List Event → List ℕ
seen log db is_log calls = (replay (cond is_log log db) calls).seen

pub returns-clause-found : goal.returns-clause-found
returns-clause-found g c =
    let (log, db) = c.in_ok-files.ensures.fresh in
    let same = ap₂ image (ap₂ (seen g.S.Start.log g.S.Start.db) log.0 log.1)
    (ap₂ (seen g.S.Start.log g.S.Start.db) db.0 db.1) in
    subst (λ i. IfOk c.connect_over.result (Finds i)) same c.connect_over.ensures.found

pub returns-clause-unread : goal.returns-clause-unread
returns-clause-unread g c =
    let start = g.S.Start in
    let (log, db) = c.in_ok-files.ensures.fresh in
    let same = ap₂ image (ap₂ (seen start.log start.db) log.0 log.1)
    (ap₂ (seen start.log start.db) db.0 db.1) in
    let stays = stays_as_is start.is_mixing start.log start.db in
    unread_if (image_at start) c.in_ok-files.files same
    (λ next may. ap₂ image (stays _ _ _ _ log.0 log.1 next.log may.0) (stays _ _ _ _ db.0 db.1 next.db may.1))
    c.connect_over.result c.connect_over.ensures.unread c.connect_over.ensures.left
