use Rattle.std.proofs.Common.{rules}
use Rattle.sqlite_wal.specs.PageSize.{bytes_of}
use Rattle.sqlite_wal.specs.Reads.{IsClean}
use Rattle.sqlite_wal.specs.Recovery.{AreFramesOf}
use Rattle.db_file.proofs.WalCommitLemmas.{taken_iff}
use Rattle.db_file.proofs.commits.takes_commit.Goals as goal

pub returns-clause-taken : goal.returns-clause-taken
returns-clause-taken g c clean =
    let size = c.in_ok-size.size in
    let of_log : IsClean g.D.Disk c.probe_frames.new.log = search (rules, clean) in
    let are : AreFramesOf (bytes_of size) (g.D.Disk.seen c.args.files.now.log) c.in_ok-pages.pages.items =
    search (rules, of_log) in
    taken_iff (bytes_of size) c.in_ok-pages.pages.len _ _ _
    (size.smallest, size.largest, size.power, size.aligned) are (search rules) (search rules)
