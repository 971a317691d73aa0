use Rattle.sqlite_wal.specs.Files.{image_at}
use Rattle.desk_tables.proofs.opening.files.SqliteStore+FileStore+FileFrom+S.open_from.Goals as goal

pub returns-in-Ok-clause-begins : goal.returns-in-Ok-clause-begins
returns-in-Ok-clause-begins g c = c.adopt_files.ensures.begins (image_at g.S.Start) c.in-Ok.ensures.found

pub returns-in-Ok-clause-guarded : goal.returns-in-Ok-clause-guarded
returns-in-Ok-clause-guarded g c = c.adopt_files.ensures.guarded c.in-Ok.ensures.found.guarded

pub returns-in-Ok-clause-fault : goal.returns-in-Ok-clause-fault
returns-in-Ok-clause-fault g c = c.adopt_files.ensures.fault (image_at g.S.Start) c.in-Ok.ensures.found

pub returns-in-Ok-clause-cut : goal.returns-in-Ok-clause-cut
returns-in-Ok-clause-cut g c = c.adopt_files.ensures.cut (image_at g.S.Start) c.in-Ok.ensures.found
