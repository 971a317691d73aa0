use Rattle.sqlite_wal.specs.Files.{image_at}
use Rattle.desk_tables.proofs.opening.files.read_at.Goals as goal

pub returns-in-Ok-clause-looks : goal.returns-in-Ok-clause-looks
returns-in-Ok-clause-looks g c = c.read_connected.ensures.looks (image_at g.S.Start) c.in-Ok.ensures.found

pub returns-in-Ok-clause-fault : goal.returns-in-Ok-clause-fault
returns-in-Ok-clause-fault g c = c.read_connected.ensures.fault (image_at g.S.Start) c.in-Ok.ensures.found
