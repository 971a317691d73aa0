use Rattle.sqlite_wal.specs.Files.{image_at}
use Rattle.desk_tables.proofs.LookLemmas.{copied_looks, unmade_left}
use Rattle.desk_tables.proofs.opening.files.copy_from.Goals as goal

pub returns-in-Ok-clause-looks : goal.returns-in-Ok-clause-looks
returns-in-Ok-clause-looks g c =
    let read = c.copy_read.ensures in
    copied_looks (image_at g.S.Start) c.copy_read.result c.in-Ok.found.0 c.in-Ok.found.1 c.in-Ok.found.3
    read.same read.world read.counted read.schema c.in-Ok.ensures.looks

pub returns-in-Ok-clause-fault : goal.returns-in-Ok-clause-fault
returns-in-Ok-clause-fault g c =
    unmade_left (image_at g.S.Start) (image_at g.N.Start) c.copy_read.result c.in-Ok.found.0 c.in-Ok.found.1
    c.in-Ok.found.3 c.copy_read.ensures.unmade c.in-Ok.ensures.looks
