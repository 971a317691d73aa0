use Rattle.sqlite_wal.specs.Files.{image_at}
use Rattle.desk_admin.proofs.KeepLemmas.{read_as, refused_fails}
use Rattle.desk_admin.proofs.keeping.look_in.Goals as goal

pub returns-in-Ok-clause-looks : goal.returns-in-Ok-clause-looks
returns-in-Ok-clause-looks g c =
    read_as (image_at g.F.Start) c.in-Ok.connection c.checked_file.result c.in-Ok.holdings
    c.checked_file.ensures.schema c.checked_file.ensures.counted c.in-Ok.ensures.looks

pub returns-clause-fault : goal.returns-clause-fault
returns-clause-fault g c =
    refused_fails (image_at g.F.Start) c.of.result c.in-Err.refused c.of.ensures.failure
    c.of.ensures.refused c.in-Err.ensures.fault
