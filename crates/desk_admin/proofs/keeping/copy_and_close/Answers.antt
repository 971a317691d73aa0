use Rattle.sqlite_wal.specs.Files.{image_at}
use Rattle.desk_admin.proofs.KeepLemmas.{stored_as}
use Rattle.desk_admin.proofs.keeping.copy_and_close.Goals as goal

pub returns-clause-made : goal.returns-clause-made
returns-clause-made g c =
    c.close_if_copied.ensures.made (image_at g.F.Start) (image_at g.N.Start)
    (stored_as (image_at g.F.Start) (image_at g.N.Start) c.copy_from.result c.copy_from.ensures.looks
    c.copy_from.ensures.made c.copy_from.ensures.left)

pub returns-clause-fault : goal.returns-clause-fault
returns-clause-fault g c =
    c.close_if_copied.ensures.fault (image_at g.F.Start) (image_at g.N.Start)
    (stored_as (image_at g.F.Start) (image_at g.N.Start) c.copy_from.result c.copy_from.ensures.looks
    c.copy_from.ensures.made c.copy_from.ensures.left)
    c.copy_from.ensures.fault
