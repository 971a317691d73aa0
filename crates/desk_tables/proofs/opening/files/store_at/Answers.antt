use Rattle.sqlite_wal.specs.Files.{image_at}
use Rattle.desk_tables.proofs.opening.files.store_at.Goals as goal

pub returns-in-Ok-clause-made : goal.returns-in-Ok-clause-made
returns-in-Ok-clause-made g c = c.store_files.ensures.made (image_at g.S.Start) c.in-Ok.ensures.found

pub returns-in-Ok-clause-fault : goal.returns-in-Ok-clause-fault
returns-in-Ok-clause-fault g c = c.store_files.ensures.fault (image_at g.S.Start) c.in-Ok.ensures.found
