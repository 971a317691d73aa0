use Rattle.sqlite_wal.specs.Files.{image_at}
use Rattle.desk_admin.proofs.reordering.reorder_by_scratch.Goals as goal

pub returns-clause-reordered : goal.returns-clause-reordered
returns-clause-reordered g c = record {
  from = g.P.Folder.steps c.make_scratch.new.folder;
  made = c.in-Ok.ensures.made.1;
  ordered = c.reorder_if_valid-done.ensures.ordered (image_at g.F.Start) c.look_in-found.ensures.looks
      c.look_in-found.ensures.fault c.in-Ok.ensures.made.0;
}
