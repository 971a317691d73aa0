use Rattle.std.proofs.Common.{ap, sym, subst, ◌∙◌}
use Rattle.sqlite_wal.specs.Files.{image_at}
use Rattle.table_load.specs.Files.{AreNotMoved, OpensMoved}
use Rattle.desk_admin.proofs.UnopenedLemmas.{fails_over}
use Rattle.uss_desk.proofs.opening.open_old_file.Goals as goal

pub returns-in-Ok : goal.returns-in-Ok
returns-in-Ok g c = subst (λ s. OpensMoved (image_at g.F.Start) s.held s.world c.in-Ok.count)
    (sym (ap (λ d. d.store) c.new.ensures ∙ c.over.ensures)) c.in-Ok.ensures.begins

pub returns-in-Err : goal.returns-in-Err
returns-in-Err g c =
    fails_over (λ files. AreNotMoved (image_at g.F.Start) files.fault files.connection) c.of.result
    c.in-Err.refused c.of.ensures.failure c.of.ensures.refused c.in-Err.ensures.fault
