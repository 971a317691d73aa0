use Rattle.std.proofs.Common.{sym, subst}
use Rattle.sqlite_wal.specs.Files.{image_at}
use Rattle.desk_tables.specs.Copying.{LooksIn}
use Rattle.desk_tables.proofs.opening.files.look_at.Goals as goal

pub returns-clause-looks : goal.returns-clause-looks
returns-clause-looks g c = (
  c.in_ok-connection.content,
  c.stats_of.ensures.counted,
  subst (λ old. LooksIn (image_at g.S.Start) c.in_ok-connection.connection old c.in_ok-connection.content)
      (sym c.stats_of.ensures.schema) c.in_ok-connection.ensures.looks,
)
