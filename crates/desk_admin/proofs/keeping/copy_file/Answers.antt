use Rattle.std.proofs.Common.{subst}
use Rattle.sqlite.specs.Files.{file_state}
use Rattle.desk_wire.specs.Streams.{course}
use Rattle.table_load.specs.Moving.{has_others}
use Rattle.desk_admin.specs.FilesReported.{ReportsOthers}
use Rattle.desk_admin.proofs.keeping.copy_file.Goals as goal

pub returns-in-Ok-clause-copied : goal.returns-in-Ok-clause-copied
returns-in-Ok-clause-copied g c =
    let after = g.E.Write.contents c.report_others.new.errors in (
      c.in-Ok.ensures.made,
      record {
        between = after;
        reported = λ path at. subst
            (λ before. ReportsOthers (has_others (file_state c.in-Ok.copies.0).now.schema) path
            (course before after)) c.in-Ok.ensures.quiet (c.report_others.ensures.reported path at);
        printed = c.print_copied-exit.ensures;
      },
    )
