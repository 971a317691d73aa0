use Rattle.std.proofs.Common.{subst}
use Rattle.sqlite_wal.specs.Files.{image_at}
use Rattle.desk_wire.specs.Streams.{course}
use Rattle.desk_cli.specs.Exits.{ending}
use Rattle.desk_admin.specs.ScratchCopies.{IsJudged}
use Rattle.desk_admin.proofs.scratch_copies.check_by_scratch.Goals as goal

pub returns-clause-judged : goal.returns-clause-judged
returns-clause-judged g c =
    let reported = c.report_found-judged in
    subst (λ before. IsJudged (image_at g.F.Start) c.args.path.now c.args.way reported.result.1
    (ending reported.result.0 before (g.E.Write.contents reported.new.writers.errors))
    (course (g.W.Write.contents c.args.writers.now.output) (g.W.Write.contents reported.new.writers.output)))
    c.in-Ok.ensures.quiet
    (reported.ensures (image_at g.F.Start) c.look_in-found.ensures.looks c.look_in-found.ensures.fault)
