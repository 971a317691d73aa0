use Rattle.std.proofs.Common.{subst}
use Rattle.std.specs.Prelude.{IfOk}
use Rattle.desk_admin.specs.FilesReported.{IsReadAs}
use Rattle.desk_admin.proofs.scratch_copies.report_found.Goals as goal

pub returns-in-Ok : goal.returns-in-Ok
returns-in-Ok g c image looks fails = record {
  between = g.E.Write.contents c.report_defect.new.errors;
  file = c.in-Ok.file;
  noted = c.report_defect.ensures;
  read = subst (λ r. IfOk r (λ it. IsReadAs image it.0 it.1)) c.in-Ok.is looks;
  printed = c.print_checked-exit.ensures;
}
