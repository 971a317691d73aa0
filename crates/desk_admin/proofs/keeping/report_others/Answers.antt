use Rattle.std.proofs.Common.{◌≡◌, ◌∙◌, Some, true, sym, subst, rules}
use Rattle.sqlite.specs.Files.{file_state}
use Rattle.desk_program.specs.Keeping.{bytes_written}
use Rattle.table_load.specs.Moving.{has_others}
use Rattle.host_files.specs.Naming.{IsWrittenIfRoom, line_of}
use Rattle.desk_admin.specs.FilesReported.{ReportsOthers, others_text}
use Rattle.desk_admin.proofs.keeping.report_others.Goals as goal

pub returns-in-Some : goal.returns-in-Some
returns-in-Some g c = record {
  reported = λ path at.
      let writes = bytes_written g.E.Write c.args.errors.now c.report_text.new.errors in
      let same : c.in-Some.path.now ≡ path =
      let is : Some c.in-Some.path.now ≡ Some path = c.in-Some.ensures ∙ at in cc in
      let there : has_others (file_state c.args.connection.now).now.schema ≡ true = search rules in
      subst (λ has. ReportsOthers has path writes) (sym there)
      (subst (λ path. IsWrittenIfRoom (line_of path others_text) writes) same c.report_text.ensures.line);
}
