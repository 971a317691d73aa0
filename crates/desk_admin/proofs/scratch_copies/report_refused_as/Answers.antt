use Rattle.desk_admin.proofs.scratch_copies.report_refused_as.Goals as goal

pub returns : goal.returns
returns g c = record {
  between = g.E.Write.contents c.report_cause.new.errors;
  cause = c.report_cause.ensures;
  fails = (c.report_exit.ensures.status, c.report_exit.ensures.reported);
}
