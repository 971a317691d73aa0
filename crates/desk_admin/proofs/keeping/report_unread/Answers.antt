use Rattle.desk_admin.proofs.keeping.report_unread.Goals as goal

pub returns : goal.returns
returns g c = record {
  between = _;
  cause = c.report_database.ensures;
  fails = (c.report_exit.ensures.status, c.report_exit.ensures.reported);
}
