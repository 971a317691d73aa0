use Rattle.host_files.proofs.lemmas.Reporting.{reports_both}
use Rattle.desk_host.proofs.ReportedLemmas.{reported_next}
use Rattle.desk_host.proofs.operators.report_lines.Goals as goal

pub returns-in_err-report_if_malformed-clause-appended : goal.returns-in_err-report_if_malformed-clause-appended
returns-in_err-report_if_malformed-clause-appended g c =
    reports_both c.loop-line.invariant.some c.in_err-report_if_malformed.ensures.appended

pub loop-line-preserved : goal.loop-line-preserved
loop-line-preserved g c =
    reported_next _ _ c.args.lines.now c.loop-line.line-index _ _ _ _ _ _ c.loop-line-test.true c.with-counted.ensures
    c.loop-line.invariant c.in_ok-report_if_malformed.ensures.reported c.in_ok-report_if_malformed.ensures.appended

pub returns-clause-appended : goal.returns-clause-appended
returns-clause-appended g c = reports_both c.loop-line.invariant.some c.report_rest.ensures.appended
