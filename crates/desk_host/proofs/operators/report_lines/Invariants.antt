use Rattle.std.proofs.Common.{drop, map}
use Rattle.desk_host.proofs.ReportedLemmas.{AreReportedOf}
use Rattle.desk_host.proofs.operators.report_lines.Given as goal

-- what is reported so far, with what is said of the lines that are left, is what is said of all
abbrev pub invariant-loop-line : goal.invariant-loop-line
invariant-loop-line g l = AreReportedOf l.path (map (λ line. line.now) l.lines) l.counted
    (map (λ line. line.now) (drop l.line-index l.lines))
    (g.E.Write.contents l.fn.errors) (g.E.Write.contents l.errors)
