use Rattle.std.proofs.Common.{List, IfErr, rules}
use Rattle.sqlite.specs.Held.{state}
use Rattle.sqlite.specs.Order.{Row}
use Rattle.sqlite.specs.State.{HasCleanDisk}
use Rattle.desk_sql.specs.Queries.{FailsNext}
use Rattle.desk_sql.proofs.TakingLemmas.{on_err, refused_next}
use Rattle.desk_sql.proofs.reading.taking.visit_next.Goals as goal

pub returns-in_err-take-in-Some-clause-handed : goal.returns-in_err-take-in-Some-clause-handed
returns-in_err-take-in-Some-clause-handed g c =
    let old = c.args.rows.now.conn.now in
    let new = c.advance.new.self.conn.now in
    let refuses : Row → _ → Type 0 = λ row e. (taken : List Row)
    → g.T.RowVisitor.has_taken c.args.visitor.now taken → g.T.RowVisitor.refuses taken row e in
    let cause : HasCleanDisk (state g.S.Store new)
    → IfErr c.from_residual-in_err-take-in-Some.result (FailsNext g.S.Store old new refuses) = λ clean.
    on_err c.from_residual-in_err-take-in-Some.result c.in_err-take-in-Some.field-0.0 _
    c.from_residual-in_err-take-in-Some.ensures.1
    (refused_next g.S.Store old new c.in-Some.row.now _ refuses c.in_err-take-in-Some.field-0.0
    c.in-Some.ensures (c.in_ok-advance.ensures.same clean) (c.in_ok-advance.ensures.ok clean)
    c.in_err-take-in-Some.ensures.refused) in
    search (rules, cause)
