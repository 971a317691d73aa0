use Rattle.std.proofs.Common.{List, arith}
use Rattle.sqlite.specs.Values.{bound}
use Rattle.sqlite.specs.Order.{Row}
use Rattle.sqlite.specs.State.{HasCleanDisk, Shown}
use Rattle.sqlite.specs.Held.{state}
use Rattle.desk_sql.specs.Queries.{order_of, rows_of}
use Rattle.desk_sql.specs.Rows.{IsDesk, tables_of, Lists}
use Rattle.desk_sql.specs.Statements.{Selects}
use Rattle.desk_sql.proofs.AskLemmas.{sure_here}
use Rattle.desk_sql.proofs.HandLemmas.{cut_short_of}
use Rattle.desk_sql.proofs.lemmas.Read.{selected, was_open}
use Rattle.desk_sql.proofs.TakingLemmas.{if_handed}
use Rattle.desk_sql.proofs.reading.taking.for_each_row.Goals as goal

-- a desk's schema is the one that there is
pub visit_rows-requires-clause-ready : goal.visit_rows-requires-clause-ready
visit_rows-requires-clause-ready g c = record {
  settled = c.requires.ready.settled;
  shown = sure_here g.S.Store c.args.connection.now c.text.result.now (bound c.as_slice.result.now)
      c.requires.ready.shown (rw (c.as_slice.ensures, c.params.ensures) c.text.ensures.sure);
}

pub returns-clause-answers : goal.returns-clause-answers
returns-clause-answers g c =
    let old = c.args.connection.now in
    let new = c.visit_rows.new.connection in
    let sql = c.text.result.now in
    let params = bound c.as_slice.result.now in
    let IsAnswer : List Row → Type 0 = Lists (order_of c.args.query)
    (rows_of c.args.query (tables_of (state g.S.Store old).now.trees)) in
    let known : Selects sql params (order_of c.args.query) (rows_of c.args.query) =
    rw (c.as_slice.ensures, c.params.ensures) c.text.ensures in
    let start : HasCleanDisk (state g.S.Store new) → HasCleanDisk (state g.S.Store old) = λ clean.
    omega (arith, clean, c.visit_rows.ensures.answers.reads.doubt) in record {
      value = λ clean. if_handed g.S.Store old new sql params IsDesk IsAnswer
          (g.T.RowVisitor.has_taken c.visit_rows.new.visitor) c.requires.ready.shown (start clean)
          (selected _ _ _ _ known (state g.S.Store old) (state g.S.Store new)) c.visit_rows.result
          (c.visit_rows.ensures.answers.value clean);
      cause = λ clean live. cut_short_of g.S.Store old new
          (Shown sql params (state g.S.Store old) (state g.S.Store new)) IsAnswer g.T.RowVisitor.refuses
          (λ rows shown. selected _ _ _ _ known (state g.S.Store old) (state g.S.Store new) rows
          (c.requires.ready.shown (start clean)
          (was_open _ _ (state g.S.Store old) (state g.S.Store new) rows shown)) shown)
          c.visit_rows.result (c.visit_rows.ensures.answers.cause clean live);
      reads = c.visit_rows.ensures.answers.reads;
    }
