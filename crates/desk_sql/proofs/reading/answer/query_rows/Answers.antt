use Rattle.std.proofs.Common.{arith, rules, IsTrue}
use Rattle.sqlite.specs.Values.{bound}
use Rattle.sqlite.specs.State.{HasCleanDisk}
use Rattle.sqlite.specs.Held.{state}
use Rattle.desk_sql.specs.Effects.{Spares, StaysShown, OnlyReads}
use Rattle.desk_sql.specs.Rows.{tables_of, Lists}
use Rattle.desk_sql.specs.Queries.{params_of, order_of, rows_of}
use Rattle.desk_sql.specs.Statements.{Selects, IsRefusal}
use Rattle.desk_sql.proofs.lemmas.Read.{open_if, if_either, unprepared, selected}
use Rattle.desk_sql.proofs.StatementLemmas.{if_shown}
use Rattle.desk_sql.proofs.lemmas.Leaving.{shown_after, kept_by_query, spared_after, reads_unprepared, reads_prepared}
use Rattle.desk_sql.proofs.HandLemmas.{refused_given}
use Rattle.desk_sql.proofs.AskLemmas.{plain_if, refused_unprepared, sure_here}
use Rattle.desk_sql.proofs.reading.answer.query_rows.Goals as goal

-- a text that is not prepared
pub returns-in_err-statement-clause-answers : goal.returns-in_err-statement-clause-answers
returns-in_err-statement-clause-answers g c =
    let old = c.args.connection.now in
    let new = c.prepare.new.self in
    let kept : StaysShown g.S.Store old new = λ clean live.
    (if_either g.S.Store old new (c.committed_and_sound.ensures.settled c.requires.ready.settled)
    live (unprepared _ _ _ _ _ (c.in_err-statement.ensures.err clean (params_of c.args.query)))) in
    let reads : OnlyReads g.S.Store old new =
    reads_unprepared g.S.Store old new kept (c.prepare.ensures.mode c.requires.ready.settled)
    c.prepare.ensures.survives in
    let refused : HasCleanDisk (state g.S.Store new) → IsTrue (state g.S.Store new).is_open
    → IsRefusal g.S.Store old new c.in_err-statement.field-0.0 = λ clean live.
    (refused_unprepared g.S.Store old new c.text.result.now (params_of c.args.query)
    (sure_here g.S.Store old c.text.result.now (params_of c.args.query) c.requires.ready.shown
    c.text.ensures.sure) (omega (arith, c.prepare.ensures.survives.clean, clean)) _
    (c.in_err-statement.ensures.err clean (params_of c.args.query)) live) in
    search (rules, reads, refused)

pub returns-clause-answers : goal.returns-clause-answers
returns-clause-answers g c =
    let old = c.args.connection.now in
    let mid = c.prepare.new.self in
    let new = c.query_all.new.conn in
    let sql = c.text.result.now in
    let text = c.in_ok-statement.statement.text in
    let params = bound c.as_slice.result.now in
    let early : HasCleanDisk (state g.S.Store new) → HasCleanDisk (state g.S.Store mid) = λ clean.
    omega (arith, c.query_all.ensures.survives.clean, clean) in
    let start : HasCleanDisk (state g.S.Store new) → HasCleanDisk (state g.S.Store old) = λ clean.
    omega (arith, c.prepare.ensures.survives.clean, early clean) in
    let known : Selects sql params (order_of c.args.query) (rows_of c.args.query) =
    rw (c.as_slice.ensures, c.params.ensures) c.text.ensures in
    let sure = sure_here g.S.Store old sql params c.requires.ready.shown known.sure in
    let plain = plain_if g.S.Store old sql params sure in
    let kept : StaysShown g.S.Store old new = λ clean live.
    (let it = c.in_ok-statement.ensures.ok (early clean) in
    kept_by_query g.S.Store old mid new sql text params (start clean) (plain (start clean)) it.1 it.0
    (c.committed_and_sound.ensures.settled c.requires.ready.settled)
    (λ v. v.items) c.query_all.result (c.query_all.ensures.ok clean) (c.query_all.ensures.err clean) live) in
    let spared : Spares g.S.Store old new =
    spared_after g.S.Store old mid new sql text params plain
    c.in_ok-statement.ensures.ok c.prepare.ensures.survives c.query_all.ensures.survives in record {
      value = λ clean.
          let it = c.in_ok-statement.ensures.ok (early clean) in
          if_shown g.S.Store old new (λ v. v.items) _ _
          (Lists (order_of c.args.query)
          (rows_of c.args.query (tables_of (state g.S.Store old).now.trees))) c.requires.ready.shown
          (start clean)
          (selected _ _ _ _ known (state g.S.Store old) (state g.S.Store new)) c.query_all.result
          (shown_after g.S.Store old mid new sql text params (start clean) (plain (start clean)) it.1 it.0
          (λ v. v.items) c.query_all.result (c.query_all.ensures.ok clean));
      cause = λ clean live.
          let it = c.in_ok-statement.ensures.ok (early clean) in
          refused_given g.S.Store sql params old sure mid text it.0 it.1 c.prepare.ensures.survives
          (start clean) new c.query_all.result (c.query_all.ensures.err clean) live;
      reads = reads_prepared g.S.Store old mid new _ kept
          (c.query_all.ensures.mode (c.prepare.ensures.mode c.requires.ready.settled)) spared
          c.prepare.ensures.survives c.query_all.ensures.survives;
    }

pub returns-clause-open : goal.returns-clause-open
returns-clause-open g c clean =
    let early : HasCleanDisk (state g.S.Store c.prepare.new.self) =
    omega (arith, c.query_all.ensures.survives.clean, clean) in
    let start : HasCleanDisk (state g.S.Store c.args.connection.now) =
    omega (arith, c.prepare.ensures.survives.clean, early) in
    let it = c.in_ok-statement.ensures.ok early in
    let sure = sure_here g.S.Store c.args.connection.now c.text.result.now (bound c.as_slice.result.now)
    c.requires.ready.shown (rw (c.as_slice.ensures, c.params.ensures) c.text.ensures.sure) in
    open_if (λ v. v.items) c.text.result.now _ (state g.S.Store c.args.connection.now)
    (state g.S.Store c.query_all.new.conn) c.query_all.result
    (shown_after g.S.Store c.args.connection.now c.prepare.new.self c.query_all.new.conn
    c.text.result.now c.in_ok-statement.statement.text (bound c.as_slice.result.now) start
    (plain_if g.S.Store c.args.connection.now c.text.result.now (bound c.as_slice.result.now) sure start) it.1
    it.0 (λ v. v.items) c.query_all.result (c.query_all.ensures.ok clean))
