use Rattle.std.proofs.Common.{[], rules, arith, IsTrue}
use Rattle.sqlite.specs.State.{HasCleanDisk}
use Rattle.sqlite.specs.Held.{state}
use Rattle.desk_sql.specs.Effects.{Spares, StaysShown, OnlyReads}
use Rattle.desk_sql.specs.Statements.{IsRefusal}
use Rattle.desk_sql.proofs.lemmas.Read.{open_after, open_if, if_either, sure_plain, unprepared}
use Rattle.desk_sql.proofs.AskLemmas.{refused_unprepared, refused_after}
use Rattle.desk_sql.proofs.lemmas.Leaving.{shown_after, kept_by_query, spared_after, reads_unprepared, reads_prepared}
use Rattle.desk_sql.proofs.reading.asking.select_all.Goals as goal

-- a text that is not prepared
pub returns-in_err-statement-clause-answers : goal.returns-in_err-statement-clause-answers
returns-in_err-statement-clause-answers g c =
    let old = c.args.connection.now in
    let new = c.prepare.new.self in
    let kept : StaysShown g.S.Store old new = λ clean live.
    (if_either g.S.Store old new (c.committed_and_sound.ensures.settled c.requires.ready.settled)
    live (unprepared _ _ _ _ _ (c.in_err-statement.ensures.err clean []))) in
    let reads : OnlyReads g.S.Store old new =
    reads_unprepared g.S.Store old new kept (c.prepare.ensures.mode c.requires.ready.settled)
    c.prepare.ensures.survives in
    let refused : HasCleanDisk (state g.S.Store new) → IsTrue (state g.S.Store new).is_open
    → IsRefusal g.S.Store old new c.in_err-statement.field-0.0 = λ clean live.
    (refused_unprepared g.S.Store old new c.args.query.now [] c.requires.ready.shown
    (omega (arith, c.prepare.ensures.survives.clean, clean)) _
    (c.in_err-statement.ensures.err clean []) live) in
    search (rules, reads, refused)

pub returns-clause-answers : goal.returns-clause-answers
returns-clause-answers g c =
    let old = c.args.connection.now in
    let mid = c.prepare.new.self in
    let new = c.query_all.new.conn in
    let sql = c.args.query.now in
    let text = c.in_ok-statement.statement.text in
    let early : HasCleanDisk (state g.S.Store new) → HasCleanDisk (state g.S.Store mid) = λ clean.
    omega (arith, c.query_all.ensures.survives.clean, clean) in
    let start : HasCleanDisk (state g.S.Store new) → HasCleanDisk (state g.S.Store old) = λ clean.
    omega (arith, c.prepare.ensures.survives.clean, early clean) in
    let kept : StaysShown g.S.Store old new = λ clean live.
    (let it = c.in_ok-statement.ensures.ok (early clean) in
    kept_by_query g.S.Store old mid new sql text [] (start clean)
    (λ live. sure_plain _ sql [] (c.requires.ready.shown (start clean) live)) it.1 it.0
    (c.committed_and_sound.ensures.settled c.requires.ready.settled)
    (λ v. v.items) c.query_all.result (c.query_all.ensures.ok clean) (c.query_all.ensures.err clean) live) in
    let spared : Spares g.S.Store old new =
    spared_after g.S.Store old mid new sql text []
    (λ whole live. sure_plain _ sql [] (c.requires.ready.shown whole live))
    c.in_ok-statement.ensures.ok c.prepare.ensures.survives c.query_all.ensures.survives in record {
      value = λ clean.
          let it = c.in_ok-statement.ensures.ok (early clean) in
          shown_after g.S.Store old mid new sql text [] (start clean)
          (λ live. sure_plain _ sql [] (c.requires.ready.shown (start clean) live)) it.1 it.0
          (λ v. v.items) c.query_all.result (c.query_all.ensures.ok clean);
      cause = λ clean live.
          let it = c.in_ok-statement.ensures.ok (early clean) in
          refused_after g.S.Store old mid new sql text c.requires.ready.shown (start clean) (early clean)
          it.1 it.0 c.prepare.ensures.survives c.query_all.result (c.query_all.ensures.err clean) live;
      reads = reads_prepared g.S.Store old mid new _ kept
          (c.query_all.ensures.mode (c.prepare.ensures.mode c.requires.ready.settled)) spared
          c.prepare.ensures.survives c.query_all.ensures.survives;
    }

pub returns-clause-open : goal.returns-clause-open
returns-clause-open g c clean =
    open_if (λ v. v.items) c.args.query.now _ (state g.S.Store c.args.connection.now)
    (state g.S.Store c.query_all.new.conn) c.query_all.result ((returns-clause-answers g c).value clean)

pub returns-clause-live : goal.returns-clause-live
returns-clause-live g c =
    open_after (λ v. v.items) c.args.query.now [] (state g.S.Store c.args.connection.now)
    (state g.S.Store c.query_all.new.conn) c.query_all.result (returns-clause-answers g c).value
