use Rattle.std.proofs.Common.{arith}
use Rattle.std.proofs.lemmas.Result.{on_ok_weaker}
use Rattle.sqlite.specs.Held.{state}
use Rattle.desk_sql.proofs.lemmas.Rowid.{numbered_handed, unnumbered_handed}
use Rattle.desk_sql.proofs.opening.numbers.test_rowids.Goals as goal

pub visit_rows-requires-clause-ready : goal.visit_rows-requires-clause-ready
visit_rows-requires-clause-ready g c = record {
  settled = c.requires.ready.settled;
  shown = λ clean live.
      c.rowids_text.ensures.sure (state g.S.Store c.args.connection.now).now
      (c.requires.ready.shown clean live);
}

pub returns-in-Ok-clause-numbered : goal.returns-in-Ok-clause-numbered
returns-in-Ok-clause-numbered g c =
    let rowids = c.visit_rows.new.visitor in
    let a = c.in-Ok.ensures.answers in
    on_ok_weaker c.require_rising.result
    (numbered_handed g.S.Store c.args.connection.now c.visit_rows.new.connection c.rowids_text.result.now
    c.args.table c.rowids_text.ensures c.requires.ready.shown a.reads rowids.rise rowids.last a.value)
    c.require_rising.ensures.rising

pub returns-in-Ok-clause-cause : goal.returns-in-Ok-clause-cause
returns-in-Ok-clause-cause g c clean live =
    let rowids = c.visit_rows.new.visitor in
    let a = c.in-Ok.ensures.answers in
    unnumbered_handed g.S.Store c.args.connection.now c.visit_rows.new.connection c.rowids_text.result.now
    c.args.table c.rowids_text.ensures c.requires.ready.shown (omega (arith, a.reads.doubt, clean))
    (c.in-Ok.ensures.open clean) rowids.rise rowids.last (a.value clean) c.require_rising.result
    c.require_rising.ensures.broken c.require_rising.ensures.code
