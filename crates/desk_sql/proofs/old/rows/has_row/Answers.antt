use Rattle.std.proofs.Common.{arith}
use Rattle.sqlite.specs.Held.{state}
use Rattle.desk_sql.proofs.AskLemmas.{all_selected}
use Rattle.desk_sql.proofs.old_tables.RowLemmas.{some_shown}
use Rattle.desk_sql.proofs.lemmas.Read.{was_open}
use Rattle.desk_sql.proofs.old.rows.has_row.Goals as goal

pub visit_rows-requires-clause-ready : goal.visit_rows-requires-clause-ready
visit_rows-requires-clause-ready g c = record {
  settled = c.requires.ready.settled;
  shown = λ clean live.
      c.rowids_text.ensures.sure (state g.S.Store c.args.connection.now).now
      (c.requires.ready.shown clean live);
}

pub returns-in-Ok-clause-answers : goal.returns-in-Ok-clause-answers
returns-in-Ok-clause-answers g c =
    let old = state g.S.Store c.args.connection.now in
    let new = state g.S.Store c.visit_rows.new.connection in
    let a = c.in-Ok.ensures.answers in record {
      value = λ clean.
          let (rows, shown, is) = a.value clean in
          some_shown _ rows _ is
          (all_selected c.args.table _ _ _ c.rowids_text.ensures old new rows
          (c.requires.ready.shown (omega (arith, a.reads.doubt, clean)) (was_open _ _ old new rows shown)) shown);
      cause = λ clean live. tt;
      reads = a.reads;
    }
