use Rattle.std.proofs.Common.{◌≡◌, List, [], arith, sym, subst, ◌∙◌, ap, true}
use Rattle.sqlite.specs.Held.{state}
use Rattle.sqlite.specs.Order.{Row}
use Rattle.sqlite.specs.State.{HasCleanDisk, Shown}
use Rattle.desk_sql.specs.Effects.{Holds}
use Rattle.desk_sql.specs.Queries.{table_read, table_in, key_cells, rows_read}
use Rattle.desk_sql.specs.Rows.{Lists, tables_at}
use Rattle.desk_sql.specs.Schema.{HasTable, has_table, is_packed}
use Rattle.desk_sql.proofs.AskLemmas.{all_selected, read_as}
use Rattle.desk_sql.proofs.HandLemmas.{cut_short_of}
use Rattle.desk_sql.proofs.lemmas.Read.{was_open}
use Rattle.desk_sql.proofs.SchemaLemmas.{has_made}
use Rattle.desk_sql.proofs.TakingLemmas.{if_handed}
use Rattle.desk_sql.proofs.reading.whole.each_row.Goals as goal

pub visit_rows-requires-clause-ready : goal.visit_rows-requires-clause-ready
visit_rows-requires-clause-ready g c = record {
  settled = c.requires.ready.settled;
  shown = λ clean live.
      let packed = is_packed c.args.made in
      let db = (state g.S.Store c.args.connection.now).now in
      let there : has_table c.args.made (table_in c.args.whole_table packed) ≡ true =
      ap (has_table c.args.made) (sym (c.table.ensures ∙ ap (table_in c.args.whole_table) c.is_packed.ensures))
      ∙ sym c.has.ensures ∙ c.if-has.true in
      (c.text.ensures packed).sure db
      (has_made c.args.made (table_in c.args.whole_table packed) db there
      (c.requires.ready.shown clean live).schema);
}

pub returns-then-has-clause-answers : goal.returns-then-has-clause-answers
returns-then-has-clause-answers g c =
    let old = c.args.connection.now in
    let new = c.visit_rows.new.connection in
    let packed = is_packed c.args.made in
    let table = table_in c.args.whole_table packed in
    let trees = (state g.S.Store old).now.trees in
    let cells = key_cells (table_read c.args.whole_table) in
    let sql = c.text.result.now in
    let IsAnswer : List Row → Type 0 = Lists cells (rows_read c.args.whole_table (tables_at c.args.made trees)) in
    let there : has_table c.args.made table ≡ true =
    ap (has_table c.args.made) (sym (c.table.ensures ∙ ap (table_in c.args.whole_table) c.is_packed.ensures))
    ∙ sym c.has.ensures ∙ c.if-has.true in
    let start : HasCleanDisk (state g.S.Store new) → HasCleanDisk (state g.S.Store old) = λ clean.
    omega (arith, clean, c.visit_rows.ensures.answers.reads.doubt) in
    let are : (rows : List Row) → HasTable table (state g.S.Store old).now
    → Shown sql [] (state g.S.Store old) (state g.S.Store new) rows → IsAnswer rows = λ rows has shown.
    subst (λ wanted. Lists cells wanted rows)
    (read_as c.args.whole_table c.args.made trees there)
    (all_selected _ _ _ _ (c.text.ensures packed) (state g.S.Store old) (state g.S.Store new) rows has
    shown) in
    let holds : Holds g.S.Store old (HasTable table) = λ clean live.
    has_made c.args.made table (state g.S.Store old).now there (c.requires.ready.shown clean live).schema in
    record {
      value = λ clean. if_handed g.S.Store old new sql [] (HasTable table) IsAnswer
          (g.T.RowVisitor.has_taken c.visit_rows.new.visitor) holds (start clean) are c.visit_rows.result
          (c.visit_rows.ensures.answers.value clean);
      cause = λ clean live. cut_short_of g.S.Store old new
          (Shown sql [] (state g.S.Store old) (state g.S.Store new)) IsAnswer g.T.RowVisitor.refuses
          (λ rows shown. are rows
          (holds (start clean) (was_open _ _ (state g.S.Store old) (state g.S.Store new) rows shown)) shown)
          c.visit_rows.result (c.visit_rows.ensures.answers.cause clean live);
      reads = c.visit_rows.ensures.answers.reads;
    }
