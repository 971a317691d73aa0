use Rattle.std.proofs.Common.{◌≡◌, arith, sym, ◌∙◌, ap, true}
use Rattle.sqlite.specs.Held.{state}
use Rattle.desk_sql.specs.Schema.{has_table, is_packed}
use Rattle.desk_sql.specs.Queries.{table_read, table_in, key_cells, rows_read}
use Rattle.desk_sql.specs.Rows.{tables_in, Lists}
use Rattle.desk_sql.proofs.AskLemmas.{all_selected, read_at}
use Rattle.desk_sql.proofs.SchemaLemmas.{has_made}
use Rattle.desk_sql.proofs.StatementLemmas.{if_read}
use Rattle.desk_sql.proofs.reading.whole.all_rows.Goals as goal

pub select_all-requires : goal.select_all-requires
select_all-requires g c = record {
  ready = record {
    settled = c.requires.ready.settled;
    shown = λ clean live.
        let packed = is_packed c.args.made in
        let db = (state g.S.Store c.args.connection.now).now in
        let there : has_table c.args.made (table_in c.args.whole_table packed) ≡ true =
        ap (has_table c.args.made) (sym (c.table.ensures ∙ ap (table_in c.args.whole_table) c.is_packed.ensures))
        ∙ sym c.has.ensures ∙ c.if-has.true in
        (c.text.ensures packed).sure db
        (has_made c.args.made (table_in c.args.whole_table packed) db there
        (c.requires.ready.shown clean live).schema);
  };
}

pub returns-then-has-clause-answers : goal.returns-then-has-clause-answers
returns-then-has-clause-answers g c =
    let packed = is_packed c.args.made in
    let table = table_in c.args.whole_table packed in
    let there : has_table c.args.made table ≡ true =
    ap (has_table c.args.made) (sym (c.table.ensures ∙ ap (table_in c.args.whole_table) c.is_packed.ensures))
    ∙ sym c.has.ensures ∙ c.if-has.true in
    let old = state g.S.Store c.args.connection.now in record {
      value = λ clean. read_at c.args.whole_table c.args.made true there (λ v. v.items) old.now.trees c.select_all.result
          (if_read g.S.Store c.args.connection.now c.select_all.new.connection (λ v. v.items) _ _
          (Lists (key_cells (table_read c.args.whole_table))
          (rows_read c.args.whole_table (tables_in packed old.now.trees))) table
          (λ clean live. has_made c.args.made table old.now there (c.requires.ready.shown clean live).schema)
          (omega (arith, c.select_all.ensures.answers.reads.doubt, clean))
          (λ rows has shown. all_selected _ _ _ _ (c.text.ensures packed)
          old (state g.S.Store c.select_all.new.connection) rows has shown) c.select_all.result
          (c.select_all.ensures.answers.value clean));
      cause = c.select_all.ensures.answers.cause;
      reads = c.select_all.ensures.answers.reads;
    }
