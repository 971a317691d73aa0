use Rattle.std.proofs.Common.{sym, ◌∙◌}
use Rattle.sqlite.specs.Held.{state}
use Rattle.desk_sql.proofs.SchemaLemmas.{has_made}
use Rattle.desk_sql.proofs.old.rows.has_row_in.Goals as goal

pub has_row-requires : goal.has_row-requires
has_row-requires g c = record {
  ready = record {
    settled = c.requires.ready.settled;
    shown = λ clean live.
        has_made c.args.made c.args.table (state g.S.Store c.args.connection.now).now
        (sym c.has.ensures ∙ c.if-has.true) (c.requires.ready.shown clean live).schema;
  };
}
