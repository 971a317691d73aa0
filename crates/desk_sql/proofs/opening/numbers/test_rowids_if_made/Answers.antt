use Rattle.std.proofs.Common.{sym, ◌∙◌}
use Rattle.sqlite.specs.Held.{state}
use Rattle.desk_sql.proofs.SchemaLemmas.{has_made}
use Rattle.desk_sql.proofs.opening.numbers.test_rowids_if_made.Goals as goal

pub test_rowids-requires : goal.test_rowids-requires
test_rowids-requires g c = record {
  ready = record {
    settled = c.requires.ready.settled;
    shown = λ clean live.
        has_made c.args.made c.args.table (state g.S.Store c.args.connection.now).now
        (sym c.has.ensures ∙ c.if-has.true) (c.requires.ready.shown clean live);
  };
}
