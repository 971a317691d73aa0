use Rattle.sqlite.specs.Held.{state}
use Rattle.table_load.proofs.AnyRowLemmas.{none_new}
use Rattle.table_load.proofs.moving.are_new_tables_empty.Goals as goal

pub returns-clause-value : goal.returns-clause-value
returns-clause-value g c = λ clean.
    none_new c.args.made (state g.S.Store c.args.connection.now).now.trees c.in_ok-has_rows.has_rows
    (c.in_ok-has_rows.ensures.answers.value clean)
