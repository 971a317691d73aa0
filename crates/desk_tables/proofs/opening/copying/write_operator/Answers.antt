use Rattle.std.proofs.Common.{◌≡◌, ◌∙◌, ap, arith, refl, subst, sym}
use Rattle.sqlite.specs.Held.{state}
use Rattle.desk_sql.specs.Changing.{FitsOperator}
use Rattle.desk_sql.specs.Rows.{AddsOperator, tables_of}
use Rattle.desk_store.specs.World.{Listed}
use Rattle.table_load.specs.Opening.{BlamesReading}
use Rattle.row_codec.specs.Tables.{row_of_operator}
use Rattle.desk_tables.proofs.FillLemmas.{operator_fits, operators_left}
use Rattle.table_load.proofs.lemmas.Opening.{blames_reading, reported_as}
use Rattle.desk_tables.proofs.opening.copying.write_operator.Goals as goal

pub returns-in_err-insert_operator-clause-cause : goal.returns-in_err-insert_operator-clause-cause
returns-in_err-insert_operator-clause-cause g c later all =
    let old = c.args.tx.now.conn.now in
    let new = c.insert_operator.new.tx.conn.now in
    let ceiling = c.listed.inside.ceiling in
    let is : (record { name = c.as_str.result.now; ceiling = ceiling }) ≡ c.args.listed.now =
    ap (λ n. record { name = n; ceiling = ceiling }) c.as_str.ensures.value ∙ c.listed.view_is in
    reported_as (BlamesReading g.S.Store old new) c.from_residual.result _ c.from_residual.ensures.1
    (blames_reading g.S.Store old old new c.in_err-insert_operator.field-0.0 (omega arith) refl
    (λ clean live. c.in_err-insert_operator.ensures.changed.cause c.requires.under_way
    (subst (λ (l : Listed). FitsOperator l.name (row_of_operator l) (state g.S.Store old).now) (sym is)
    (operator_fits c.args.listed.now later (state g.S.Store old).now all)) clean))

pub returns-clause-left : goal.returns-clause-left
returns-clause-left g c later all clean =
    let old = c.args.tx.now.conn.now in
    let new = c.insert_operator.new.tx.conn.now in
    let ceiling = c.listed.inside.ceiling in
    let is : (record { name = c.as_str.result.now; ceiling = ceiling }) ≡ c.args.listed.now =
    ap (λ n. record { name = n; ceiling = ceiling }) c.as_str.ensures.value ∙ c.listed.view_is in
    let changed = c.in_ok-insert_operator.ensures.changed in
    operators_left c.args.listed.now later (state g.S.Store old).now all (state g.S.Store new).now
    (subst (λ (l : Listed). AddsOperator (row_of_operator l) (tables_of (state g.S.Store old).now.trees)
    (tables_of (state g.S.Store new).now.trees)) is (changed.done clean).changed)
    (changed.room clean)
