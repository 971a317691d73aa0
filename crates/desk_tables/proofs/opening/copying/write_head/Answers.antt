use Rattle.std.proofs.Common.{◌≡◌, ◌∙◌, ap, arith, refl, subst, sym}
use Rattle.sqlite.specs.Held.{state}
use Rattle.desk_sql.specs.Rows as sql
use Rattle.desk_sql.specs.Rows.{AddsPlan, tables_of}
use Rattle.desk_store.specs.World.{Filed}
use Rattle.table_load.specs.Opening.{BlamesReading}
use Rattle.row_codec.specs.Tables.{aircraft_number, id_text, row_of_plan, usage_number}
use Rattle.desk_tables.proofs.FillLemmas.{head_fits, heads_left}
use Rattle.table_load.proofs.lemmas.Opening.{blames_reading, reported_as}
use Rattle.desk_tables.proofs.opening.copying.write_head.Goals as goal

pub returns-in_err-insert_plan-clause-cause : goal.returns-in_err-insert_plan-clause-cause
returns-in_err-insert_plan-clause-cause g c later all =
    let p = c.args.plan.now in
    let old = c.args.tx.now.conn.now in
    let new = c.insert_plan.new.tx.conn.now in
    let name : c.as_str.result.now ≡ p.operator =
    c.as_str.ensures.value ∙ ap (λ (q : Filed). q.operator) c.plan.view_is in
    let text : c.encode.result.now ≡ id_text p.row.id =
    c.encode.ensures.text ∙ ap (λ (q : Filed). id_text q.row.id) c.plan.view_is in
    let usage : c.usage_number.result ≡ usage_number p.row.usage =
    c.usage_number.ensures ∙ ap (λ (q : Filed). usage_number q.row.usage) c.plan.view_is in
    let aircraft : c.aircraft_number.result ≡ aircraft_number p.row.aircraft =
    c.aircraft_number.ensures ∙ ap (λ (q : Filed). aircraft_number q.row.aircraft) c.plan.view_is in
    let priority : c.plan.inside.row.priority ≡ p.row.priority =
    ap (λ (q : Filed). q.row.priority) c.plan.view_is in
    let row : sql.plan_row c.as_str.result.now c.encode.result.now c.plan.inside.row.priority
    c.usage_number.result c.aircraft_number.result ≡ row_of_plan p =
    λ i. sql.plan_row (name i) (text i) (priority i) (usage i) (aircraft i) in
    reported_as (BlamesReading g.S.Store old new) c.from_residual.result _ c.from_residual.ensures.1
    (blames_reading g.S.Store old old new c.in_err-insert_plan.field-0.0 (omega arith) refl
    (λ clean live. c.in_err-insert_plan.ensures.changed.cause c.requires.under_way
    (head_fits p later (state g.S.Store old).now all _ _ _ name text row) clean))

pub returns-clause-left : goal.returns-clause-left
returns-clause-left g c later all clean =
    let p = c.args.plan.now in
    let old = c.args.tx.now.conn.now in
    let new = c.insert_plan.new.tx.conn.now in
    let name : c.as_str.result.now ≡ p.operator =
    c.as_str.ensures.value ∙ ap (λ (q : Filed). q.operator) c.plan.view_is in
    let text : c.encode.result.now ≡ id_text p.row.id =
    c.encode.ensures.text ∙ ap (λ (q : Filed). id_text q.row.id) c.plan.view_is in
    let usage : c.usage_number.result ≡ usage_number p.row.usage =
    c.usage_number.ensures ∙ ap (λ (q : Filed). usage_number q.row.usage) c.plan.view_is in
    let aircraft : c.aircraft_number.result ≡ aircraft_number p.row.aircraft =
    c.aircraft_number.ensures ∙ ap (λ (q : Filed). aircraft_number q.row.aircraft) c.plan.view_is in
    let priority : c.plan.inside.row.priority ≡ p.row.priority =
    ap (λ (q : Filed). q.row.priority) c.plan.view_is in
    let row : sql.plan_row c.as_str.result.now c.encode.result.now c.plan.inside.row.priority
    c.usage_number.result c.aircraft_number.result ≡ row_of_plan p =
    λ i. sql.plan_row (name i) (text i) (priority i) (usage i) (aircraft i) in
    let changed = c.in_ok-insert_plan.ensures.changed in
    heads_left p later (state g.S.Store old).now all (state g.S.Store new).now
    (subst (λ r. AddsPlan r (tables_of (state g.S.Store old).now.trees)
    (tables_of (state g.S.Store new).now.trees)) row (changed.done clean).changed)
    (changed.room clean)
