use Rattle.std.proofs.Common.{◌≡◌, ◌∙◌, ap, arith, map, refl, rules, subst, sym}
use Rattle.std.proofs.lemmas.List.{length-map}
use Rattle.sqlite.specs.State.{HasCleanDisk}
use Rattle.sqlite.specs.Held.{state}
use Rattle.desk_changes.specs.RowChanges.{cover_of, span_row_in, volume_row_in, TakesRoom}
use Rattle.desk_store.specs.Changes.{filed_by}
use Rattle.table_load.specs.Opening.{BlamesReading}
use Rattle.row_codec.specs.Tables.{area_covers, area_rows, ArePlanSpanRows}
use Rattle.table_load.proofs.lemmas.Opening.{blames_reading, kept_on_err, reported_as}
use Rattle.table_load.proofs.lemmas.Writing.{rest_writable, spans_fit, volumes_fit}
use Rattle.table_load.proofs.moving.write_plan.Goals as goal

pub returns-in_err-insert_volumes-clause-cause : goal.returns-in_err-insert_volumes-clause-cause
returns-in_err-insert_volumes-clause-cause g c later all =
    let p = c.args.plan.now in
    let row = c.plan.inside.row in
    let old = c.args.tx.now.conn.now in
    let records = c.deref-3.result.now in
    let rows_are : map volume_row_in records ≡ area_rows p = ap (map volume_row_in) c.deref-3.ensures.value
    ∙ c.in_ok-volumes.ensures.volumes
    ∙ ap (λ name. area_rows (filed_by name row)) c.as_str-operator.ensures.value
    ∙ ap area_rows c.plan.view_is in
    let covers_are : map cover_of records ≡ area_covers p = ap (map cover_of) c.deref-3.ensures.value
    ∙ c.in_ok-volumes.ensures.covers
    ∙ ap (λ name. area_covers (filed_by name row)) c.as_str-operator.ensures.value
    ∙ ap area_covers c.plan.view_is in
    let blames = blames_reading g.S.Store old old c.insert_volumes.new.tx.conn.now
    c.in_err-insert_volumes.field-0.0 (omega arith) refl
    (λ clean live. c.in_err-insert_volumes.ensures.changed.cause c.requires.under_way
    (volumes_fit p later (state g.S.Store old).now all (map volume_row_in records) (map cover_of records)
    rows_are
    covers_are) clean) in
    reported_as (BlamesReading g.S.Store old c.insert_volumes.new.tx.conn.now)
    c.from_residual-in_err-insert_volumes.result _ c.from_residual-in_err-insert_volumes.ensures.1 blames

pub returns-in_err-insert_spans-clause-cause : goal.returns-in_err-insert_spans-clause-cause
returns-in_err-insert_spans-clause-cause g c later all =
    let p = c.args.plan.now in
    let row = c.plan.inside.row in
    let old = c.args.tx.now.conn.now in
    let mid = c.insert_volumes.new.tx.conn.now in
    let new = c.insert_spans.new.tx.conn.now in
    let records = c.deref-3.result.now in
    let spans = c.deref-4.result.now in
    let first = c.insert_volumes.ensures.changed.remembered in
    let goes = c.in_ok-insert_volumes.ensures.changed in
    let own : ArePlanSpanRows p (map span_row_in spans) =
    subst (ArePlanSpanRows p) (sym (ap (map span_row_in) c.deref-4.ensures.value))
    (subst (λ q. ArePlanSpanRows q (map span_row_in c.in_ok-spans.spans.items)) c.plan.view_is
    (subst (λ name. ArePlanSpanRows (filed_by name row) (map span_row_in c.in_ok-spans.spans.items))
    c.as_str-operator.ensures.value c.in_ok-spans.ensures)) in
    let blames = blames_reading g.S.Store old mid new c.in_err-insert_spans.field-0.0 first.faults first.limit
    (λ clean live.
    let early : HasCleanDisk (state g.S.Store mid) =
    omega (arith, c.insert_spans.ensures.changed.remembered.doubt, clean) in
    c.in_err-insert_spans.ensures.changed.cause
    (λ clean. let made = goes.done clean in (made.is_open, made.begun, made.desk, made.sound))
    (spans_fit p later (state g.S.Store old).now all c.one_list_of_ranges.ensures (state g.S.Store mid).now
    (map volume_row_in records) (map cover_of records) _ (map span_row_in spans) own
    (goes.done early).changed (goes.room early)) clean) in
    reported_as (BlamesReading g.S.Store old new) c.from_residual-in_err-insert_spans.result _
    c.from_residual-in_err-insert_spans.ensures.1 blames

pub returns-clause-left : goal.returns-clause-left
returns-clause-left g c later all clean =
    let p = c.args.plan.now in
    let row = c.plan.inside.row in
    let old = c.args.tx.now.conn.now in
    let mid = c.insert_volumes.new.tx.conn.now in
    let new = c.insert_spans.new.tx.conn.now in
    let records = c.deref-3.result.now in
    let spans = c.deref-4.result.now in
    let rows_are : map volume_row_in records ≡ area_rows p = ap (map volume_row_in) c.deref-3.ensures.value
    ∙ c.in_ok-volumes.ensures.volumes
    ∙ ap (λ name. area_rows (filed_by name row)) c.as_str-operator.ensures.value
    ∙ ap area_rows c.plan.view_is in
    let goes = c.in_ok-insert_volumes.ensures.changed in
    let own : ArePlanSpanRows p (map span_row_in spans) =
    subst (ArePlanSpanRows p) (sym (ap (map span_row_in) c.deref-4.ensures.value))
    (subst (λ q. ArePlanSpanRows q (map span_row_in c.in_ok-spans.spans.items)) c.plan.view_is
    (subst (λ name. ArePlanSpanRows (filed_by name row) (map span_row_in c.in_ok-spans.spans.items))
    c.as_str-operator.ensures.value c.in_ok-spans.ensures)) in
    let early : HasCleanDisk (state g.S.Store mid) =
    omega (arith, c.insert_spans.ensures.changed.remembered.doubt, clean) in
    rest_writable p later (state g.S.Store old).now all c.one_list_of_ranges.ensures (state g.S.Store mid).now
    (map volume_row_in records) (map cover_of records) _ (map span_row_in spans) own
    (goes.done early).changed (goes.room early)
    (state g.S.Store new).now rows_are (sym (length-map records volume_row_in))
    (c.in_ok-insert_spans.ensures.changed.done clean).changed
    (subst (λ n. TakesRoom 0 0 n (state g.S.Store mid).now.trees (state g.S.Store new).now.trees)
    (sym (length-map spans span_row_in)) (c.in_ok-insert_spans.ensures.changed.room clean))

pub returns-in_err-insert_spans-clause-added : goal.returns-in_err-insert_spans-clause-added
returns-in_err-insert_spans-clause-added g c = record {
  done = search rules;
  undone = λ clean.
      let made = c.in_ok-insert_volumes.ensures.changed.done
      (omega (arith, c.insert_spans.ensures.changed.remembered.doubt, clean)) in
      let keeps = c.in_err-insert_spans.ensures.changed.undone clean in
      kept_on_err c.from_residual-in_err-insert_spans.result (record {
        was_open = λ live. made.was_open;
        committed = λ live. keeps.committed live ∙ made.committed;
      });
  fault = search rules;
  remembered = search rules;
}

pub returns-clause-added : goal.returns-clause-added
returns-clause-added g c = record {
  done = λ clean.
      let first = c.in_ok-insert_volumes.ensures.changed.done
      (omega (arith, c.insert_spans.ensures.changed.remembered.doubt, clean)) in
      let last = c.in_ok-insert_spans.ensures.changed.done clean in
      record {
        was_open = first.was_open;
        is_open = last.is_open;
        begun = last.begun;
        committed = last.committed ∙ first.committed;
        desk = last.desk;
        beside = last.beside ∙ first.beside;
        sound = last.sound;
        changed = search (rules, first.changed, last.changed);
      };
  undone = search rules;
  fault = search rules;
  remembered = search rules;
}
