use Rattle.std.proofs.Common.{ap, arith, sym, subst, ◌∙◌, map}
use Rattle.std.specs.List.{AllByRecursion}
use Rattle.sqlite.specs.State.{HasCleanDisk}
use Rattle.sqlite.specs.Held.{state}
use Rattle.desk_changes.specs.RowChanges.{IsPuttable, PutsPlan, volume_row_in, cover_of, span_row_in}
use Rattle.desk_store.specs.Changes.{filed_by}
use Rattle.desk_store.specs.declared.change.Change.TheVariants.{Put}
use Rattle.desk_tables.specs.Store.{IsNext}
use Rattle.row_codec.specs.Tables.{usage_number, aircraft_number, area_rows, area_covers, ArePlanSpanRows}
use Rattle.desk_store.specs.World.{IsValidVolume}
use Rattle.row_codec.specs.SpanBounds.{IsKnownRow}
use Rattle.desk_store.proofs.lemmas.Parse.{parsed_id}
use Rattle.desk_tables.proofs.ParseLemmas.{parsed_short}
use Rattle.row_codec.proofs.lemmas.SpanBound.{plan_near}
use Rattle.desk_tables.proofs.CauseLemmas.{on_refused}
use Rattle.desk_tables.proofs.PutLemmas.{put_as}
use Rattle.desk_tables.proofs.PuttableLemmas.{puttable}
use Rattle.desk_tables.proofs.AfterLemmas.{committed_as, followed, followed_blamed, followed_value, made_put}
use Rattle.desk_tables.proofs.tables.DeskTables.put.Goals as goal

pub invariant_of-self : goal.invariant_of-self
invariant_of-self g c =
    let old = c.self.inside.connection in
    let new = c.put_plan-committed.new.connection in
    let w = c.self.inside.kept.world in
    let operator = c.args.operator.now in
    let row = c.args.row.now in
    let change = Put operator row in
    let next = subst (λ t. IsNext g.S.Store t c.args.next.world change) (sym c.self.view_is) c.requires in
    let text = c.encode-id.result.now in
    let volumes = map volume_row_in c.deref-3.result.now in
    let covers = map cover_of c.deref-3.result.now in
    let spans = map span_row_in c.deref-4.result.now in
    (followed g.S.Store old new w c.advance_if_committed.new.kept.world c.args.next.world c.bounds_with_rows-after.result change
    c.put_plan-committed.result c.advance_if_committed.result
    (made_put g.S.Store old new w c.self.invariant _ operator row text volumes covers spans
    c.encode-id.ensures.text
    (ap (map volume_row_in) c.deref-3.ensures.value ∙ c.in_ok-volumes.ensures.volumes
    ∙ ap (λ name. area_rows (filed_by name row)) c.as_str.ensures.value)
    (ap (map cover_of) c.deref-3.ensures.value ∙ c.in_ok-volumes.ensures.covers
    ∙ ap (λ name. area_covers (filed_by name row)) c.as_str.ensures.value)
    (subst (ArePlanSpanRows (filed_by operator row)) (sym (ap (map span_row_in) c.deref-4.ensures.value))
    (subst (λ name. ArePlanSpanRows (filed_by name row) (map span_row_in c.in_ok-spans.spans.items))
    c.as_str-2.ensures.value c.in_ok-spans.ensures))
    (record {
      id = parsed_id text row.id c.encode-id.ensures.parsed;
      volumes = c.volumes.ensures.limits;
      each = subst (AllByRecursion IsValidVolume) c.volumes.ensures.value c.in_ok-asked.ensures.valid;
    })
    (committed_as (λ name. PutsPlan (put_as name text row.priority (usage_number row.usage)
    (aircraft_number row.aircraft) volumes covers spans)) c.as_str-3.ensures.value
    (committed_as (λ usage. PutsPlan (put_as c.as_str-3.result.now text row.priority usage
    (aircraft_number row.aircraft) volumes covers spans)) c.usage_number.ensures
    (committed_as (λ aircraft. PutsPlan (put_as c.as_str-3.result.now text row.priority c.usage_number.result
    aircraft volumes covers spans)) c.aircraft_number.ensures
    c.put_plan-committed.ensures.committed))) next.fits)
    c.advance_if_committed.ensures next.world).0

pub returns-clause-made : goal.returns-clause-made
returns-clause-made g c =
    let old = c.self.inside.connection in
    let new = c.put_plan-committed.new.connection in
    let w = c.self.inside.kept.world in
    let operator = c.args.operator.now in
    let row = c.args.row.now in
    let change = Put operator row in
    let next = subst (λ t. IsNext g.S.Store t c.args.next.world change) (sym c.self.view_is) c.requires in
    let text = c.encode-id.result.now in
    let volumes = map volume_row_in c.deref-3.result.now in
    let covers = map cover_of c.deref-3.result.now in
    let spans = map span_row_in c.deref-4.result.now in
    rw (← c.self.view_is) (followed g.S.Store old new w c.advance_if_committed.new.kept.world c.args.next.world
    c.bounds_with_rows-after.result change c.put_plan-committed.result c.advance_if_committed.result
    (made_put g.S.Store old new w c.self.invariant _ operator row text volumes covers spans
    c.encode-id.ensures.text
    (ap (map volume_row_in) c.deref-3.ensures.value ∙ c.in_ok-volumes.ensures.volumes
    ∙ ap (λ name. area_rows (filed_by name row)) c.as_str.ensures.value)
    (ap (map cover_of) c.deref-3.ensures.value ∙ c.in_ok-volumes.ensures.covers
    ∙ ap (λ name. area_covers (filed_by name row)) c.as_str.ensures.value)
    (subst (ArePlanSpanRows (filed_by operator row)) (sym (ap (map span_row_in) c.deref-4.ensures.value))
    (subst (λ name. ArePlanSpanRows (filed_by name row) (map span_row_in c.in_ok-spans.spans.items))
    c.as_str-2.ensures.value c.in_ok-spans.ensures))
    (record {
      id = parsed_id text row.id c.encode-id.ensures.parsed;
      volumes = c.volumes.ensures.limits;
      each = subst (AllByRecursion IsValidVolume) c.volumes.ensures.value c.in_ok-asked.ensures.valid;
    })
    (committed_as (λ name. PutsPlan (put_as name text row.priority (usage_number row.usage)
    (aircraft_number row.aircraft) volumes covers spans)) c.as_str-3.ensures.value
    (committed_as (λ usage. PutsPlan (put_as c.as_str-3.result.now text row.priority usage
    (aircraft_number row.aircraft) volumes covers spans)) c.usage_number.ensures
    (committed_as (λ aircraft. PutsPlan (put_as c.as_str-3.result.now text row.priority c.usage_number.result
    aircraft volumes covers spans)) c.aircraft_number.ensures
    c.put_plan-committed.ensures.committed))) next.fits)
    c.advance_if_committed.ensures next.world).1

pub returns-clause-known : goal.returns-clause-known
returns-clause-known g c =
    let operator = c.args.operator.now in
    let row = c.args.row.now in
    let after = c.bounds_with_rows-after.result in
    let spans = map span_row_in c.in_ok-spans.spans.items in
    followed_value _ c.self.inside.kept.world c.advance_if_committed.new.kept.world c.args.next.world after
    c.put_plan-committed.result c.advance_if_committed.result c.advance_if_committed.ensures (
      c.bounds_with_rows-after.ensures.kept,
      plan_near c.one_list_of_ranges.ensures after (filed_by operator row) spans
          (subst (λ name. ArePlanSpanRows (filed_by name row) spans) c.as_str-2.ensures.value
          c.in_ok-spans.ensures)
          (subst (λ records. AllByRecursion (IsKnownRow after) (map span_row_in records))
          c.deref-5.ensures.value c.bounds_with_rows-after.ensures.known),
    )

pub returns-clause-cause : goal.returns-clause-cause
returns-clause-cause g c =
    rw (← c.self.view_is) (λ room.
    (let old = c.self.inside.connection in
    let new = c.put_plan-committed.new.connection in
    let w = c.self.inside.kept.world in
    let operator = c.args.operator.now in
    let row = c.args.row.now in
    let change = Put operator row in
    let next = subst (λ t. IsNext g.S.Store t c.args.next.world change) (sym c.self.view_is) c.requires in
    let text = c.encode-id.result.now in
    let volumes = map volume_row_in c.deref-3.result.now in
    let covers = map cover_of c.deref-3.result.now in
    let spans = map span_row_in c.deref-4.result.now in
    let committed = c.put_plan-committed.ensures.committed in
    followed_blamed g.S.Store old new w c.advance_if_committed.new.kept.world c.args.next.world c.bounds_with_rows-after.result
    c.put_plan-committed.result c.advance_if_committed.result c.self.invariant.unlimited c.advance_if_committed.ensures
    (λ clean live. on_refused _ c.put_plan-committed.result committed.kept (λ kept.
    (let early : HasCleanDisk (state g.S.Store old) = omega (arith, committed.over.doubt, clean) in
    let stood = c.self.invariant.standing early (kept clean live).was_open in
    let it = puttable c.covers_are_few.ensures operator row text volumes covers spans
    w (state g.S.Store old).now row.priority c.usage_number.result
    c.aircraft_number.result c.encode-id.ensures.text
    (ap (map volume_row_in) c.deref-3.ensures.value ∙ c.in_ok-volumes.ensures.volumes
    ∙ ap (λ name. area_rows (filed_by name row)) c.as_str.ensures.value)
    (ap (map cover_of) c.deref-3.ensures.value ∙ c.in_ok-volumes.ensures.covers
    ∙ ap (λ name. area_covers (filed_by name row)) c.as_str.ensures.value)
    (subst (ArePlanSpanRows (filed_by operator row)) (sym (ap (map span_row_in) c.deref-4.ensures.value))
    (subst (λ name. ArePlanSpanRows (filed_by name row) (map span_row_in c.in_ok-spans.spans.items))
    c.as_str-2.ensures.value c.in_ok-spans.ensures))
    (record {
      id = parsed_id text row.id c.encode-id.ensures.parsed;
      volumes = c.volumes.ensures.limits;
      each = subst (AllByRecursion IsValidVolume) c.volumes.ensures.value c.in_ok-asked.ensures.valid;
    })
    c.as_str.ensures.valid
    (let short = parsed_short text row.id c.encode-id.ensures.parsed in omega (arith, short))
    (next.fits early) stood.tables room in
    committed.cause (subst (λ name. IsPuttable (put_as name text row.priority c.usage_number.result
    c.aircraft_number.result volumes covers spans) (state g.S.Store old).now)
    (sym c.as_str-3.ensures.value) it) clean live)))))
