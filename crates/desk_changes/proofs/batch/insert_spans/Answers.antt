use Rattle.std.proofs.Common.{◌≡◌, refl, map, take, length, subst, ◌∙◌, ◌+◌, arith}
use Rattle.std.proofs.lemmas.List.{map_more, take_all}
use Rattle.sqlite.specs.State.{HasCleanDisk}
use Rattle.sqlite.specs.Held.{state}
use Rattle.desk_changes.specs.RowChanges.{span_row_in, AddsSpans, AreNewSpans, TakesRoom}
use Rattle.desk_sql.specs.Statements.{IsRefusal}
use Rattle.desk_changes.proofs.BatchLemmas.{begins, goes_on, no_spans, more_spans, refused_on, way_on, all_changed, refused_changed, HasAdded}
use Rattle.desk_changes.proofs.NewRows.{takes_none, takes_both, span_fits}
use Rattle.desk_changes.proofs.batch.insert_spans.Goals as goal

pub rows-init : goal.rows-init
rows-init g c = (
  refl,
  begins g.S.Store c.args.tx.now.conn.now
      (AddsSpans (map span_row_in (take 0 c.args.rows.now))) no_spans c.requires.under_way,
  λ clean. takes_none (state g.S.Store c.args.tx.now.conn.now).now.trees,
)

pub execute-requires : goal.execute-requires
execute-requires g c = record { desk = λ clean live. (c.rows.invariant.1.made clean).desk }

pub rows-preserved : goal.rows-preserved
rows-preserved g c =
    let rows = c.args.rows.now in
    let at = c.rows.row-index in (
      c.execute.ensures.same_reference ∙ c.rows.invariant.0,
      goes_on g.S.Store c.args.tx.now.conn.now c.rows.tx.conn.now c.execute.new.tx.conn.now
          (AddsSpans (map span_row_in (take at rows))) _ (AddsSpans (map span_row_in (take (at + 1) rows)))
          (more_spans (map span_row_in (take at rows)) _ (map span_row_in (take (at + 1) rows))
          (map_more span_row_in rows at _ c.rows-test.true))
          c.rows.invariant.1 c.execute.ensures.changed.remembered
          c.in_ok-execute.ensures.changed.done,
      λ clean. takes_both 0 0 at 0 0 1 (state g.S.Store c.args.tx.now.conn.now).now.trees
          (state g.S.Store c.rows.tx.conn.now).now.trees
          (state g.S.Store c.execute.new.tx.conn.now).now.trees
          (c.rows.invariant.2 (omega (arith, c.execute.ensures.changed.remembered.doubt, clean)))
          (c.in_ok-execute.ensures.changed.room clean),
    )

pub returns-in_err-execute-clause-changed : goal.returns-in_err-execute-clause-changed
returns-in_err-execute-clause-changed g c =
    let old = c.args.tx.now.conn.now in
    let mid = c.rows.tx.conn.now in
    let new = c.execute.new.tx.conn.now in
    let rows = c.args.rows.now in
    let at = c.rows.row-index in
    let changes = AddsSpans (map span_row_in (take at rows)) in
    let refused : AreNewSpans (map span_row_in rows) (state g.S.Store old).now
    → HasCleanDisk (state g.S.Store new) → IsRefusal g.S.Store old new c.in_err-execute.field-0.0 =
    λ are_new clean.
    (let early : HasCleanDisk (state g.S.Store mid) =
    omega (arith, c.execute.ensures.changed.remembered.doubt, clean) in
    refused_on g.S.Store old mid new changes c.rows.invariant.1 _
    (c.in_err-execute.ensures.changed.cause (way_on g.S.Store old mid changes c.rows.invariant.1)
    (span_fits rows at _ (state g.S.Store old).now (state g.S.Store mid).now are_new c.rows-test.true
    (c.rows.invariant.1.made early).changed (c.rows.invariant.2 early)) clean)) in
    refused_changed g.S.Store old mid new c.from_residual.result _ c.from_residual.ensures.1
    c.rows.invariant.1 c.execute.ensures.changed.remembered c.in_err-execute.ensures.changed.undone refused

pub returns-clause-changed : goal.returns-clause-changed
returns-clause-changed g c =
    let old = c.args.tx.now.conn.now in
    let new = c.rows.tx.conn.now in
    let rows = c.args.rows.now in
    let at = c.rows.row-index in
    let all : take at rows ≡ rows = take_all at rows (omega (arith, c.rows-test.false)) in
    let count : at ≡ length rows = omega arith in
    all_changed g.S.Store old new
    (subst (λ xs. HasAdded g.S.Store old new (AddsSpans (map span_row_in xs))) all c.rows.invariant.1)
    (subst (λ n. HasCleanDisk (state g.S.Store new) → TakesRoom 0 0 n (state g.S.Store old).now.trees
    (state g.S.Store new).now.trees) count c.rows.invariant.2)
