use Rattle.std.proofs.Common.{arith, [], ◌∷◌, ◌++◌, sym, ap, map, take, rules, ◌∙◌, ◌+◌}
use Rattle.sqlite.specs.State.{KeepsCommit}
use Rattle.sqlite.specs.Held.{state}
use Rattle.std.specs.String.{string_bytes}
use Rattle.std.proofs.lemmas.List.{map_more}
use Rattle.desk_sql.specs.Rows.{RemovesPlan}
use Rattle.desk_changes.specs.RowChanges.{RemovesPlans, key_row}
use Rattle.desk_sql.specs.Statements.{IsRefusal}
use Rattle.desk_sql.proofs.lemmas.Stop.{refused_unprepared}
use Rattle.desk_changes.proofs.BatchLemmas.{begins_prepared, goes_on, keeps_unprepared, refused_on, way_on}
use Rattle.desk_changes.proofs.ClearLemmas.{none_removed, one_removed}
use Rattle.desk_sql.proofs.lemmas.Leaving.{remembers_then}
use Rattle.desk_changes.proofs.batch.remove_plans.Goals as goal

pub returns-in_err-prepare-clause-undone : goal.returns-in_err-prepare-clause-undone
returns-in_err-prepare-clause-undone g c clean =
    let it : KeepsCommit (state g.S.Store c.args.tx.now.conn.now)
    (state g.S.Store c.prepare.new.self.conn.now) =
    keeps_unprepared _ _ _ [] _ (c.in_err-prepare.ensures.err clean []) in
    search (rules, it)

pub ids-init : goal.ids-init
ids-init g c = (
  c.prepare.ensures.same_reference,
  begins_prepared g.S.Store c.args.tx.now.conn.now c.prepare.new.self.conn.now
      (RemovesPlans c.args.operator.now (map string_bytes (take 0 c.args.ids.now)))
      (none_removed c.args.operator.now) c.requires.desk c.requires.sound c.requires.begun
      (λ clean. (c.in_ok-prepare.ensures.ok clean).1) c.prepare.ensures.survives,
)

pub ids-preserved : goal.ids-preserved
ids-preserved g c =
    let ids = c.args.ids.now in
    let at = c.ids.id-index in (
      c.remove_plan_by_id.ensures.same_reference ∙ c.ids.invariant.0,
      goes_on g.S.Store c.args.tx.now.conn.now c.ids.tx.conn.now c.remove_plan_by_id.new.tx.conn.now
          (RemovesPlans c.args.operator.now (map string_bytes (take at ids)))
          (RemovesPlan c.args.operator.now (string_bytes c.id-item.result))
          (RemovesPlans c.args.operator.now (map string_bytes (take (at + 1) ids)))
          (one_removed c.args.operator.now (map string_bytes (take at ids)) _
          (map string_bytes (take (at + 1) ids))
          (map_more string_bytes ids at _ c.ids-test.true
          ∙ ap (λ id. map string_bytes (take at ids) ++ id ∷ []) (sym (ap string_bytes c.id-item.is))))
          c.ids.invariant.1 c.remove_plan_by_id.ensures.changed.remembered
          c.in_ok-remove_plan_by_id.ensures.changed.done,
    )

pub returns-in_err-prepare-clause-cause : goal.returns-in_err-prepare-clause-cause
returns-in_err-prepare-clause-cause g c clean live =
    let it : IsRefusal g.S.Store c.args.tx.now.conn.now c.prepare.new.self.conn.now
    c.in_err-prepare.field-0.0 =
    refused_unprepared g.S.Store c.args.tx.now.conn.now c.prepare.new.self.conn.now
    c.text.result.now _ _ c.text.ensures.sure
    c.requires.desk (omega (arith, c.prepare.ensures.survives.clean, clean)) live _
    (c.in_err-prepare.ensures.err clean (key_row c.args.operator.now [])) in
    search (rules, it)

pub returns-in_err-remove_plan_by_id-clause-cause : goal.returns-in_err-remove_plan_by_id-clause-cause
returns-in_err-remove_plan_by_id-clause-cause g c clean live =
    let it : IsRefusal g.S.Store c.args.tx.now.conn.now c.remove_plan_by_id.new.tx.conn.now
    c.in_err-remove_plan_by_id.field-0.0 =
    refused_on g.S.Store c.args.tx.now.conn.now c.ids.tx.conn.now c.remove_plan_by_id.new.tx.conn.now
    (RemovesPlans c.args.operator.now (map string_bytes (take c.ids.id-index c.args.ids.now)))
    c.ids.invariant.1 c.in_err-remove_plan_by_id.field-0.0
    (c.in_err-remove_plan_by_id.ensures.changed.cause (way_on g.S.Store c.args.tx.now.conn.now c.ids.tx.conn.now
    (RemovesPlans c.args.operator.now (map string_bytes (take c.ids.id-index c.args.ids.now)))
    c.ids.invariant.1) tt clean) in
    search (rules, it)

pub returns-in_err-remove_plan_by_id-clause-remembered : goal.returns-in_err-remove_plan_by_id-clause-remembered
returns-in_err-remove_plan_by_id-clause-remembered g c =
    remembers_then g.S.Store c.args.tx.now.conn.now c.ids.tx.conn.now c.remove_plan_by_id.new.tx.conn.now
    c.ids.invariant.1.remembered c.remove_plan_by_id.ensures.changed.remembered

pub returns-clause-remembered : goal.returns-clause-remembered
returns-clause-remembered g c = c.ids.invariant.1.remembered
