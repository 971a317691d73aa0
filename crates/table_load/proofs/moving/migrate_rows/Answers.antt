use Rattle.sqlite.specs.State.{HasCleanDisk}
use Rattle.sqlite.specs.Held.{state}
use Rattle.table_load.specs.Opening.{AreWritable, BlamesReading, open_fault_of}
use Rattle.table_load.proofs.OrderingLemmas.{writable_moved}
use Rattle.std.proofs.Common.{◌≡◌, arith, inl, inr, refl, rules, subst}
use Rattle.desk_sql.specs.Effects.{IsUnderWay, MayMake}
use Rattle.table_load.specs.Moving.{AddsPlansRows, MovesRows, RemovesOldRows}
use Rattle.table_load.proofs.lemmas.Cut.{both_leave, moves_rows}
use Rattle.table_load.proofs.lemmas.Opening.{blames_reading, reported_as}
use Rattle.table_load.proofs.moving.migrate_rows.Goals as goal

pub returns-in_err-write_plans-clause-cause : goal.returns-in_err-write_plans-clause-cause
returns-in_err-write_plans-clause-cause g c awaited =
    let plans = c.args.plans.now in
    let mid = c.empty_old_tables.new.tx.conn.now in
    let fits : HasCleanDisk (state g.S.Store mid) → AreWritable plans (state g.S.Store mid).now =
    writable_moved g.S.Store plans c.args.connection.now c.transaction-tx.result.conn.now mid
    c.covers_are_few.ensures c.transaction-tx.ensures.begun awaited c.in_ok-empty_old_tables.ensures.done
    c.empty_old_tables.ensures.remembered in
    search (rules, fits)

pub returns-clause-crash : goal.returns-clause-crash
returns-clause-crash g c =
    let plans = c.args.plans.now in
    let old = c.args.connection.now in
    let mid = c.empty_old_tables.new.tx.conn.now in
    let last = c.write_plans.new.tx.conn.now in
    let same : c.commit.new.self.0 ≡ c.connection-2-1.given.0 = search rules in
    subst (λ held. MayMake g.S.Store old held (MovesRows plans)) same
    (both_leave g.S.Store old c.transaction-tx.result.conn.now mid last c.commit.new.self.0 RemovesOldRows
    (AddsPlansRows plans) (MovesRows plans) (moves_rows plans) c.transaction-tx.ensures.begun
    c.in_ok-empty_old_tables.ensures.done c.empty_old_tables.ensures.remembered
    c.in_ok-write_plans.ensures.added.done c.write_plans.ensures.added.remembered c.commit.ensures.survives)

pub returns-in_err-commit-clause-crash : goal.returns-in_err-commit-clause-crash
returns-in_err-commit-clause-crash g c =
    let plans = c.args.plans.now in
    let old = c.args.connection.now in
    let mid = c.empty_old_tables.new.tx.conn.now in
    let last = c.write_plans.new.tx.conn.now in
    let same : c.commit.new.self.0 ≡ c.connection-2-1.given.0 = search rules in
    subst (λ held. MayMake g.S.Store old held (MovesRows plans)) same
    (both_leave g.S.Store old c.transaction-tx.result.conn.now mid last c.commit.new.self.0 RemovesOldRows
    (AddsPlansRows plans) (MovesRows plans) (moves_rows plans) c.transaction-tx.ensures.begun
    c.in_ok-empty_old_tables.ensures.done c.empty_old_tables.ensures.remembered
    c.in_ok-write_plans.ensures.added.done c.write_plans.ensures.added.remembered c.commit.ensures.survives)

pub returns-in_err-empty_old_tables-clause-cause : goal.returns-in_err-empty_old_tables-clause-cause
returns-in_err-empty_old_tables-clause-cause g c awaited =
    let old = c.args.connection.now in
    let begun = c.transaction-tx.result.conn.now in
    let mid = c.empty_old_tables.new.tx.conn.now in
    let end = c.drop-tx.new.self.0 in
    let error = c.in_err-empty_old_tables.field-0.0 in
    let over = c.drop-tx.ensures in
    let same : end ≡ c.connection-1.given.0 = search rules in
    let blames : BlamesReading g.S.Store old end (open_fault_of error) =
    λ clean live reported.
    let early : HasCleanDisk (state g.S.Store mid) = omega (arith, over.survives.clean, clean) in
    let was_live = (over.undone clean).was_open live in
    let began = (c.in_err-empty_old_tables.ensures.undone early).was_open was_live in
    let under : IsUnderWay g.S.Store begun = search (rules, began, c.requires.ready.shown, c.committed_and_sound.ensures.sound) in
    elim (blames_reading g.S.Store old begun mid error (search rules) (search rules)
    (λ clean live. c.in_err-empty_old_tables.ensures.cause under clean) early was_live reported) [
      | inl failed ↦ inl (omega (arith, failed, over.survives.counts))
      | inr limited ↦ inr limited
    ] in
    reported_as (BlamesReading g.S.Store old c.connection-1.given.0) c.from_residual.result _
    c.from_residual.ensures.1 (subst (λ held. BlamesReading g.S.Store old held (open_fault_of error)) same blames)
