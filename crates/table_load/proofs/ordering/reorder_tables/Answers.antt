use Rattle.sqlite.specs.State.{HasCleanDisk}
use Rattle.sqlite.specs.Held.{state}
use Rattle.table_load.specs.Opening.{AreWritable}
use Rattle.table_load.proofs.OrderingLemmas.{writable_anew}
use Rattle.std.proofs.Common.{◌≡◌, rules, subst}
use Rattle.desk_sql.specs.Effects.{MayMake}
use Rattle.desk_sql.specs.Changing.{RemakesTables}
use Rattle.table_load.specs.Moving.{AddsPlansRows, OrdersRows}
use Rattle.table_load.proofs.lemmas.Cut.{both_leave, orders_rows}
use Rattle.table_load.proofs.ordering.reorder_tables.Goals as goal

pub returns-in_err-write_plans-clause-cause : goal.returns-in_err-write_plans-clause-cause
returns-in_err-write_plans-clause-cause g c held =
    let plans = c.args.plans.now in
    let mid = c.rebuild_tables.new.tx.conn.now in
    let fits : HasCleanDisk (state g.S.Store mid) → AreWritable plans (state g.S.Store mid).now =
    writable_anew g.S.Store plans c.args.connection.now c.transaction-tx.result.conn.now mid
    c.covers_are_few.ensures c.transaction-tx.ensures.begun held c.in_ok-rebuild_tables.ensures.ran.done
    c.rebuild_tables.ensures.ran.remembered in
    search (rules, fits)

pub returns-clause-crash : goal.returns-clause-crash
returns-clause-crash g c =
    let plans = c.args.plans.now in
    let old = c.args.connection.now in
    let mid = c.rebuild_tables.new.tx.conn.now in
    let last = c.write_plans.new.tx.conn.now in
    let same : c.commit.new.self.0 ≡ c.connection-2-1.given.0 = search rules in
    subst (λ held. MayMake g.S.Store old held (OrdersRows plans)) same
    (both_leave g.S.Store old c.transaction-tx.result.conn.now mid last c.commit.new.self.0 RemakesTables
    (AddsPlansRows plans) (OrdersRows plans) (orders_rows plans) c.transaction-tx.ensures.begun
    c.in_ok-rebuild_tables.ensures.ran.done c.rebuild_tables.ensures.ran.remembered
    c.in_ok-write_plans.ensures.added.done c.write_plans.ensures.added.remembered c.commit.ensures.survives)

pub returns-in_err-commit-clause-crash : goal.returns-in_err-commit-clause-crash
returns-in_err-commit-clause-crash g c =
    let plans = c.args.plans.now in
    let old = c.args.connection.now in
    let mid = c.rebuild_tables.new.tx.conn.now in
    let last = c.write_plans.new.tx.conn.now in
    let same : c.commit.new.self.0 ≡ c.connection-2-1.given.0 = search rules in
    subst (λ held. MayMake g.S.Store old held (OrdersRows plans)) same
    (both_leave g.S.Store old c.transaction-tx.result.conn.now mid last c.commit.new.self.0 RemakesTables
    (AddsPlansRows plans) (OrdersRows plans) (orders_rows plans) c.transaction-tx.ensures.begun
    c.in_ok-rebuild_tables.ensures.ran.done c.rebuild_tables.ensures.ran.remembered
    c.in_ok-write_plans.ensures.added.done c.write_plans.ensures.added.remembered c.commit.ensures.survives)
