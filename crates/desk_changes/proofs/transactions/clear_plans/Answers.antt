use Rattle.std.proofs.Common.{◌≡◌, rules, map, arith, subst, OnOk}
use Rattle.std.proofs.lemmas.Result.{on_ok_weaker}
use Rattle.std.specs.String.{string_bytes}
use Rattle.sqlite.specs.State.{HasCleanDisk}
use Rattle.sqlite.specs.Held.{state}
use Rattle.desk_changes.specs.RowChanges.{RemovesPlans}
use Rattle.desk_sql.specs.Effects.{Commits, MayMake}
use Rattle.desk_sql.proofs.lemmas.Leaving.{may_make, committed}
use Rattle.desk_changes.proofs.transactions.clear_plans.Goals as goal

pub returns : goal.returns
returns g c =
    let old = c.args.connection.now in
    let new = c.connection-2-1.given.0 in
    let changes = RemovesPlans c.args.operator.now (map string_bytes c.args.ids.now) in
    let same : c.commit.new.self.0 ≡ new = search rules in
    let done : HasCleanDisk (state g.S.Store new) → OnOk c.commit.result (Commits g.S.Store old new changes) =
    subst (λ held. HasCleanDisk (state g.S.Store held)
    → OnOk c.commit.result (Commits g.S.Store old held changes)) same
    (λ clean. on_ok_weaker c.commit.result
    (λ shown. committed g.S.Store old c.transaction-tx.result.conn.now
    c.remove_plans.new.tx.conn.now c.commit.new.self.0 changes c.transaction-tx.ensures.begun
    (c.in_ok-remove_plans.ensures.done (omega (arith, c.commit.ensures.survives.clean, clean))) shown.1)
    (c.commit.ensures.ok clean)) in
    let crash : MayMake g.S.Store old new changes =
    subst (λ held. MayMake g.S.Store old held changes) same
    (may_make g.S.Store old c.transaction-tx.result.conn.now
    c.remove_plans.new.tx.conn.now c.commit.new.self.0 changes c.transaction-tx.ensures.begun
    c.in_ok-remove_plans.ensures.done c.remove_plans.ensures.remembered.spared c.commit.ensures.survives) in
    record {
      committed = record {
        done = done;
        kept = search rules;
        cause = search rules;
        over = search rules;
        crash = crash;
      };
    }
