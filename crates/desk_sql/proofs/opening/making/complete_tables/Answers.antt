use Rattle.std.proofs.Common.{◌≡◌, rules, arith, subst, OnOk}
use Rattle.std.proofs.lemmas.Result.{on_ok_weaker}
use Rattle.sqlite.specs.State.{HasCleanDisk}
use Rattle.sqlite.specs.Held.{state}
use Rattle.desk_sql.specs.Changing.{Completes, MayComplete}
use Rattle.desk_sql.proofs.CreateLemmas.{completed, may_complete}
use Rattle.desk_sql.proofs.opening.making.complete_tables.Goals as goal

pub returns-clause-done : goal.returns-clause-done
returns-clause-done g c =
    let same : c.commit.new.self.0 ≡ c.connection-2-1.given.0 = search rules in
    subst (λ held. HasCleanDisk (state g.S.Store held)
    → OnOk c.commit.result (Completes g.S.Store c.args.made c.args.connection.now held)) same
    (λ clean. on_ok_weaker c.commit.result
    (λ shown. completed g.S.Store c.args.made c.args.connection.now c.transaction-tx.result.conn.now
    c.make_rest.new.tx.conn.now c.commit.new.self.0 c.transaction-tx.ensures.begun
    (c.in_ok-make_rest.ensures.ran.done (omega (arith, c.commit.ensures.survives.clean, clean))) shown.1)
    (c.commit.ensures.ok clean))

pub returns-clause-crash : goal.returns-clause-crash
returns-clause-crash g c =
    let same : c.commit.new.self.0 ≡ c.connection-2-1.given.0 = search rules in
    subst (λ held. MayComplete g.S.Store c.args.made c.args.connection.now held) same
    (may_complete g.S.Store c.args.made c.args.connection.now c.transaction-tx.result.conn.now
    c.make_rest.new.tx.conn.now c.commit.new.self.0 c.transaction-tx.ensures.begun
    c.in_ok-make_rest.ensures.ran.done c.make_rest.ensures.ran.remembered.spared c.commit.ensures.survives)
