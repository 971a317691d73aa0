use Rattle.table_load.proofs.lemmas.Cut.{transaction_leaves}
use Rattle.desk_sql.specs.Changing.{RemakesTables}
use Rattle.desk_sql.specs.Effects.{MayMake}
use Rattle.std.proofs.Common.{◌≡◌, rules, subst}
use Rattle.table_load.proofs.ordering.rebuild_alone.Goals as goal

pub returns-clause-crash : goal.returns-clause-crash
returns-clause-crash g c =
    let old = c.args.connection.now in
    let last = c.rebuild_tables.new.tx.conn.now in
    let same : c.commit.new.self.0 ≡ c.connection-2-1.given.0 = search rules in
    subst (λ held. MayMake g.S.Store old held RemakesTables) same
    (transaction_leaves g.S.Store old c.transaction-tx.result.conn.now last c.commit.new.self.0 RemakesTables
    c.transaction-tx.ensures.begun c.in_ok-rebuild_tables.ensures.ran.done
    c.rebuild_tables.ensures.ran.remembered.spared c.commit.ensures.survives)

pub returns-in_err-commit-clause-crash : goal.returns-in_err-commit-clause-crash
returns-in_err-commit-clause-crash g c =
    let old = c.args.connection.now in
    let last = c.rebuild_tables.new.tx.conn.now in
    let same : c.commit.new.self.0 ≡ c.connection-2-1.given.0 = search rules in
    subst (λ held. MayMake g.S.Store old held RemakesTables) same
    (transaction_leaves g.S.Store old c.transaction-tx.result.conn.now last c.commit.new.self.0 RemakesTables
    c.transaction-tx.ensures.begun c.in_ok-rebuild_tables.ensures.ran.done
    c.rebuild_tables.ensures.ran.remembered.spared c.commit.ensures.survives)
