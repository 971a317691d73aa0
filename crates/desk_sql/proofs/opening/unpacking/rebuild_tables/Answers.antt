use Rattle.std.proofs.Common.{arith, rules, IfErr, IsTrue}
use Rattle.sqlite.specs.Effect.{IsDatabase}
use Rattle.sqlite.specs.Held.{state}
use Rattle.sqlite.specs.State.{HasCleanDisk}
use Rattle.desk_sql.specs.declared.opening.finding.TablesPresent.TheVariants.{Packed}
use Rattle.desk_sql.specs.Effects.{Holds}
use Rattle.desk_sql.specs.Changing.{HasSmallSpans}
use Rattle.desk_sql.specs.Statements.{IsRefusal}
use Rattle.desk_sql.specs.Rows.{tables_at}
use Rattle.desk_sql.proofs.DropStops.{remaking_refused}
use Rattle.desk_sql.proofs.opening.unpacking.rebuild_tables.Goals as goal

pub returns-clause-ran : goal.returns-clause-ran
returns-clause-ran g c =
    let old = c.args.tx.now.conn.now in
    let mid = c.unpack.new.tx.conn.now in
    let new = c.make_rest.new.tx.conn.now in
    let first = c.in_ok-unpack.ensures.ran in
    let last = c.make_rest.ensures.ran in
    let refused : Holds g.S.Store old IsDatabase × IsTrue old.in_transaction
    × HasSmallSpans (tables_at Packed (state g.S.Store old).now.trees) → HasCleanDisk (state g.S.Store new)
    → IsTrue (state g.S.Store old).is_open → IfErr c.make_rest.result (IsRefusal g.S.Store old new) =
    λ fits clean live.
    let early : HasCleanDisk (state g.S.Store mid) = omega (arith, last.remembered.doubt, clean) in
    remaking_refused g.S.Store old mid new c.make_rest.result first.remembered.faults first.remembered.limit
    (first.done early) fits.2 (λ few here. last.cause few clean here) in
    search (rules, refused)
