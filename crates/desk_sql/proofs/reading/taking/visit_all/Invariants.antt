use Rattle.std.proofs.Common.{◌≡◌, false}
use Rattle.desk_sql.specs.Effects.{Remembers}
use Rattle.desk_sql.specs.Queries.{KeepsOn, TakesOn}
use Rattle.desk_sql.proofs.TakingLemmas.{IsUnderWay}
use Rattle.desk_sql.proofs.reading.taking.visit_all.Given as goal

abbrev pub invariant-loop : goal.invariant-loop
invariant-loop g l =
    (l.rows.conn.ghost_name ≡ l.fn.rows.conn.ghost_name)
    × (l.fn.rows.conn.now.in_transaction ≡ false → l.rows.conn.now.in_transaction ≡ false)
    × Remembers g.S.Store l.fn.rows.conn.now l.rows.conn.now
    × IsUnderWay g.S.Store l.fn.rows.conn.now l.rows.conn.now (g.T.RowVisitor.has_taken l.fn.visitor)
    (g.T.RowVisitor.has_taken l.visitor) l.counter
    × TakesOn (g.T.RowVisitor.has_taken l.fn.visitor) (g.T.RowVisitor.has_taken l.visitor)
    × KeepsOn g.T.RowVisitor.keeps l.fn.visitor l.visitor
