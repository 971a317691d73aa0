use Rattle.std.proofs.Common.{◌≡◌, ◌≢◌}
use Rattle.desk_sql.specs.declared.opening.finding.TablesPresent.TheVariants.{Packed}
use Rattle.desk_sql.specs.Changing.{left_to_make}
use Rattle.desk_sql.specs.Effects.{StaysOpen}
use Rattle.desk_sql.proofs.CreateLemmas.{HasGrown}
use Rattle.desk_sql.proofs.opening.making.make_rest.Given as goal

abbrev pub invariant-steps : goal.invariant-steps
invariant-steps g l = (l.tx.conn.ghost_name ≡ l.fn.tx.conn.ghost_name)
    × HasGrown g.S.Store l.fn.made l.at l.fn.tx.conn.now l.tx.conn.now
    × StaysOpen g.S.Store l.fn.tx.conn.now l.tx.conn.now
    × (l.at ≢ Packed)

abbrev pub decreases-steps : goal.decreases-steps
decreases-steps g l = left_to_make l.at
