use Rattle.row_codec.proofs.lemmas.Exact.{Placing}
use Rattle.row_codec.proofs.exact.are_volume_rows.Given as goal

abbrev pub invariant-loop-place : goal.invariant-loop-place
invariant-loop-place l = Placing l.plan l.rows l.plan.row.area l.place
