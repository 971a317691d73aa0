use Rattle.row_codec.proofs.lemmas.Unread.{HaveRead}
use Rattle.row_codec.proofs.values.area_in.Given as goal

abbrev pub invariant-loop-row : goal.invariant-loop-row
invariant-loop-row l = HaveRead l.at l.rows l.row-index l.volumes.items
