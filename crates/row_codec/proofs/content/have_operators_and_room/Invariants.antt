use Rattle.std.proofs.Common.{length}
use Rattle.row_codec.proofs.lemmas.Share.{AreToShare}
use Rattle.row_codec.proofs.content.have_operators_and_room.Given as goal

abbrev pub invariant-loop-listed : goal.invariant-loop-listed
invariant-loop-listed l = AreToShare l.operators l.plans l.others l.left

abbrev pub decreases-loop-listed : goal.decreases-loop-listed
decreases-loop-listed l = length l.others
