use Rattle.std.proofs.Common.{arith}
use Rattle.live_index.proofs.BoxLemmas.{in_box_right, in_box_left}
use Rattle.live_index.proofs.bbox.BoundingBox.join.Goals as goal

pub returns-clause-left : goal.returns-clause-left
returns-clause-left c = λ live h.
    in_box_left c.args.self.now c.args.other.now.bounds c.join.result c.max.result live c.join.ensures
    (omega (arith, c.max.ensures)) h

pub returns-clause-right : goal.returns-clause-right
returns-clause-right c = λ live h.
    in_box_right c.args.self.now.bounds c.args.other.now c.join.result c.max.result live c.join.ensures
    (omega (arith, c.max.ensures)) h
