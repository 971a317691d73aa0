use Rattle.live_index.proofs.GroupBoxLemmas.{round_begins, round_more}
use Rattle.live_index.proofs.group.join_of_boxes.Goals as goal

pub loop-chunk-init : goal.loop-chunk-init
loop-chunk-init c = round_begins c.args.first.now c.args.others.now

pub loop-chunk-preserved : goal.loop-chunk-preserved
loop-chunk-preserved c =
    round_more c.args.first.now c.args.others.now c.loop-chunk.chunk-index c.chunk-item.result
    c.loop-chunk.bbox c.join-bbox.result c.loop-chunk-test.true c.chunk-item.is c.join-bbox.ensures.left
    c.join-bbox.ensures.right c.loop-chunk.invariant
