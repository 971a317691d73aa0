use Rattle.live_index.proofs.BoxLemmas.{in_box_more}
use Rattle.live_index.proofs.bbox.BoundingBox.around.Goals as goal

pub loop-live-preserved : goal.loop-live-preserved
loop-live-preserved c =
    in_box_more c.args.first.now c.args.more.now c.loop-live.live-index c.live-item.result c.loop-live.bbox
    c.widened-bbox.result c.loop-live-test.true c.live-item.is c.loop-live.invariant
    c.widened-bbox.ensures.one c.widened-bbox.ensures.kept
