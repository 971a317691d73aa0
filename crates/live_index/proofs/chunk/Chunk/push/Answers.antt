use Rattle.live_index.proofs.BoxLemmas.{in_box_with}
use Rattle.live_index.proofs.chunk.Chunk.push.Goals as goal

pub returns-clause-bounded : goal.returns-clause-bounded
returns-clause-bounded c =
    in_box_with c.args.self.now.bbox c.widened-self.result c.args.live.now c.args.self.now.volumes.items
    c.push.new.self.items c.in_ok-push.ensures.items c.widened-self.ensures.one c.widened-self.ensures.kept
