use Rattle.slab_regions.specs.Regions.{sought_has}
use Rattle.live_index.specs.Live.{IsBoundedChunk}
use Rattle.live_index.proofs.NearLemmas.{adds_next, adds_none}
use Rattle.live_index.proofs.chunk.add_near_in.Goals as goal

pub loop-chunk-init : goal.loop-chunk-init
loop-chunk-init c = λ bounded.
    adds_none c.args.wanted.now (sought_has c.args.sought.now) c.args.near.now

pub loop-chunk-preserved : goal.loop-chunk-preserved
loop-chunk-preserved c =
    adds_next (λ k. k.volumes.items) IsBoundedChunk c.args.wanted.now (sought_has c.args.sought.now)
    c.args.chunks.now c.loop-chunk.chunk-index c.chunk-item.result c.args.near.now c.loop-chunk.near
    c.add_near.new.near c.loop-chunk-test.true c.chunk-item.is c.loop-chunk.invariant c.in_ok-add_near.ensures
