use Rattle.std.proofs.Common.{rules}
use Rattle.live_index.specs.Live.{IsBoundedChunk}
use Rattle.live_index.proofs.ChunkLemmas.{cut_goes_on}
use Rattle.live_index.proofs.chunk.chunked.Goals as goal

pub loop-rest-preserved : goal.loop-rest-preserved
loop-rest-preserved c =
    cut_goes_on (λ k. k.volumes.items) IsBoundedChunk c.args.lives.now c.loop-rest.chunks.items c.push.new.self.items
    c.loop-rest.rest.now c.split_at.result.0.now c.split_at.result.1.now c.in_ok-from_all.field-0
    c.loop-rest.invariant (search rules) c.in_ok-from_all.ensures.same c.in_ok-from_all.ensures.bounded
    c.in_ok-push.ensures.items
