use Rattle.std.proofs.Common.{◌∙◌, ap, sym}
use Rattle.live_index.specs.declared.chunk.Chunk.{Chunk}
use Rattle.live_index.specs.Live.{volumes_in}
use Rattle.live_index.proofs.GatherLemmas.{removed}
use Rattle.live_index.proofs.chunk.drop_if_empty.Goals as goal

pub returns-then-is_empty-clause-same : goal.returns-then-is_empty-clause-same
returns-then-is_empty-clause-same c =
    ap volumes_in c.remove-empty.ensures.items
    ∙ removed (λ k. k.volumes.items) c.args.chunks.now.items c.args.at c.index.result.now c.requires
    (ap (λ (k : Chunk). k.volumes.items) (sym c.index.ensures) ∙ c.is_empty.ensures c.if-is_empty.true)
