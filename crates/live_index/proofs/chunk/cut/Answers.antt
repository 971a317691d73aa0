use Rattle.std.proofs.Common.{◌++◌, IsPermutation, set, subst, sym}
use Rattle.live_index.specs.declared.chunk.Chunk.{Chunk}
use Rattle.live_index.specs.Live.{volumes_in}
use Rattle.live_index.proofs.GatherLemmas.{cut_in_two}
use Rattle.live_index.proofs.chunk.cut.Goals as goal

pub returns-clause-same : goal.returns-clause-same
returns-clause-same c =
    let old = c.args.chunks.now.items in
    let before = c.in_ok-before.before in
    let after = c.in_ok-before.after in
    subst (λ cs. IsPermutation (volumes_in old) (volumes_in (set cs c.args.at before)))
    (sym c.in_ok-insert.ensures.items)
    (cut_in_two (λ k. k.volumes.items) old c.args.at c.index.result.now before after c.requires
    (subst (λ (k : Chunk). IsPermutation k.volumes.items (before.volumes.items ++ after.volumes.items))
    c.index.ensures c.in_ok-before.ensures.same))
