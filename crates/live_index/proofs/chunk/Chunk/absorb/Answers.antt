use Rattle.std.proofs.Common.{◌++◌, ◌∙◌, ap}
use Rattle.live_index.proofs.BoxLemmas.{in_box_both}
use Rattle.live_index.proofs.chunk.Chunk.absorb.Goals as goal

pub returns-clause-bounded : goal.returns-clause-bounded
returns-clause-bounded c =
    let old = c.args.self.now in
    let next = c.args.next.now in
    in_box_both old.bbox next.bbox c.join-self.result old.volumes.items next.volumes.items
    c.push_all.new.volumes.items
    (c.push_all.ensures ∙ ap (λ ys. old.volumes.items ++ ys) c.deref.ensures.value)
    c.join-self.ensures.left c.join-self.ensures.right
