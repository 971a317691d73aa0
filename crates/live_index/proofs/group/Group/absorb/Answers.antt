use Rattle.std.proofs.Common.{◌∙◌, ap, subst, sym}
use Rattle.std.specs.List.{AllByRecursion}
use Rattle.desk_store.proofs.lemmas.Order.{all_append}
use Rattle.live_index.specs.Live.{AreBoundedChunks, IsInBox, IsBoundedChunk, volumes_in}
use Rattle.live_index.proofs.GatherLemmas.{volumes-append}
use Rattle.live_index.proofs.group.Group.absorb.Goals as goal

pub returns-clause-same : goal.returns-clause-same
returns-clause-same c =
    ap volumes_in c.move_all.ensures
    ∙ volumes-append (λ k. k.volumes.items) c.args.self.now.chunks.items c.args.next.chunks.items

pub returns-clause-group_bounded : goal.returns-clause-group_bounded
returns-clause-group_bounded c = λ h k.
    let whole = subst AreBoundedChunks (sym c.move_all.ensures)
    (all_append IsBoundedChunk c.args.self.now.chunks.items c.args.next.chunks.items h.each k.each) in record {
      each = whole;
      all = subst (λ cs. AllByRecursion (IsInBox c.around_chunks-self.result) (volumes_in cs))
          c.deref.ensures.value
          (c.around_chunks-self.ensures (subst AreBoundedChunks (sym c.deref.ensures.value) whole));
    }
