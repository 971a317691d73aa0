use Rattle.std.proofs.Common.{◌<◌, ◌∙◌, ap, length, rules}
use Rattle.std.proofs.lemmas.Result.{on_err_weaker, on_ok_weaker}
use Rattle.live_index.specs.declared.chunk.Chunk.{Chunk}
use Rattle.live_index.proofs.GatherLemmas.{added_one, kept_one, last_added, pushed, unmoved}
use Rattle.live_index.proofs.chunk.add.Goals as goal

pub returns-then-at-len-clause-added : goal.returns-then-at-len-clause-added
returns-then-at-len-clause-added c =
    let below : c.last_at_or_before-at.result < length c.args.chunks.now.items = search rules in
    on_ok_weaker c.push.result (λ is.
    added_one (λ k. k.volumes.items) c.args.live.now c.args.chunks.now.items c.last_at_or_before-at.result
    c.index_mut.result.now c.push.new.self below
    (pushed c.args.live.now _ c.index_mut.result.now.volumes.items c.push.new.self.volumes.items is
    (ap (λ (k : Chunk). k.volumes.items) c.index_mut.ensures.value)))
    c.push.ensures.same

pub returns-then-at-len-clause-kept : goal.returns-then-at-len-clause-kept
returns-then-at-len-clause-kept c =
    let below : c.last_at_or_before-at.result < length c.args.chunks.now.items = search rules in
    on_err_weaker c.push.result (λ is.
    kept_one (λ k. k.volumes.items) c.args.chunks.now.items c.last_at_or_before-at.result
    c.index_mut.result.now c.push.new.self below
    (unmoved _ c.push.new.self.volumes.items
    (is ∙ ap (λ (k : Chunk). k.volumes.items) c.index_mut.ensures.value)))
    c.push.ensures.volumes_unchanged

pub returns-clause-added : goal.returns-clause-added
returns-clause-added c =
    last_added (λ k. k.volumes.items) c.args.live.now c.args.chunks.now.items c.push-2.new.self.items
    c.in_ok-from_all.field-0 c.in_ok-push.ensures.items
    (c.in_ok-from_all.ensures.same ∙ c.from_ref.ensures.value)
