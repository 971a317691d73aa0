use Rattle.std.proofs.Common.{◌<◌, ◌+◌, ◌∙◌, ap, get_or, length, rules, set}
use Rattle.live_index.specs.Live.{volumes_in}
use Rattle.live_index.proofs.GatherLemmas.{merged}
use Rattle.live_index.proofs.chunk.merge.Goals as goal

pub returns-then-has_room_for-clause-same : goal.returns-then-has_room_for-clause-same
returns-then-has_room_for-clause-same c =
    let old = c.args.chunks.now.items in
    let at = c.args.at in
    let one = c.index_mut.result.now in
    let below : at + 1 < length old = search rules in
    ap (λ cs. volumes_in (set cs at c.absorb.new.self)) c.remove-next.ensures.items
    ∙ merged (λ k. k.volumes.items) old at one c.remove-next.result c.absorb.new.self below
    (c.index_mut.ensures.value ∙ ap (λ cs. get_or cs at one) c.remove-next.ensures.items)
    c.remove-next.ensures.value c.absorb.ensures.same
